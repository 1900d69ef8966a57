use Rattle.std.proofs.Common.{◌≡◌, ◌+◌, ◌-◌, ◌*◌, length}
use Rattle.cond_reader.specs.Conds.{more_ands, more_ors, next_and, next_or, inside}
use Rattle.cond_reader.specs.Relations.{or_else, both, either}
use Rattle.cond_reader.specs.Reads.{chain}
use Rattle.cond_reader.specs.View.{text_of}
use Rattle.cond_reader.proofs.text.Reader.+cond.Given as goal

abbrev pub decreases-parenthesized : goal.decreases-parenthesized
decreases-parenthesized l = 16 * l.level + 0

abbrev pub decreases-simple : goal.decreases-simple
decreases-simple l = 16 * l.level + 1

abbrev pub decreases-negation : goal.decreases-negation
decreases-negation l = 16 * l.level + 2

abbrev pub decreases-part_of_condition : goal.decreases-part_of_condition
decreases-part_of_condition l = 16 * l.level + 3

abbrev pub decreases-next_and : goal.decreases-next_and
decreases-next_and l = 16 * l.level + 4

abbrev pub decreases-more_ands : goal.decreases-more_ands
decreases-more_ands l = 16 * l.level + 5

abbrev pub decreases-conjunction : goal.decreases-conjunction
decreases-conjunction l = 16 * l.level + 6

abbrev pub decreases-next_or : goal.decreases-next_or
decreases-next_or l = 16 * l.level + 7

abbrev pub decreases-more_ors : goal.decreases-more_ors
decreases-more_ors l = 16 * l.level + 8

abbrev pub decreases-disjunction : goal.decreases-disjunction
decreases-disjunction l = 16 * l.level + 9

abbrev pub invariant-more_ands-loop-turn : goal.invariant-more_ands-loop-turn
invariant-more_ands-loop-turn l =
    let t = text_of l.self in
    let read = inside t l.level in
    more_ands t l.level read l.last l.fn.left l.fn.at ≡ chain (λ p. next_and t l.level read (or_else p.last l.last)) both (length l.self.kinds.now - l._turn) l.left l.at

abbrev pub invariant-more_ors-loop-turn : goal.invariant-more_ors-loop-turn
invariant-more_ors-loop-turn l =
    let t = text_of l.self in
    let read = inside t l.level in
    more_ors t l.level read l.last l.fn.left l.fn.at ≡ chain (λ p. next_or t l.level read (or_else p.last l.last)) either (length l.self.kinds.now - l._turn) l.left l.at
