use Rattle.std.proofs.Common.{◌≡◌, ◌+◌, ◌-◌, ◌*◌, length}
use Rattle.proc_reader.specs.Evaluates.{more_groups, groups_turn}
use Rattle.proc_reader.specs.Reading.{repeated}
use Rattle.proc_reader.specs.Sentences.{more_statements, statements_turn, statements, inside}
use Rattle.proc_reader.specs.View.{source_of}
use Rattle.proc_reader.proofs.sentence.Sentences.+statement.Given as goal

abbrev pub decreases-size_phrase : goal.decreases-size_phrase
decreases-size_phrase l = 16 * l.level + 0

abbrev pub decreases-sizes : goal.decreases-sizes
decreases-sizes l = 16 * l.level + 1

abbrev pub decreases-arithmetic_statements : goal.decreases-arithmetic_statements
decreases-arithmetic_statements l = 16 * l.level + 2

abbrev pub decreases-perform_statement : goal.decreases-perform_statement
decreases-perform_statement l = 16 * l.level + 2

abbrev pub decreases-statement_at : goal.decreases-statement_at
decreases-statement_at l = 16 * l.level + 3

abbrev pub decreases-more_statements : goal.decreases-more_statements
decreases-more_statements l = 16 * l.level + 4

abbrev pub decreases-statements : goal.decreases-statements
decreases-statements l = 16 * l.level + 5

abbrev pub decreases-body : goal.decreases-body
decreases-body l = 16 * l.level + 6

abbrev pub decreases-phrase : goal.decreases-phrase
decreases-phrase l = 16 * l.level + 6

abbrev pub decreases-other : goal.decreases-other
decreases-other l = 16 * l.level + 7

abbrev pub decreases-group : goal.decreases-group
decreases-group l = 16 * l.level + 7

abbrev pub decreases-when_other : goal.decreases-when_other
decreases-when_other l = 16 * l.level + 7

abbrev pub decreases-ends : goal.decreases-ends
decreases-ends l = 16 * l.level + 7

abbrev pub decreases-more_groups : goal.decreases-more_groups
decreases-more_groups l = 16 * l.level + 8

abbrev pub decreases-if_statement : goal.decreases-if_statement
decreases-if_statement l = 16 * l.level + 9

abbrev pub decreases-read_statement : goal.decreases-read_statement
decreases-read_statement l = 16 * l.level + 9

abbrev pub decreases-inline_statement : goal.decreases-inline_statement
decreases-inline_statement l = 16 * l.level + 9

abbrev pub decreases-evaluate_statement : goal.decreases-evaluate_statement
decreases-evaluate_statement l = 16 * l.level + 9

abbrev pub decreases-nested_statement : goal.decreases-nested_statement
decreases-nested_statement l = 16 * l.level + 10

abbrev pub invariant-more_groups-loop-turn : goal.invariant-more_groups-loop-turn
invariant-more_groups-loop-turn l =
    let t = source_of l.self in
    let lists = statements t l.level in
    more_groups t l.level lists l.subject l.fn.groups l.fn.spot ≡ repeated (groups_turn t l.level lists l.subject) (length l.self.parts.kinds.now + 1 - l._turn) l.groups l.spot

abbrev pub invariant-more_statements-loop-turn : goal.invariant-more_statements-loop-turn
invariant-more_statements-loop-turn l =
    let t = source_of l.self in
    let lists = inside t l.level in
    more_statements t l.level lists l.fn.list l.fn.spot ≡ repeated (statements_turn t l.level lists) (length l.self.parts.kinds.now + 1 - l._turn) l.list l.spot
