use Rattle.std.proofs.Common.{◌≡◌, ◌-◌, length}
use Rattle.cond_reader.specs.Reads.{chain, with_last}
use Rattle.program_reader.specs.CondEntries.{more_ranges, range}
use Rattle.program_reader.specs.View.{view_of}
use Rattle.program_reader.proofs.text.Units.more_ranges.Given as goal

abbrev pub invariant-loop-turn : goal.invariant-loop-turn
invariant-loop-turn l =
    more_ranges (view_of l.self) l.fn.ranges l.fn.at ≡ chain (λ _. range (view_of l.self)) with_last (length l.self.terms.now - l._turn) l.ranges l.at
