use Rattle.std.proofs.Common.{◌≡◌, ◌-◌, length}
use Rattle.cond_reader.specs.Reads.{chain}
use Rattle.program_reader.specs.Entries.{more_entry_parts, next_entry_part, with_part}
use Rattle.program_reader.specs.View.{view_of}
use Rattle.program_reader.proofs.text.Units.more_entry_parts.Given as goal

abbrev pub invariant-loop-turn : goal.invariant-loop-turn
invariant-loop-turn l =
    more_entry_parts (view_of l.self) l.fn.draft l.fn.at ≡ chain (next_entry_part (view_of l.self)) with_part (5 - l._turn) l.draft l.at
