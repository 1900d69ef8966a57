use Rattle.std.proofs.Common.{◌≡◌, ◌-◌, length}
use Rattle.cond_reader.specs.Reads.{chain}
use Rattle.program_reader.specs.Selects.{more_select_parts, next_select_part, with_part}
use Rattle.program_reader.specs.View.{view_of}
use Rattle.program_reader.proofs.text.Units.more_select_parts.Given as goal

abbrev pub invariant-loop-turn : goal.invariant-loop-turn
invariant-loop-turn l =
    more_select_parts (view_of l.self) l.fn.parts l.fn.at ≡ chain (next_select_part (view_of l.self)) with_part (3 - l._turn) l.parts l.at
