use Rattle.std.proofs.Common.{◌≡◌, ◌-◌, length}
use Rattle.cond_reader.specs.Reads.{chain}
use Rattle.program_reader.specs.Files.{more_file_parts, next_file_part, with_file_part}
use Rattle.program_reader.specs.View.{view_of}
use Rattle.program_reader.proofs.text.Units.more_file_parts.Given as goal

abbrev pub invariant-loop-turn : goal.invariant-loop-turn
invariant-loop-turn l =
    more_file_parts (view_of l.self) l.fn.contains l.fn.at ≡ chain (next_file_part (view_of l.self)) with_file_part (length l.self.terms.now - l._turn) l.contains l.at
