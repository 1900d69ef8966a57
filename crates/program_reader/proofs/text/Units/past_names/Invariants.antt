use Rattle.std.proofs.Common.{◌≡◌, ◌-◌, length}
use Rattle.program_reader.specs.Files.{past_names, past_some_names}
use Rattle.program_reader.specs.View.{view_of}
use Rattle.program_reader.proofs.text.Units.past_names.Given as goal

abbrev pub invariant-loop-turn : goal.invariant-loop-turn
invariant-loop-turn l = past_names (view_of l.self) l.fn.at ≡ past_some_names (view_of l.self) (length l.self.terms.now - l._turn) l.at
