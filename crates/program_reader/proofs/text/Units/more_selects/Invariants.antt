use Rattle.std.proofs.Common.{◌≡◌, ◌-◌, length}
use Rattle.program_reader.specs.Programs.{each}
use Rattle.program_reader.specs.Programs.{more_selects, next_select}
use Rattle.program_reader.specs.Views.{has}
use Rattle.program_reader.specs.declared.term.Term.TheVariants as k
use Rattle.program_reader.specs.View.{view_of}
use Rattle.program_reader.proofs.text.Units.more_selects.Given as goal

abbrev pub invariant-loop-turn : goal.invariant-loop-turn
invariant-loop-turn l =
    more_selects (view_of l.self) l.fn.selects l.fn.at ≡ each (has (view_of l.self) k.Select) (next_select (view_of l.self)) (length l.self.terms.now - l._turn) l.selects l.at
