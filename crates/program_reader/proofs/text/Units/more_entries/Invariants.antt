use Rattle.std.proofs.Common.{◌≡◌, ◌-◌, length}
use Rattle.program_reader.specs.Programs.{each}
use Rattle.program_reader.specs.Programs.{more_entries, next_entry}
use Rattle.cond_reader.specs.Text.{sees}
use Rattle.cond_reader.specs.declared.symbol.Symbol.TheVariants as s
use Rattle.program_reader.specs.View.{view_of}
use Rattle.program_reader.proofs.text.Units.more_entries.Given as goal

abbrev pub invariant-loop-turn : goal.invariant-loop-turn
invariant-loop-turn l =
    more_entries (view_of l.self) l.fn.entries l.fn.at ≡ each (sees (view_of l.self).text s.Number) (next_entry (view_of l.self)) (length l.self.terms.now - l._turn) l.entries l.at
