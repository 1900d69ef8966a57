use Rattle.std.proofs.Common.{◌≡◌, ◌+◌, ◌-◌, ◌++◌, List, cond, length, take, replicate}
use Rattle.program_meaning.specs.Kind.{Symbol, symbol_of}
use Rattle.number_bytes.specs.Editing.{shows_digit, still_shown}
use Rattle.number_bytes.proofs.editing.edit_run.Given as goal

abbrev pub invariant-loop-place : goal.invariant-loop-place
invariant-loop-place l = ((ss : List Symbol) → take (l.at + l.place) l.into ++ still_shown l.now (replicate (l.run.count - l.place) (symbol_of l.run.symbol) ++ ss) ≡ take l.at l.fn.into ++ still_shown l.fn.editing (replicate l.run.count (symbol_of l.run.symbol) ++ ss))
    × (l.now.left + cond (shows_digit (symbol_of l.run.symbol)) l.place 0 ≡ l.fn.editing.left)
    × (length l.into ≡ length l.fn.into)
