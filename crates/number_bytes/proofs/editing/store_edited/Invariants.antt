use Rattle.std.proofs.Common.{◌≡◌, ◌+◌, ◌++◌, length, take, drop}
use Rattle.program_meaning.specs.Kind as kind
use Rattle.program_meaning.specs.Kind.{digits_shown}
use Rattle.program_meaning.specs.Arithmetic as exact
use Rattle.number_bytes.specs.Stored.{symbols}
use Rattle.number_bytes.specs.Editing.{still_shown}
use Rattle.number_bytes.proofs.editing.store_edited.Given as goal

abbrev pub invariant-loop-i : goal.invariant-loop-i
invariant-loop-i l = (take l.at l.into ++ still_shown l.editing (symbols (drop l.i l.picture)) ≡ exact.result_bytes (kind.Edited (symbols l.picture)) l.fn.number)
    × (l.editing.left ≡ digits_shown (symbols (drop l.i l.picture)))
    × (l.at + length (symbols (drop l.i l.picture)) ≡ length l.into)
