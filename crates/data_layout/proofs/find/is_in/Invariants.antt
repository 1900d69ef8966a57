use Rattle.std.proofs.Common.{◌≡◌, ◌-◌, length}
use Rattle.data_layout.specs.Find as spec
use Rattle.data_layout.proofs.find.is_in.Given as goal

abbrev pub invariant-loop-turn : goal.invariant-loop-turn
invariant-loop-turn l =
    spec.is_in (length l.items - l._turn) l.items l.areas l.id l.outer l.left ≡ spec.is_in (length l.items) l.items l.areas l.id l.fn.holder l.qualifiers
