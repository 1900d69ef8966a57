use Rattle.std.proofs.Common.{◌≤◌, subst}
use Rattle.std.proofs.lemmas.Option.{slice_get_within, get_or_from_slice_get}
use Rattle.year_pairs.specs.declared.year.Year.{Year}
use Rattle.window_modes.proofs.tests.years.Goals as goal

pub returns : goal.returns
returns c = λ i y at.
    subst (λ (z : Year). z.place.offset ≤ 65535) (get_or_from_slice_get c.loop-i.years.items i y y at)
    (c.loop-i.invariant i y (slice_get_within c.loop-i.years.items i y at))
