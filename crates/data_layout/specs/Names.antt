-- The names that an index of names has.
use Rattle.std.specs.Prelude.{ℕ, Bool, List}
use Rattle.std.specs.Ordering.{nat_cmp}
use Rattle.std.specs.Cmp.Lexicographic.{slice_cmp}
use Rattle.std.specs.BTreeSet.{contains_by}
use Rattle.data_layout.specs.declared.names.Names.{Names}

abbrev pub named : Names → List ℕ → Bool
named names name = contains_by (λ k. slice_cmp nat_cmp name k.items) names.index
