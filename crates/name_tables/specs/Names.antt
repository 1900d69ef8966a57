-- Sets of names.
use Rattle.std.specs.Prelude.{◌≡◌, ℕ, Bool, true, false, ◌||◌, List}
use Rattle.std.specs.Str.{bytes_eq}
use Rattle.std.specs.Ordering.{nat_cmp, is_gt}
use Rattle.std.specs.Cmp.Lexicographic.{slice_cmp}
use Rattle.std.specs.BTreeSet.{contains_by}
use Rattle.name_tables.specs.declared.names.Names.{Names}

-- which names are there
abbrev pub Known : Type 0
Known = List ℕ → Bool

abbrev pub named : Names → Known
named names name = contains_by (λ k. slice_cmp nat_cmp name k.items) names.index

abbrev pub no_names : Known
no_names = λ _. false

abbrev pub with_name : Known → List ℕ → Known
with_name known name = λ other. bytes_eq other name || known other

-- the least in byte order of those that pass
abbrev pub IsLeast : Known → List ℕ → Type 0
IsLeast test name = (test name ≡ true) × ((other : List ℕ) → test other ≡ true → is_gt (slice_cmp nat_cmp name other) ≡ false)

abbrev pub NonePasses : Known → Type 0
NonePasses test = (other : List ℕ) → test other ≡ false
