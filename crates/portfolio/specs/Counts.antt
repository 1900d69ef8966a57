-- Names with how often they stand.
use Rattle.std.specs.Prelude.{◌≡◌, ℕ, Bool, nat_le, List, unwrap_or, if◌then◌else◌}
use Rattle.std.specs.List.{count_by}
use Rattle.std.specs.Str.{bytes_eq}
use Rattle.std.specs.BTreeMap.{BTreeMap, get_by}
use Rattle.std.specs.Cmp.Lexicographic.{slice_cmp}
use Rattle.std.specs.Ordering.{nat_cmp}
use denote.Ref.{Bor}

-- how often a name is counted
abbrev pub count_in : BTreeMap (Bor (List ℕ)) ℕ → List ℕ → ℕ
count_in counts name = unwrap_or (get_by (λ (k : Bor (List ℕ)). slice_cmp nat_cmp name k.now) counts) 0

abbrev pub is_counted_twice : BTreeMap (Bor (List ℕ)) ℕ → List ℕ → Bool
is_counted_twice counts name = nat_le 2 (count_in counts name)

-- each name is counted as often as it stands
abbrev pub CountsAll : List (List ℕ) → BTreeMap (Bor (List ℕ)) ℕ → Type 0
CountsAll names counts = (q : List ℕ) → count_in counts q ≡ count_by (λ name. bytes_eq q name) names

-- the name has another count now, and other names have theirs
abbrev pub PutsCount : List ℕ → ℕ → BTreeMap (Bor (List ℕ)) ℕ → BTreeMap (Bor (List ℕ)) ℕ → Type 0
PutsCount name count old new = (q : List ℕ) → count_in new q ≡ (if bytes_eq name q then count else count_in old q)
