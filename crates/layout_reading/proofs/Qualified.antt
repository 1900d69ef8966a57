-- A thing has the qualifiers of a name exactly where they stand, in their order, among the names above it.
use Rattle.std.proofs.Common.{◌≡◌, ◌≢◌, ◌<◌, ℕ, zero, suc, ◌+◌, ◌==◌, List, [], ◌∷◌, ◌++◌, refl, sym, ap, ap₂, ◌∙◌, arith, Option, Some, None, Bool, true, false, cond}
use Rattle.std.specs.Prelude.{◌&&◌, ◌||◌, if◌then◌else◌, slice_get, bytes_eq}
use Rattle.std.proofs.lemmas.Slice.Eq.{bytes_eq-Decides}
use Rattle.y2k_base.specs.declared.place.AreaId.{AreaId}
use Rattle.data_layout.specs.declared.item.Item.{Item}
use Rattle.data_layout.specs.declared.item.Area.{Area}
use Rattle.data_layout.specs.Find.{has_name, group_name, holder_of, left_after, is_file, ends, is_in}
use Rattle.program_meaning.specs.Tree.{Name}
use Rattle.program_meaning.specs.Layout.{same_name, qualifies}
use Rattle.layout_reading.specs.Names.{unnamed, name_or_unnamed, named, file_above, above_from}
use Rattle.layout_reading.specs.Numbered.{AreNumbered}

nat-eq-sym : (c d : ℕ) → (c == d) ≡ (d == c)
nat-eq-sym c d = grind arith

-- two names are the same where their bytes are equal
pub same-name : (a b : Name) → bytes_eq a b ≡ same_name b a
same-name [] [] = refl
same-name [] (d ∷ ds) = refl
same-name (c ∷ cs) [] = refl
same-name (c ∷ cs) (d ∷ ds) = ap₂ (λ (x y : Bool). x && y) (nat-eq-sym c d) (same-name cs ds)

-- an item has a name where it has one and that is the same
pub has-name : (own : Option Name) (name : Name) → name ≢ unnamed → has_name own name ≡ same_name name (name_or_unnamed own)
has-name (Some own) name word = same-name own name
has-name None name word = by_test (bytes_eq unnamed name) refl where
  by_test : (b : Bool) → bytes_eq unnamed name ≡ b → false ≡ same_name name unnamed
  by_test true is = absurd (word (sym ((bytes_eq-Decides unnamed name).0 is)))
  by_test false is = sym is ∙ same-name unnamed name

-- an area with a lower number isn't among them
not-later : (areas : List Area) (n : ℕ) (id : AreaId) (name : Name) → AreNumbered n areas → id.0 < n → is_file areas id name ≡ false
not-later [] n id name ids low = refl
not-later (area ∷ areas) n id name ids low =
    let number : area.id.0 ≡ n = ids.0 in
    let other : (area.id.0 == id.0) ≡ false = grind (arith, number, low) in
    ap (λ (b : Bool). ((b && area.file) && has_name area.name name) || is_file areas id name) other
    ∙ not-later areas (n + 1) id name ids.1 (omega (arith, low))

-- the name of a file, and no other after it
alone : (own : Option Name) (q : Name) → (has_name own q || false) ≡ qualifies (q ∷ []) (named own)
alone None q = refl
alone (Some own) q = by_test (bytes_eq own q) ∙ ap (λ (b : Bool). cond b true false) (same-name own q) where
  by_test : (b : Bool) → (b || false) ≡ cond b true false
  by_test true = refl
  by_test false = refl

no-two : (own : Option Name) (q r : Name) (qs : List Name) → false ≡ qualifies (q ∷ r ∷ qs) (named own)
no-two None q r qs = refl
no-two (Some own) q r qs = by_test (same_name q own) where
  by_test : (b : Bool) → false ≡ cond b false false
  by_test true = refl
  by_test false = refl

both-true : (a b : Bool) → (a && b) ≡ true → a ≡ true
both-true true b is = refl
both-true false b is = is

-- after the groups the file's name may be asked for, and nothing else
pub ends-file : (areas : List Area) (n : ℕ) (id : AreaId) (names : List Name) → AreNumbered n areas → ends areas id names ≡ qualifies names (file_above areas id)
ends-file [] n id [] ids = refl
ends-file [] n id (q ∷ []) ids = refl
ends-file [] n id (q ∷ r ∷ qs) ids = refl
ends-file (area ∷ areas) n id [] ids = refl
ends-file (area ∷ areas) n id (q ∷ []) ids = by_area (area.id.0 == id.0 && area.file) refl (ends-file areas (n + 1) id (q ∷ []) ids.1) where
  by_area : (b : Bool) → (area.id.0 == id.0 && area.file) ≡ b → is_file areas id q ≡ qualifies (q ∷ []) (file_above areas id)
      → ((b && has_name area.name q) || is_file areas id q) ≡ qualifies (q ∷ []) (if b then named area.name else file_above areas id)
  by_area true is later =
      let same : (area.id.0 == id.0) ≡ true = both-true (area.id.0 == id.0) area.file is in
      let number : area.id.0 ≡ n = ids.0 in
      let low : id.0 < n + 1 = grind (arith, same, number) in
      ap (λ (b : Bool). has_name area.name q || b) (not-later areas (n + 1) id q ids.1 low) ∙ alone area.name q
  by_area false is later = later
ends-file (area ∷ areas) n id (q ∷ r ∷ qs) ids = by_area (area.id.0 == id.0 && area.file) (ends-file areas (n + 1) id (q ∷ r ∷ qs) ids.1) where
  by_area : (b : Bool) → false ≡ qualifies (q ∷ r ∷ qs) (file_above areas id) → false ≡ qualifies (q ∷ r ∷ qs) (if b then named area.name else file_above areas id)
  by_area true later = no-two area.name q r qs
  by_area false later = later

left-after : (own : Option Name) (names above : List Name) → qualifies (left_after own names) above ≡ qualifies names (named own ++ above)
left-after None [] above = refl
left-after None (q ∷ qs) above = refl
left-after (Some own) [] above = refl
left-after (Some own) (q ∷ qs) above =
    by_test (bytes_eq own q) ∙ ap (λ (b : Bool). cond b (qualifies qs above) (qualifies (q ∷ qs) above)) (same-name own q) where
      by_test : (b : Bool) → qualifies (if b then qs else q ∷ qs) above ≡ cond b (qualifies qs above) (qualifies (q ∷ qs) above)
      by_test true = refl
      by_test false = refl

pub qualified : (more : ℕ) (items : List Item) (areas : List Area) (n : ℕ) (id : AreaId) (holder : Option ℕ) (names : List Name) → AreNumbered n areas
    → is_in more items areas id holder names ≡ qualifies names (above_from more items areas id holder)
qualified zero items areas n id holder names ids = ends-file areas n id names ids
qualified (suc more) items areas n id None names ids = ends-file areas n id names ids
qualified (suc more) items areas n id (Some k) names ids =
    qualified more items areas n id (holder_of (slice_get items k)) (left_after (group_name (slice_get items k)) names) ids
    ∙ left-after (group_name (slice_get items k)) names (above_from more items areas id (holder_of (slice_get items k)))
