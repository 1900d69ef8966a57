-- What is found among items and condition-names by their numbers, and what their readings have of it.
use Rattle.std.proofs.Common.{◌≡◌, ◌≢◌, ℕ, suc, ◌+◌, List, [], ◌∷◌, length, map, refl, subst, ap, ap₂, arith, Option, Some, Bool, true, false, cond}
use Rattle.std.specs.Prelude.{◌&&◌, if◌then◌else◌, slice_get}
use Rattle.data_layout.specs.declared.item.Item.{Item}
use Rattle.data_layout.specs.declared.item.CondItem.{CondItem}
use Rattle.data_layout.specs.declared.item.Layout.{Layout}
use Rattle.data_layout.specs.declared.found.Found.{Found}
use Rattle.data_layout.specs.declared.found.Found.TheVariants as found
use Rattle.data_layout.specs.Find.{with, among_items, among_conds, item_fits, cond_fits, area_of}
use Rattle.program_meaning.specs.Tree.{Name, Operand}
use Rattle.program_meaning.specs.Layout as layout
use Rattle.program_meaning.specs.Layout.{means, items_meant, conds_meant, only_one}
use Rattle.layout_reading.specs.Names.{unnamed}
use Rattle.layout_reading.specs.Numbered.{AreNumbered}
use Rattle.layout_reading.specs.Values.{first_value, other_values}
use Rattle.layout_reading.specs.Reading.{read_item, read_items, read_cond}
use Rattle.layout_reading.proofs.Qualified.{has-name, same-name, qualified}

-- the one thing of a list that is found stands in it at a number, the first of the list having its own
pub record Stands {A : Type 0} (number : ℕ) (all : List A) (k : ℕ) (meant : List A) : Type 0 where
  pub thing : A
  pub place : ℕ
  pub counted : k ≡ number + place
  pub here : slice_get all place ≡ Some thing
  pub alone : meant ≡ thing ∷ []

pub record Several {A : Type 0} (meant : List A) : Type 0 where
  pub first : A
  pub second : A
  pub more : List A
  pub several : meant ≡ first ∷ second ∷ more

-- what is found, among items or among condition-names, is what is meant
abbrev pub Tells : {A : Type 0} → Bool → ℕ → List A → Found → List A → Type 0
Tells are_items number all found.Unknown meant = meant ≡ []
Tells are_items number all (found.Item k) meant = (are_items ≡ true) × Stands number all k meant
Tells are_items number all (found.Named k) meant = (are_items ≡ false) × Stands number all k meant
Tells are_items number all found.Twice meant = Several meant

stands-behind : {A : Type 0} (number : ℕ) (first : A) (all meant : List A) (k : ℕ) → Stands (number + 1) all k meant → Stands number (first ∷ all) k meant
stands-behind number first all meant k s =
    record { thing = s.thing; place = suc s.place; counted = omega (arith, s.counted); here = s.here; alone = s.alone }

-- one that isn't meant
behind : {A : Type 0} (are_items : Bool) (number : ℕ) (first : A) (all meant : List A) (f : Found) → Tells are_items (number + 1) all f meant
    → Tells are_items number (first ∷ all) f meant
behind are_items number first all meant found.Unknown tells = tells
behind are_items number first all meant (found.Item k) tells = (tells.0, stands-behind number first all meant k tells.1)
behind are_items number first all meant (found.Named k) tells = (tells.0, stands-behind number first all meant k tells.1)
behind are_items number first all meant found.Twice tells = tells

first-stands : {A : Type 0} (number : ℕ) (first : A) (all meant : List A) → meant ≡ [] → Stands number (first ∷ all) number (first ∷ meant)
first-stands number first all meant none =
    record { thing = first; place = 0; counted = omega arith; here = refl; alone = ap (λ (xs : List _). first ∷ xs) none }

two : {A : Type 0} (first second : A) (meant more : List A) → meant ≡ second ∷ more → Several (first ∷ meant)
two first second meant more is = record { first = first; second = second; more = more; several = ap (λ (xs : List _). first ∷ xs) is }

-- an item that is meant
in-front : {A : Type 0} (number : ℕ) (first : A) (all meant : List A) (f : Found) → Tells true (number + 1) all f meant
    → Tells true number (first ∷ all) (with (found.Item number) f) (first ∷ meant)
in-front number first all meant found.Unknown tells = (refl, first-stands number first all meant tells)
in-front number first all meant (found.Item k) tells = two first tells.1.thing meant [] tells.1.alone
in-front number first all meant (found.Named k) tells = two first tells.1.thing meant [] tells.1.alone
in-front number first all meant found.Twice tells = two first tells.first meant (tells.second ∷ tells.more) tells.several

-- a condition-name that is meant
in-front-named : {A : Type 0} (number : ℕ) (first : A) (all meant : List A) (f : Found) → Tells false (number + 1) all f meant
    → Tells false number (first ∷ all) (with (found.Named number) f) (first ∷ meant)
in-front-named number first all meant found.Unknown tells = (refl, first-stands number first all meant tells)
in-front-named number first all meant (found.Item k) tells = two first tells.1.thing meant [] tells.1.alone
in-front-named number first all meant (found.Named k) tells = two first tells.1.thing meant [] tells.1.alone
in-front-named number first all meant found.Twice tells = two first tells.first meant (tells.second ∷ tells.more) tells.several

module _ (l : Layout) (first : ℕ) (ids : AreNumbered first l.areas) (name : Name) (qs : List Name) where
  item-fits : name ≢ unnamed → (item : Item) (v : Option Operand) → item_fits l name qs item ≡ means (name ∷ qs) (read_item l item v).name (read_item l item v).above
  item-fits word item v =
      ap₂ (λ (x y : Bool). x && y) (has-name item.name name word) (qualified (length l.items) l.items l.areas first item.span.area item.parent qs ids)

  cond-fits : (items : List layout.Item) (c : CondItem) → cond_fits l name qs c ≡ means (name ∷ qs) (read_cond l items c).name (read_cond l items c).above
  cond-fits items c =
      ap₂ (λ (x y : Bool). x && y) (same-name c.name name)
      (qualified (length l.items) l.items l.areas first (area_of (slice_get l.items c.item)) (Some c.item) qs ids)

  pub items-tell : name ≢ unnamed → (number : ℕ) (items : List Item) (vs : List (Option Operand))
      → Tells true number (read_items l items vs) (among_items (item_fits l name qs) number items) (items_meant (name ∷ qs) (read_items l items vs))
  items-tell word number [] vs = refl
  items-tell word number (item ∷ items) vs =
      by_test (item_fits l name qs item) (item-fits word item (first_value vs)) (items-tell word (number + 1) items (other_values vs)) where
        by_test : (b : Bool) → b ≡ means (name ∷ qs) (read_item l item (first_value vs)).name (read_item l item (first_value vs)).above
            → Tells true (number + 1) (read_items l items (other_values vs)) (among_items (item_fits l name qs) (number + 1) items) (items_meant (name ∷ qs) (read_items l items (other_values vs)))
            → Tells true number (read_items l (item ∷ items) vs) (with (if b then found.Item number else found.Unknown) (among_items (item_fits l name qs) (number + 1) items)) (items_meant (name ∷ qs) (read_items l (item ∷ items) vs))
        by_test true is later =
            subst (λ (b : Bool). Tells true number (read_items l (item ∷ items) vs) (with (found.Item number) (among_items (item_fits l name qs) (number + 1) items)) (cond b (read_item l item (first_value vs) ∷ items_meant (name ∷ qs) (read_items l items (other_values vs))) (items_meant (name ∷ qs) (read_items l items (other_values vs))))) is
            (in-front number (read_item l item (first_value vs)) (read_items l items (other_values vs)) (items_meant (name ∷ qs) (read_items l items (other_values vs))) (among_items (item_fits l name qs) (number + 1) items) later)
        by_test false is later =
            subst (λ (b : Bool). Tells true number (read_items l (item ∷ items) vs) (among_items (item_fits l name qs) (number + 1) items) (cond b (read_item l item (first_value vs) ∷ items_meant (name ∷ qs) (read_items l items (other_values vs))) (items_meant (name ∷ qs) (read_items l items (other_values vs))))) is
            (behind true number (read_item l item (first_value vs)) (read_items l items (other_values vs)) (items_meant (name ∷ qs) (read_items l items (other_values vs))) (among_items (item_fits l name qs) (number + 1) items) later)

  pub conds-tell : (all : List layout.Item) (number : ℕ) (conds : List CondItem)
      → Tells false number (map (read_cond l all) conds) (among_conds (cond_fits l name qs) number conds) (conds_meant (name ∷ qs) (map (read_cond l all) conds))
  conds-tell all number [] = refl
  conds-tell all number (c ∷ cs) = by_test (cond_fits l name qs c) (cond-fits all c) (conds-tell all (number + 1) cs) where
    by_test : (b : Bool) → b ≡ means (name ∷ qs) (read_cond l all c).name (read_cond l all c).above
        → Tells false (number + 1) (map (read_cond l all) cs) (among_conds (cond_fits l name qs) (number + 1) cs) (conds_meant (name ∷ qs) (map (read_cond l all) cs))
        → Tells false number (map (read_cond l all) (c ∷ cs)) (with (if b then found.Named number else found.Unknown) (among_conds (cond_fits l name qs) (number + 1) cs)) (conds_meant (name ∷ qs) (map (read_cond l all) (c ∷ cs)))
    by_test true is later =
        subst (λ (b : Bool). Tells false number (map (read_cond l all) (c ∷ cs)) (with (found.Named number) (among_conds (cond_fits l name qs) (number + 1) cs)) (cond b (read_cond l all c ∷ conds_meant (name ∷ qs) (map (read_cond l all) cs)) (conds_meant (name ∷ qs) (map (read_cond l all) cs)))) is
        (in-front-named number (read_cond l all c) (map (read_cond l all) cs) (conds_meant (name ∷ qs) (map (read_cond l all) cs)) (among_conds (cond_fits l name qs) (number + 1) cs) later)
    by_test false is later =
        subst (λ (b : Bool). Tells false number (map (read_cond l all) (c ∷ cs)) (among_conds (cond_fits l name qs) (number + 1) cs) (cond b (read_cond l all c ∷ conds_meant (name ∷ qs) (map (read_cond l all) cs)) (conds_meant (name ∷ qs) (map (read_cond l all) cs)))) is
        (behind false number (read_cond l all c) (map (read_cond l all) cs) (conds_meant (name ∷ qs) (map (read_cond l all) cs)) (among_conds (cond_fits l name qs) (number + 1) cs) later)
