-- How relations are compared, once their sides are known.
use Rattle.std.proofs.Common.{◌≡◌, ℕ, ◌≤◌, List, [], ◌∷◌, length, map, get_or, arith, Bool, true, false, cond, Option, Some, None, refl, sym, ap, ap₂, subst, ◌∙◌}
use Rattle.y2k_base.specs.declared.picture.Picture.{Picture}
use Rattle.std.specs.declared.cmp.Ordering.{Ordering}
use Rattle.std.specs.declared.cmp.Ordering.TheVariants.{Less, Equal, Greater}
use Rattle.std.specs.Ordering.{is_eq, is_lt, is_le, is_ge}
use Rattle.cobol_syntax.specs.declared.program.Range as tree_range
use Rattle.data_layout.specs.declared.item.Layout as tables
use Rattle.layout_reading.specs.Reading.{read_span}
use Rattle.tree_reading.specs.Reading.{read_operand, operand_if, read_values}
use Rattle.operand_kinds.specs.declared.kind.Kind as operand
use Rattle.operand_kinds.specs.declared.kind.Kind.TheVariants as kinds
use Rattle.program_meaning.specs.Answer.{Answer, Gives, Fails, Range, or_fault, and_then}
use Rattle.program_meaning.specs.Arithmetic.{Scaled, exact}
use Rattle.program_meaning.specs.Compare.{Side, Whole, side, side_of, both_numbers, compare, compare_numbers, compare_bytes, operand_side, operand_compared, bytes_cmp, number_cmp, constant_number, compare_view, view_number_cmp, and_also, or_else, is_value, has_value, condition_name}
use Rattle.program_meaning.specs.Layout.{Layout, Span, CondName, Values, cond_of}
use Rattle.program_meaning.specs.Storage.{Storage, View, view_of, bytes_at, decimal_in}
use Rattle.program_meaning.specs.Tree.{Expr, Operand, Place}
use Rattle.place_table.specs.Views.{named_view}
use Rattle.place_table.specs.declared.view.View as code_view
use Rattle.storage_places.specs.declared.fault.RunFault.{RunFault}
use Rattle.storage_places.specs.declared.storage.Storage as code_storage
use Rattle.storage_places.specs.Held.{held, first}
use Rattle.storage_places.specs.Meets.{MayMeet}
use Rattle.storage_places.specs.Reached.{kind_with}
use Rattle.storage_tests.specs.declared.side.Side as code
use Rattle.storage_tests.specs.Seen.{seen, seen_bytes, seen_number}
use Rattle.storage_tests.specs.Sides.{read_side, kind_side, IsSide}
use Rattle.storage_tests.proofs.Faults.{fails-first, fails-then}
use Rattle.storage_tests.proofs.SeenLaws.{mapped}

abbrev chosen : Layout → Storage → Expr → Expr → Bool → Answer Ordering
chosen l st x y b = cond b (compare_numbers l st x y) (compare_bytes l st x y)

pub compare-by : (l : Layout) (st : Storage) (x y : Expr) (s t : Side) (b : Bool) → side l st x ≡ s → side l st y ≡ t → both_numbers s t ≡ b →
    compare l st x y ≡ chosen l st x y b
compare-by l st x y s t b left right by = ap (chosen l st x y) (ap₂ both_numbers left right ∙ by)

abbrev view_chosen : Layout → Storage → View → Operand → Bool → Answer Ordering
view_chosen l st v o b =
    cond b (view_number_cmp l st v o) (and_then (operand_compared l st o) (λ c. Gives (bytes_cmp (Whole (bytes_at l st v)) c)))

pub view-by : (l : Layout) (st : Storage) (v : View) (o : Operand) (s t : Side) (b : Bool) → side_of v.kind ≡ s → operand_side l st o ≡ t → both_numbers s t ≡ b →
    compare_view l st v o ≡ view_chosen l st v o b
view-by l st v o s t b left right by = ap (view_chosen l st v o) (ap₂ both_numbers left right ∙ by)

-- the picture of an edited item has no part in it
pub kind-side : (k : operand.Kind) (picture : Option Picture) → side_of (kind_with k picture) ≡ read_side (kind_side k)
kind-side kinds.Group picture = refl
kind-side kinds.Text picture = refl
kind-side (kinds.Edited form) picture = refl
kind-side (kinds.Number usage form) picture = refl

-- the layout of places that have grown is that from before
pub side-before : (m : Layout → Storage → Side) (new old : tables.Layout) (s : code.Side) → new ≡ old → IsSide new m s → IsSide old m s
side-before m new old s same h = subst (λ (l : tables.Layout). IsSide l m s) same h

-- the number of an item against a literal
pub view-number : (l : Layout) (storage : code_storage.Storage) (v : code_view.View) (o : Operand) (x : Scaled) → seen_number storage v ≡ Gives x →
    view_number_cmp l (held storage) (seen storage v) o ≡ number_cmp x (constant_number l (held storage) o)
view-number l storage v o x h =
    mapped (decimal_in (kind_with v.kind None) (seen_bytes storage v)) exact (λ y. number_cmp y (constant_number l (held storage) o))
    ∙ ap (λ (a : Answer Scaled). and_then a (λ y. number_cmp y (constant_number l (held storage) o))) h

not-below : (o : Ordering) → is_lt o ≡ false → is_ge o ≡ true
not-below Less h = absurd (let none : ⊥ = cc in none)
not-below Equal h = refl
not-below Greater h = refl

module _ (l : Layout) (st : Storage) (v : View) (low : Operand) where
  pub low-fails : (high : Option Operand) (e : RunFault) → MayMeet (compare_view l st v low) e → MayMeet (is_value l st v low high) e
  low-fails None e h = fails-first _ _ _ h
  low-fails (Some high) e h = fails-first _ _ _ h

  -- the second end of a range is looked at where the item isn't below the first
  pub high-fails : (high : Operand) (o : Ordering) (e : RunFault) → compare_view l st v low ≡ Gives o → is_lt o ≡ false →
      MayMeet (compare_view l st v high) e → MayMeet (is_value l st v low (Some high)) e
  high-fails high o e gives below h =
      fails-then _ _ o e gives
      (subst (λ (b : Bool). MayMeet (and_also b (and_then (compare_view l st v high) (λ p. Gives (is_le p)))) e) (sym (not-below o below)) (fails-first _ _ _ h))

-- the picture of an edited item has no part in what values it has
module _ (l : Layout) (st : Storage) (k : operand.Kind) (picture : Option Picture) (span : Span) where
  abbrev pictured : View
  pictured = record { kind = kind_with k picture; span = span }

  abbrev plain : View
  plain = record { kind = kind_with k None; span = span }

  view-plain : (k : operand.Kind) (o : Operand) → compare_view l st (record { kind = kind_with k picture; span = span }) o ≡ compare_view l st (record { kind = kind_with k None; span = span }) o
  view-plain kinds.Group o = refl
  view-plain kinds.Text o = refl
  view-plain (kinds.Edited form) o = refl
  view-plain (kinds.Number usage form) o = refl

  value-plain : (low : Operand) (high : Option Operand) → is_value l st pictured low high ≡ is_value l st plain low high
  value-plain low None = ap (λ (a : Answer Ordering). and_then a (λ o. Gives (is_eq o))) (view-plain k low)
  value-plain low (Some high) =
      ap₂ (λ (a b : Answer Ordering). and_then a (λ o. and_also (is_ge o) (and_then b (λ p. Gives (is_le p))))) (view-plain k low) (view-plain k high)

  pub values-plain : (rs : List Values) → has_value l st pictured rs ≡ has_value l st plain rs
  values-plain [] = refl
  values-plain (r ∷ rs) =
      ap₂ (λ (a b : Answer Bool). and_then a (λ c. or_else c b)) (value-plain r.low r.high) (values-plain rs)

abbrev with_values : List Values → View → Answer (View × List Values)
with_values vs v = Gives (v, vs)

abbrev pub asked : Layout → Storage → View × List Values → Answer Bool
asked l st n = has_value l st (n.0) (n.1)

by_view : (l : Layout) (st : Storage) (vs : List Values) (a : Answer View) → and_then a (λ v. has_value l st v vs) ≡ and_then (and_then a (with_values vs)) (asked l st)
by_view l st vs (Gives v) = refl
by_view l st vs (Fails e) = refl

by_cond : (l : Layout) (st : Storage) (p : Place) (c : Option CondName) →
    condition_name l st p c ≡ and_then (and_then (or_fault Range c) (λ d. and_then (view_of l st d.item p) (with_values d.values))) (asked l st)
by_cond l st p None = refl
by_cond l st p (Some c) = by_view l st c.values (view_of l st c.item p)

-- a condition-name asks for the values of its item
pub name-asks : (l : Layout) (st : Storage) (p : Place) → condition_name l st p (cond_of l p.names) ≡ and_then (named_view l st p) (asked l st)
name-asks l st p = by_cond l st p (cond_of l p.names)

-- of an item that is seen in a storage
pub seen-values : (l : Layout) (storage : code_storage.Storage) (v : code_view.View) (picture : Option Picture) (n : ℕ) (rs : List Values) → n ≡ first storage →
    has_value l (held storage) (record { kind = kind_with v.kind picture; span = read_span n v.span }) rs ≡ has_value l (held storage) (seen storage v) rs
seen-values l storage v picture n rs here =
    ap (λ (k : ℕ). has_value l (held storage) (record { kind = kind_with v.kind picture; span = read_span k v.span }) rs) here
    ∙ values-plain l (held storage) v.kind picture (read_span (first storage) v.span) rs

-- a fault at the first of several values
pub first-value-fails : (l : Layout) (st : Storage) (v : View) (rs : List tree_range.Range) (r : tree_range.Range) (e : RunFault) → 1 ≤ length rs → r ≡ get_or rs 0 r →
    MayMeet (is_value l st v (read_operand r.low) (operand_if r.high)) e → MayMeet (has_value l st v (map read_values rs)) e
first-value-fails l st v [] r e some is h = absurd (omega arith)
first-value-fails l st v (q ∷ qs) r e some is h =
    fails-first _ _ _ (subst (λ (x : tree_range.Range). MayMeet (is_value l st v (read_operand x.low) (operand_if x.high)) e) is h)
