-- An item by its number as it is read, and the kind of a place that `operand_kinds` sees.
use Rattle.std.proofs.Common.{◌≡◌, ◌≢◌, ℕ, zero, suc, List, [], ◌∷◌, refl, sym, subst, ap, ◌∙◌, Option, Some, None}
use Rattle.std.specs.Prelude.{slice_get}
use Rattle.std.proofs.lemmas.Option.{none-some}
use Rattle.cobol_syntax.specs.declared.place.Place.{Place}
use Rattle.cobol_syntax.specs.declared.place.Part.{Part}
use Rattle.cobol_syntax.specs.declared.program.Program.{Program}
use Rattle.cobol_syntax.specs.declared.program.Usage.{Usage}
use Rattle.y2k_base.specs.declared.picture.Picture.{Picture}
use Rattle.decimal_bytes.specs.declared.form.NumForm.{NumForm}
use Rattle.data_layout.specs.declared.item.Item.{Item}
use Rattle.data_layout.specs.declared.item.Class.{Class}
use Rattle.data_layout.specs.declared.item.Class.TheVariants as class
use Rattle.data_layout.specs.declared.item.Layout.{Layout}
use Rattle.data_layout.specs.declared.found.Found.{Found}
use Rattle.data_layout.specs.declared.found.Found.TheVariants as found
use Rattle.data_layout.specs.Find.{meaning}
use Rattle.operand_kinds.specs.declared.seen.Seen.{Seen}
use Rattle.operand_kinds.specs.Kinds as operand
use Rattle.program_meaning.specs.Tree.{Name, Operand}
use Rattle.program_meaning.specs.Layout as layout
use Rattle.program_meaning.specs.Layout.{item_of}
use Rattle.program_meaning.specs.Storage.{cut_kind, kind_of, kind_meant}
use Rattle.tree_reading.specs.Reading.{read_place, part_if}
use Rattle.layout_reading.specs.Kinds.{read_kind, kind_by, symbols, IsReadAs}
use Rattle.layout_reading.specs.Names.{unnamed}
use Rattle.layout_reading.specs.Numbered.{AreNumbered}
use Rattle.layout_reading.specs.Reading.{read_layout, read_items, read_item}
use Rattle.layout_reading.specs.Told.{item_told}
use Rattle.layout_reading.specs.Values.{values_of, value_at, first_value, other_values}
use Rattle.layout_reading.proofs.Found.{item-found}

abbrev number_of : Found → Option ℕ
number_of (found.Item k) = Some k
number_of (found.Named k) = None
number_of found.Unknown = None
number_of found.Twice = None

some-same : (x y : Seen) → ◌≡◌ {A = Option Seen} (Some x) (Some y) → x ≡ y
some-same x y is = cc

item-not-twice : (k : ℕ) → found.Item k ≢ found.Twice
item-not-twice k is = none-some k (sym (ap number_of is))

-- an item as it is read, with the VALUE of its number
pub read-at : (l : Layout) (items : List Item) (vs : List (Option Operand)) (k : ℕ) (item : Item) → slice_get items k ≡ Some item
    → slice_get (read_items l items vs) k ≡ Some (read_item l item (value_at vs k))
read-at l [] vs k item is = absurd (none-some item is)
read-at l (first ∷ items) vs zero item is = let same : first ≡ item = cc in ap (λ (i : Item). Some (read_item l i (first_value vs))) same
read-at l (first ∷ items) vs (suc k) item is = read-at l items (other_values vs) k item is

kind-by : (c : Class) (usage : Usage) (form : NumForm) (picture : Option Picture) → IsReadAs (operand.kind_of c usage form) (kind_by c usage form picture)
kind-by class.Group usage form picture = refl
kind-by class.Text usage form picture = refl
kind-by class.Edited usage form picture = (symbols picture, refl)
kind-by class.Number usage form picture = refl

cut-kind : (cut : Option Part) (item : Item) → IsReadAs (operand.kind_of_part cut (operand.kind_of_item item)) (cut_kind (part_if cut) (read_kind item))
cut-kind None item = kind-by item.class item.usage item.form item.picture
cut-kind (Some part) item = refl

module _ (program : Program) (l : Layout) (first : ℕ) (ids : AreNumbered first l.areas) (name : Name) (qs : List Name) (word : name ≢ unnamed) where
  -- the item with the number that a name means
  pub item-at : (k : ℕ) (item : Item) → meaning l (name ∷ qs) ≡ found.Item k → slice_get l.items k ≡ Some item
      → item_of (read_layout program l) (name ∷ qs) ≡ Some (read_item l item (value_at (values_of program) k))
  item-at k item means is =
      let once : meaning l (name ∷ qs) ≢ found.Twice = λ twice. absurd (item-not-twice k (sym means ∙ twice)) in
      item-found program l first ids name qs word once ∙ ap (item_told (read_layout program l).items) means ∙ read-at l l.items (values_of program) k item is

  by_item : (cut : Option Part) (s : Seen) (k : ℕ) (o : Option Item) → meaning l (name ∷ qs) ≡ found.Item k → slice_get l.items k ≡ o
      → operand.seen_item cut k o ≡ Some s → IsReadAs s.kind (kind_meant (item_of (read_layout program l) (name ∷ qs)) (part_if cut))
  by_item cut s k None means here is = absurd (none-some s is)
  by_item cut s k (Some item) means here is =
      let as_seen : Seen = record { item = k; kind = operand.kind_of_part cut (operand.kind_of_item item); reach = operand.reach cut item.span.length } in
      let same : as_seen ≡ s = some-same as_seen s is in
      subst (λ (o : Option layout.Item). IsReadAs s.kind (kind_meant o (part_if cut))) (sym (item-at k item means here))
      (subst (λ (x : Seen). IsReadAs x.kind (cut_kind (part_if cut) (read_kind item))) same (cut-kind cut item))

  by_meaning : (cut : Option Part) (s : Seen) (f : Found) → meaning l (name ∷ qs) ≡ f → operand.seen_found l cut f ≡ Some s
      → IsReadAs s.kind (kind_meant (item_of (read_layout program l) (name ∷ qs)) (part_if cut))
  by_meaning cut s (found.Item k) means is = by_item cut s k (slice_get l.items k) means refl is
  by_meaning cut s (found.Named k) means is = absurd (none-some s is)
  by_meaning cut s found.Unknown means is = absurd (none-some s is)
  by_meaning cut s found.Twice means is = absurd (none-some s is)

  -- a place that is seen is what it is seen as
  pub seen-kind : (place : Place) (s : Seen) → place.names ≡ name ∷ qs → operand.seen l place ≡ Some s
      → IsReadAs s.kind (kind_of (read_layout program l) (read_place place))
  seen-kind place s names is =
      let means : operand.seen_found l place.cut (meaning l (name ∷ qs)) ≡ Some s = sym (ap (λ (ns : List Name). operand.seen_found l place.cut (meaning l ns)) names) ∙ is in
      subst (λ (ns : List Name). IsReadAs s.kind (kind_meant (item_of (read_layout program l) ns) (part_if place.cut))) (sym names)
      (by_meaning place.cut s (meaning l (name ∷ qs)) refl means)
