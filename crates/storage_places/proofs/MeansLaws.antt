-- A place that is resolved is at the same bytes as the place that it stands for.
use Rattle.std.proofs.Common.{◌≡◌, ◌≢◌, ℕ, ◌+◌, ◌-◌, ◌*◌, List, [], ◌∷◌, map, refl, sym, ap, ◌∙◌, subst, Option, Some, None, ℤ}
use Rattle.std.specs.Prelude.{slice_get, slice_index_or, IfOk, IfSome, Result, Ok, Err}
use Rattle.std.specs.List.{AllByRecursion}
use Rattle.std.specs.Option.{option_map}
use Rattle.std.proofs.lemmas.Option.{none-some, slice_get-map, get_or_from_slice_get}
use Rattle.y2k_base.specs.declared.picture.Picture.{Picture}
use Rattle.y2k_base.specs.declared.place.Span.{Span}
use Rattle.decimal_bytes.specs.declared.form.NumForm.{NumForm}
use Rattle.cobol_syntax.specs.declared.place.Place.{Place}
use Rattle.cobol_syntax.specs.declared.place.Part.{Part}
use Rattle.cobol_syntax.specs.declared.place.Sub.{Sub}
use Rattle.cobol_syntax.specs.declared.place.Sub.TheVariants as sub
use Rattle.cobol_syntax.specs.declared.program.Program.{Program}
use Rattle.cobol_syntax.specs.declared.program.Usage.{Usage}
use Rattle.data_layout.specs.declared.item.Class.{Class}
use Rattle.data_layout.specs.declared.item.Class.TheVariants as class
use Rattle.data_layout.specs.declared.item.CondItem.{CondItem}
use Rattle.data_layout.specs.declared.item.Item.{Item}
use Rattle.data_layout.specs.declared.item.Step.{Step}
use Rattle.data_layout.specs.declared.item.Layout.{Layout}
use Rattle.data_layout.specs.declared.found.Found.{Found}
use Rattle.data_layout.specs.declared.found.Found.TheVariants as found
use Rattle.data_layout.specs.Find.{meaning}
use Rattle.operand_kinds.specs.Kinds as operand
use Rattle.program_meaning.specs.Answer.{Answer, Gives, Fails, and_then, or_fault, Range}
use Rattle.program_meaning.specs.Tree as tree
use Rattle.program_meaning.specs.Kind as kind
use Rattle.program_meaning.specs.Layout as meant
use Rattle.program_meaning.specs.Layout.{item_of, cond_of}
use Rattle.program_meaning.specs.Number.{value_of}
use Rattle.program_meaning.specs.Storage.{Storage, View, read, decimal_in, within, subscript, occurrence, reference_from, cut_view, view_of, view, cut_kind, kind_meant, kind_of}
use Rattle.tree_reading.specs.Reading.{read_sub, sub_if, part_if, read_place}
use Rattle.layout_reading.specs.Kinds.{read_kind, kind_by}
use Rattle.layout_reading.specs.Names.{unnamed}
use Rattle.layout_reading.specs.Numbered.{AreNumbered}
use Rattle.layout_reading.specs.Reading.{read_layout, read_item, read_cond, no_item, read_span, read_step, first_area}
use Rattle.layout_reading.specs.Told.{item_told, cond_told}
use Rattle.layout_reading.specs.Values.{values_of, value_at}
use Rattle.layout_reading.proofs.Seen.{item-at, read-at}
use Rattle.layout_reading.proofs.Found.{cond-found}
use Rattle.storage_places.specs.declared.access.Bound.{Bound}
use Rattle.storage_places.specs.declared.access.Bound.TheVariants as bound
use Rattle.storage_places.specs.declared.access.Cut.{Cut}
use Rattle.storage_places.specs.declared.access.Access.{Access}
use Rattle.storage_places.specs.declared.access.NamedAccess.{NamedAccess}
use Rattle.storage_places.specs.Resolved as resolved
use Rattle.storage_places.specs.Reached.{access_kind, kind_with, span_from, bound_value, occurrence_at, reference_at, cut_at}
use Rattle.storage_places.specs.Means.{IsAccess, StandsFor, IsWord, SubIsWord, LengthIsWord, CutIsWord, AreWords, IsNamed, NamesFor}

then-same : {A B : Type 0} (a : Answer A) (f g : A → Answer B) → ((x : A) → f x ≡ g x) → and_then a f ≡ and_then a g
then-same (Gives x) f g same = same x
then-same (Fails e) f g same = refl

then-then : {A B C : Type 0} (a : Answer A) (f : A → Answer B) (g : B → Answer C) → and_then (and_then a f) g ≡ and_then a (λ x. and_then (f x) g)
then-then (Gives x) f g = refl
then-then (Fails e) f g = refl

abbrev cond_number : Found → Option ℕ
cond_number (found.Item k) = None
cond_number (found.Named k) = Some k
cond_number found.Unknown = None
cond_number found.Twice = None

named-not-twice : (k : ℕ) → found.Named k ≢ found.Twice
named-not-twice k is = none-some k (sym (ap cond_number is))

unknown-not-named : (k : ℕ) → found.Unknown ≢ found.Named k
unknown-not-named k is = none-some k (ap cond_number is)

-- the item that a name means
pub record IsItem (program : Program) (l : Layout) (names : List (List ℕ)) (item : Item) : Type 0 where
  pub value : Option tree.Operand
  pub is : item_of (read_layout program l) names ≡ Some (read_item l item value)

module _ (program : Program) (l : Layout) (ids : AreNumbered (first_area l.areas) l.areas) where
  by-meaning : (name : List ℕ) (qs : List (List ℕ)) (word : name ≢ unnamed) (item : Item) (f : Found) → meaning l (name ∷ qs) ≡ f → item_told l.items f ≡ Some item → IsItem program l (name ∷ qs) item
  by-meaning name qs word item (found.Item k) means is =
      record { value = value_at (values_of program) k; is = item-at program l (first_area l.areas) ids name qs word k item means is }
  by-meaning name qs word item (found.Named k) means is = absurd (none-some item is)
  by-meaning name qs word item found.Unknown means is = absurd (none-some item is)
  by-meaning name qs word item found.Twice means is = absurd (none-some item is)

  pub item-named : (names : List (List ℕ)) (item : Item) → IsWord names → resolved.item_named l names ≡ Some item → IsItem program l names item
  item-named [] item word is = absurd (none-some item is)
  item-named (name ∷ qs) item word is = by-meaning name qs word item (meaning l (name ∷ qs)) refl is

kind-means : (c : Class) (usage : Usage) (form : NumForm) (picture : Option Picture) → kind_by c usage form picture ≡ kind_with (operand.kind_of c usage form) picture
kind-means class.Group usage form picture = refl
kind-means class.Text usage form picture = refl
kind-means class.Edited usage form picture = refl
kind-means class.Number usage form picture = refl

-- the bounds of several subscripts
record BothBounds (l : Layout) (s : Sub) (ss : List Sub) (bs : List Bound) : Type 0 where
  one : Bound
  more : List Bound
  first : resolved.bound_of l s ≡ Some one
  others : resolved.bounds_of l ss ≡ Some more
  all : bs ≡ one ∷ more

module _ (program : Program) (l : Layout) (ids : AreNumbered (first_area l.areas) l.areas) (store : Storage) where
  by-class : (names : List (List ℕ)) (item : Item) (c : Class) (b : Bound) → IsItem program l names item → item.class ≡ c → resolved.bound_by c item ≡ Some b
      → subscript (read_layout program l) store (tree.Named names) ≡ bound_value (first_area l.areas) store b
  by-class names item class.Group b named is bounds = absurd (none-some b bounds)
  by-class names item class.Text b named is bounds = absurd (none-some b bounds)
  by-class names item class.Edited b named is bounds = absurd (none-some b bounds)
  by-class names item class.Number b named is bounds =
      let number : Bound = bound.Number (record { span = item.span; usage = item.usage; form = item.form }) in
      let same : number ≡ b = cc in
      ap (λ (o : Option meant.Item). and_then (or_fault Range o) (λ i. and_then (decimal_in i.kind (read store i.span)) (λ d. Gives (value_of d)))) named.is
      ∙ ap (λ (c : Class). and_then (decimal_in (kind_by c item.usage item.form item.picture) (read store (read_span (first_area l.areas) item.span))) (λ d. Gives (value_of d))) is
      ∙ ap (bound_value (first_area l.areas) store) same

  by-item : (names : List (List ℕ)) (b : Bound) (o : Option Item) → IsWord names → resolved.item_named l names ≡ o → resolved.bound_if o ≡ Some b
      → subscript (read_layout program l) store (tree.Named names) ≡ bound_value (first_area l.areas) store b
  by-item names b None word is bounds = absurd (none-some b bounds)
  by-item names b (Some item) word is bounds = by-class names item item.class b (item-named program l ids names item word is) refl bounds

  pub bound-means : (s : Sub) (b : Bound) → SubIsWord s → resolved.bound_of l s ≡ Some b → subscript (read_layout program l) store (read_sub s) ≡ bound_value (first_area l.areas) store b
  bound-means (sub.Number value at) b word is = let same : bound.Literal value ≡ b = cc in ap (bound_value (first_area l.areas) store) same
  bound-means (sub.Name names) b word is = by-item names b (resolved.item_named l names) word refl is

  no-bounds : (steps : List Step) (o : ℕ) → occurrence (read_layout program l) store (map read_step steps) [] o ≡ occurrence_at (first_area l.areas) store steps [] o
  no-bounds [] o = refl
  no-bounds (step ∷ steps) o = refl

  one-bound : (s : Sub) (ss : List Sub) (b : Bound) (bs : List Bound) (steps : List Step) (o : ℕ) → subscript (read_layout program l) store (read_sub s) ≡ bound_value (first_area l.areas) store b
      → ((steps : List Step) (o : ℕ) → occurrence (read_layout program l) store (map read_step steps) (map read_sub ss) o ≡ occurrence_at (first_area l.areas) store steps bs o)
      → occurrence (read_layout program l) store (map read_step steps) (map read_sub (s ∷ ss)) o ≡ occurrence_at (first_area l.areas) store steps (b ∷ bs) o
  one-bound s ss b bs [] o same others = refl
  one-bound s ss b bs (step ∷ steps) o same others =
      ap (λ (a : Answer ℤ). and_then a (λ k. and_then (within k step.count) (λ i. occurrence (read_layout program l) store (map read_step steps) (map read_sub ss) (o + (i - 1) * step.size)))) same
      ∙ then-same (bound_value (first_area l.areas) store b) (λ k. and_then (within k step.count) (λ i. occurrence (read_layout program l) store (map read_step steps) (map read_sub ss) (o + (i - 1) * step.size)))
      (λ k. and_then (within k step.count) (λ i. occurrence_at (first_area l.areas) store steps bs (o + (i - 1) * step.size)))
      (λ k. then-same (within k step.count) (λ i. occurrence (read_layout program l) store (map read_step steps) (map read_sub ss) (o + (i - 1) * step.size))
      (λ i. occurrence_at (first_area l.areas) store steps bs (o + (i - 1) * step.size)) (λ i. others steps (o + (i - 1) * step.size)))

  both-bounds : (s : Sub) (ss : List Sub) (bs : List Bound) (o : Option Bound) (os : Option (List Bound)) → resolved.bound_of l s ≡ o → resolved.bounds_of l ss ≡ os
      → resolved.bounds_with o os ≡ Some bs → BothBounds l s ss bs
  both-bounds s ss bs None os first rest is = absurd (none-some bs is)
  both-bounds s ss bs (Some b) None first rest is = absurd (none-some bs is)
  both-bounds s ss bs (Some b) (Some more) first rest is = let same : b ∷ more ≡ bs = cc in record { one = b; more = more; first = first; others = rest; all = sym same }

  occurrence-means : (ss : List Sub) (bs : List Bound) (steps : List Step) (o : ℕ) → AllByRecursion SubIsWord ss → resolved.bounds_of l ss ≡ Some bs
      → occurrence (read_layout program l) store (map read_step steps) (map read_sub ss) o ≡ occurrence_at (first_area l.areas) store steps bs o
  occurrence-means [] bs steps o words is = let none : [] ≡ bs = cc in subst (λ (bs : List Bound). occurrence (read_layout program l) store (map read_step steps) [] o ≡ occurrence_at (first_area l.areas) store steps bs o) none (no-bounds steps o)
  occurrence-means (s ∷ ss) bs steps o words is =
      let both : BothBounds l s ss bs = both-bounds s ss bs (resolved.bound_of l s) (resolved.bounds_of l ss) refl refl is in
      subst (λ (bs : List Bound). occurrence (read_layout program l) store (map read_step steps) (map read_sub (s ∷ ss)) o ≡ occurrence_at (first_area l.areas) store steps bs o) (sym both.all)
      (one-bound s ss both.one both.more steps o (bound-means s both.one words.0 both.first) (λ steps o. occurrence-means ss both.more steps o words.1 both.others))

  -- a text of an item, by how far it begins behind an offset and how many bytes it has
  abbrev text_behind : Span → ℕ → ℕ × ℕ → Answer View
  text_behind span o r = Gives (record { kind = kind.Text; span = record { area = span.area.0 - first_area l.areas; start = o + r.0; count = r.1 } })

  abbrev text_at : Span → Answer View
  text_at span = Gives (record { kind = kind.Text; span = read_span (first_area l.areas) span })

  to-the-end : (span : Span) (o size : ℕ) (begin : Answer ℕ) → and_then (and_then {B = ℕ × ℕ} begin (λ s. Gives (s - 1, size - (s - 1)))) (text_behind span o)
      ≡ and_then (and_then begin (λ s. Gives (span_from span (o + (s - 1)) (size - (s - 1))))) text_at
  to-the-end span o size (Gives s) = refl
  to-the-end span o size (Fails e) = refl

  so-many : (span : Span) (o size s : ℕ) (count : Answer ℕ) → and_then (and_then {B = ℕ × ℕ} count (λ c. Gives (s - 1, c))) (text_behind span o)
      ≡ and_then (and_then count (λ c. Gives (span_from span (o + (s - 1)) c))) text_at
  so-many span o size s (Gives c) = refl
  so-many span o size s (Fails e) = refl

  of-length : (span : Span) (o size : ℕ) (n : ℤ) (begin : Answer ℕ) → and_then (and_then begin (λ s. and_then {B = ℕ × ℕ} (within n (size - (s - 1))) (λ c. Gives (s - 1, c)))) (text_behind span o)
      ≡ and_then (and_then begin (λ s. and_then (within n (size - (s - 1))) (λ c. Gives (span_from span (o + (s - 1)) c)))) text_at
  of-length span o size n (Gives s) = so-many span o size s (within n (size - (s - 1)))
  of-length span o size n (Fails e) = refl

  of-read-length : (span : Span) (o size : ℕ) (start : ℤ) (length : Answer ℤ)
      → and_then (and_then length (λ n. and_then (within start size) (λ s. and_then {B = ℕ × ℕ} (within n (size - (s - 1))) (λ c. Gives (s - 1, c))))) (text_behind span o)
      ≡ and_then (and_then length (λ n. and_then (within start size) (λ s. and_then (within n (size - (s - 1))) (λ c. Gives (span_from span (o + (s - 1)) c))))) text_at
  of-read-length span o size start (Gives n) = of-length span o size n (within start size)
  of-read-length span o size start (Fails e) = refl

  length-read : (span : Span) (o size : ℕ) (start : ℤ) (s : Sub) (b : Bound) → subscript (read_layout program l) store (read_sub s) ≡ bound_value (first_area l.areas) store b
      → and_then (reference_from (read_layout program l) store size start (Some (read_sub s))) (text_behind span o) ≡ and_then (reference_at (first_area l.areas) store span o size start (Some b)) text_at
  length-read span o size start s b same =
      ap (λ (a : Answer ℤ). and_then (and_then a (λ n. and_then (within start size) (λ s. and_then {B = ℕ × ℕ} (within n (size - (s - 1))) (λ c. Gives (s - 1, c))))) (text_behind span o)) same
      ∙ of-read-length span o size start (bound_value (first_area l.areas) store b)

  by-length : (span : Span) (o size : ℕ) (start : ℤ) (s : Sub) (b : Option Bound) (one : Option Bound) → SubIsWord s → resolved.bound_of l s ≡ one → resolved.some_bound one ≡ Some b
      → and_then (reference_from (read_layout program l) store size start (Some (read_sub s))) (text_behind span o) ≡ and_then (reference_at (first_area l.areas) store span o size start b) text_at
  by-length span o size start s b None word here is = absurd (none-some b is)
  by-length span o size start s b (Some one) word here is =
      let same : Some one ≡ b = cc in
      subst (λ (b : Option Bound). and_then (reference_from (read_layout program l) store size start (Some (read_sub s))) (text_behind span o) ≡ and_then (reference_at (first_area l.areas) store span o size start b) text_at) same
      (length-read span o size start s one (bound-means s one word here))

  -- a reference from a start that is read
  reference-means : (span : Span) (o size : ℕ) (start : ℤ) (length : Option Sub) (b : Option Bound) → LengthIsWord length → resolved.length_of l length ≡ Some b
      → and_then (reference_from (read_layout program l) store size start (sub_if length)) (text_behind span o) ≡ and_then (reference_at (first_area l.areas) store span o size start b) text_at
  reference-means span o size start None b word is =
      let none : None ≡ b = cc in
      subst (λ (b : Option Bound). and_then (reference_from (read_layout program l) store size start None) (text_behind span o) ≡ and_then (reference_at (first_area l.areas) store span o size start b) text_at) none
      (to-the-end span o size (within start size))
  reference-means span o size start (Some s) b word is = by-length span o size start s b (resolved.bound_of l s) word refl is

  abbrev seen_at : Option Part → Item → Span → Answer View
  seen_at part item span = Gives (record { kind = kind_with (operand.kind_of_part part (operand.kind_of_item item)) item.picture; span = read_span (first_area l.areas) span })

  by-cut : (item : Item) (v : Option tree.Operand) (o : ℕ) (part : Part) (cut : Option Cut) (start : Option Bound) (length : Option (Option Bound)) → CutIsWord (Some part)
      → resolved.bound_of l part.start ≡ start → resolved.length_of l part.length ≡ length → resolved.cut_with start length ≡ Some cut
      → cut_view (read_layout program l) store (read_item l item v) o (part_if (Some part)) ≡ and_then (cut_at (first_area l.areas) store item.span o cut) (seen_at (Some part) item)
  by-cut item v o part cut None length words starts lengths is = absurd (none-some cut is)
  by-cut item v o part cut (Some start) None words starts lengths is = absurd (none-some cut is)
  by-cut item v o part cut (Some start) (Some length) words starts lengths is =
      let there : Option Cut = Some (record { start = start; length = length }) in
      let same : there ≡ cut = cc in
      subst (λ (cut : Option Cut). cut_view (read_layout program l) store (read_item l item v) o (part_if (Some part)) ≡ and_then (cut_at (first_area l.areas) store item.span o cut) text_at) same
      (ap (λ (a : Answer ℤ). and_then a (λ from. and_then (reference_from (read_layout program l) store item.span.length from (sub_if part.length)) (text_behind item.span o))) (bound-means part.start start words.0 starts)
      ∙ then-same (bound_value (first_area l.areas) store start) (λ from. and_then (reference_from (read_layout program l) store item.span.length from (sub_if part.length)) (text_behind item.span o))
      (λ from. and_then (reference_at (first_area l.areas) store item.span o item.span.length from length) text_at)
      (λ from. reference-means item.span o item.span.length from part.length length words.1 lengths)
      ∙ sym (then-then (bound_value (first_area l.areas) store start) (λ from. reference_at (first_area l.areas) store item.span o item.span.length from length) text_at))

  cut-means : (item : Item) (v : Option tree.Operand) (o : ℕ) (part : Option Part) (cut : Option Cut) → CutIsWord part → resolved.cut_of l part ≡ Some cut
      → cut_view (read_layout program l) store (read_item l item v) o (part_if part) ≡ and_then (cut_at (first_area l.areas) store item.span o cut) (seen_at part item)
  cut-means item v o None cut words is =
      let none : None ≡ cut = cc in
      subst (λ (cut : Option Cut). cut_view (read_layout program l) store (read_item l item v) o None ≡ and_then (cut_at (first_area l.areas) store item.span o cut) (seen_at None item)) none
      (ap (λ (k : kind.Kind). Gives (record { kind = k; span = read_span (first_area l.areas) (span_from item.span o item.span.length) })) (kind-means item.class item.usage item.form item.picture))
  cut-means item v o (Some part) cut words is = by-cut item v o part cut (resolved.bound_of l part.start) (resolved.length_of l part.length) words refl refl is

module _ (program : Program) (l : Layout) (ids : AreNumbered (first_area l.areas) l.areas) where
  taken-as : (item : Item) (part : Option Part) → cut_kind (part_if part) (read_kind item) ≡ kind_with (operand.kind_of_part part (operand.kind_of_item item)) item.picture
  taken-as item None = kind-means item.class item.usage item.form item.picture
  taken-as item (Some part) = refl

  kind-of-whole : (place : Place) (item : Item) → IsItem program l place.names item
      → kind_of (read_layout program l) (read_place place) ≡ kind_with (operand.kind_of_part place.cut (operand.kind_of_item item)) item.picture
  kind-of-whole place item named = ap (λ (o : Option meant.Item). kind_meant o (part_if place.cut)) named.is ∙ taken-as item place.cut

  view-of-item : (place : Place) (item : Item) (v : Option tree.Operand) (subs : List Bound) (cut : Option Cut) (store : Storage) → AreWords place
      → resolved.bounds_of l place.subs ≡ Some subs → resolved.cut_of l place.cut ≡ Some cut
      → view_of (read_layout program l) store (read_item l item v) (read_place place)
      ≡ and_then (and_then (occurrence_at (first_area l.areas) store item.steps subs item.span.offset) (λ o. cut_at (first_area l.areas) store item.span o cut)) (seen_at program l ids store place.cut item)
  view-of-item place item v subs cut store words bounds cuts =
      ap (λ (a : Answer ℕ). and_then a (λ o. cut_view (read_layout program l) store (read_item l item v) o (part_if place.cut)))
      (occurrence-means program l ids store place.subs subs item.steps item.span.offset words.subs bounds)
      ∙ then-same (occurrence_at (first_area l.areas) store item.steps subs item.span.offset) (λ o. cut_view (read_layout program l) store (read_item l item v) o (part_if place.cut))
      (λ o. and_then (cut_at (first_area l.areas) store item.span o cut) (seen_at program l ids store place.cut item))
      (λ o. cut-means program l ids store item v o place.cut cut words.cut cuts)
      ∙ sym (then-then (occurrence_at (first_area l.areas) store item.steps subs item.span.offset) (λ o. cut_at (first_area l.areas) store item.span o cut) (seen_at program l ids store place.cut item))

  view-of-whole : (place : Place) (item : Item) (subs : List Bound) (cut : Option Cut) (store : Storage) → AreWords place → IsItem program l place.names item
      → resolved.bounds_of l place.subs ≡ Some subs → resolved.cut_of l place.cut ≡ Some cut
      → view (read_layout program l) store (read_place place)
      ≡ and_then (and_then (occurrence_at (first_area l.areas) store item.steps subs item.span.offset) (λ o. cut_at (first_area l.areas) store item.span o cut)) (seen_at program l ids store place.cut item)
  view-of-whole place item subs cut store words named bounds cuts =
      ap (λ (o : Option meant.Item). and_then (or_fault Range o) (λ i. view_of (read_layout program l) store i (read_place place))) named.is
      ∙ view-of-item place item named.value subs cut store words bounds cuts

  by-parts : (place : Place) (a : Access) (item : Item) (subs : Option (List Bound)) (cut : Option (Option Cut)) → AreWords place → IsItem program l place.names item
      → resolved.bounds_of l place.subs ≡ subs → resolved.cut_of l place.cut ≡ cut → resolved.access_with item place.cut subs cut ≡ Some a
      → IsAccess (first_area l.areas) (read_layout program l) (read_place place) a
  by-parts place a item None cut words named bounds cuts is = absurd (none-some a is)
  by-parts place a item (Some subs) None words named bounds cuts is = absurd (none-some a is)
  by-parts place a item (Some subs) (Some cut) words named bounds cuts is =
      let there : Access = record { kind = operand.kind_of_part place.cut (operand.kind_of_item item); picture = item.picture; span = item.span; steps = item.steps; subs = subs; cut = cut } in
      let same : there ≡ a = cc in
      subst (λ (a : Access). IsAccess (first_area l.areas) (read_layout program l) (read_place place) a) same
      (record { kind = kind-of-whole place item named; view = λ store. view-of-whole place item subs cut store words named bounds cuts })

  by-named : (place : Place) (a : Access) (o : Option Item) → AreWords place → resolved.item_named l place.names ≡ o → resolved.access_if l place o ≡ Some a
      → IsAccess (first_area l.areas) (read_layout program l) (read_place place) a
  by-named place a None words named is = absurd (none-some a is)
  by-named place a (Some item) words named is =
      by-parts place a item (resolved.bounds_of l place.subs) (resolved.cut_of l place.cut) words (item-named program l ids place.names item words.own named) refl refl is

  -- a condition-name of this number, and its item
  named-parts : (place : Place) (number : ℕ) (c : CondItem) (item : Item) (n : NamedAccess) (subs : Option (List Bound)) (cut : Option (Option Cut)) → AreWords place
      → cond_of (read_layout program l) place.names ≡ Some (read_cond l (read_layout program l).items c) → slice_get l.conds number ≡ Some c → slice_get l.items c.item ≡ Some item
      → resolved.bounds_of l place.subs ≡ subs → resolved.cut_of l place.cut ≡ cut → resolved.numbered number (resolved.access_with item place.cut subs cut) ≡ Some n
      → IsNamed (first_area l.areas) (read_layout program l) (read_place place) n
  named-parts place number c item n None cut words means here there bounds cuts is = absurd (none-some n is)
  named-parts place number c item n (Some subs) None words means here there bounds cuts is = absurd (none-some n is)
  named-parts place number c item n (Some subs) (Some cut) words means here there bounds cuts is =
      let access : Access = record { kind = operand.kind_of_part place.cut (operand.kind_of_item item); picture = item.picture; span = item.span; steps = item.steps; subs = subs; cut = cut } in
      let whole : NamedAccess = record { name = number; access = access } in
      let same : whole ≡ n = cc in
      let items : List meant.Item = (read_layout program l).items in
      let v : Option tree.Operand = value_at (values_of program) c.item in
      let its_item : slice_index_or items c.item no_item ≡ read_item l item v = get_or_from_slice_get items c.item (read_item l item v) no_item (read-at l l.items (values_of program) c.item item there) in
      let at_number : slice_get (read_layout program l).conds number ≡ Some (read_cond l items c) = slice_get-map (read_cond l items) l.conds number ∙ ap (option_map (read_cond l items)) here in
      let kind : cut_kind (part_if place.cut) (read_cond l items c).item.kind ≡ access_kind access = ap (λ (i : meant.Item). cut_kind (part_if place.cut) i.kind) its_item ∙ taken-as item place.cut in
      subst (IsNamed (first_area l.areas) (read_layout program l) (read_place place)) same
      (record {
        cond = read_cond l items c;
        means = means;
        number = at_number;
        kind = kind;
        view = λ store. ap (λ (i : meant.Item). view_of (read_layout program l) store i (read_place place)) its_item ∙ view-of-item place item v subs cut store words bounds cuts;
      })

  named-item : (place : Place) (number : ℕ) (c : CondItem) (o : Option Item) (n : NamedAccess) → AreWords place
      → cond_of (read_layout program l) place.names ≡ Some (read_cond l (read_layout program l).items c) → slice_get l.conds number ≡ Some c → slice_get l.items c.item ≡ o
      → resolved.numbered number (resolved.access_if l place o) ≡ Some n → IsNamed (first_area l.areas) (read_layout program l) (read_place place) n
  named-item place number c None n words means here there is = absurd (none-some n is)
  named-item place number c (Some item) n words means here there is =
      named-parts place number c item n (resolved.bounds_of l place.subs) (resolved.cut_of l place.cut) words means here there refl refl is

  cond-named : (names : List (List ℕ)) (number : ℕ) (c : CondItem) → IsWord names → meaning l names ≡ found.Named number → slice_get l.conds number ≡ Some c
      → cond_of (read_layout program l) names ≡ Some (read_cond l (read_layout program l).items c)
  cond-named [] number c word means here = absurd (unknown-not-named number means)
  cond-named (name ∷ qs) number c word means here =
      let once : meaning l (name ∷ qs) ≢ found.Twice = λ twice. absurd (named-not-twice number (sym means ∙ twice)) in
      cond-found program l (first_area l.areas) ids name qs word once ∙ ap (cond_told (read_layout program l).conds) means
      ∙ slice_get-map (read_cond l (read_layout program l).items) l.conds number ∙ ap (option_map (read_cond l (read_layout program l).items)) here

  named-cond : (place : Place) (number : ℕ) (o : Option CondItem) (n : NamedAccess) → AreWords place → meaning l place.names ≡ found.Named number → slice_get l.conds number ≡ o
      → resolved.named_if l place number o ≡ Some n → IsNamed (first_area l.areas) (read_layout program l) (read_place place) n
  named-cond place number None n words means here is = absurd (none-some n is)
  named-cond place number (Some c) n words means here is =
      named-item place number c (slice_get l.items c.item) n words (cond-named place.names number c words.own means here) here refl is

-- a place that is resolved is what it stands for
pub access-means : (l : Layout) (place : Place) (a : Access) → AreNumbered (first_area l.areas) l.areas → AreWords place → resolved.access_of l place ≡ Some a → StandsFor l place a
access-means l place a ids words is = λ program. by-named program l ids place a (resolved.item_named l place.names) words refl is

pub resolved-means : {E : Type 0} (l : Layout) (place : Place) (item : Item) (r : Result (Option Access) E) → AreNumbered (first_area l.areas) l.areas → IsWord place.names
    → resolved.item_named l place.names ≡ Some item → IfOk r (λ access. access ≡ resolved.access_if l place (Some item))
    → IfOk r (λ access. IfSome access (λ a. AllByRecursion SubIsWord place.subs)) → IfOk r (λ access. IfSome access (λ a. CutIsWord place.cut)) → IfOk r (λ access. IfSome access (StandsFor l place))
resolved-means l place item (Err e) ids own named is subs cut = record {}
resolved-means l place item (Ok None) ids own named is subs cut = record {}
resolved-means l place item (Ok (Some a)) ids own named is subs cut =
    access-means l place a ids (record { own = own; subs = subs; cut = cut }) (ap (resolved.access_if l place) named ∙ sym is)

pub named-means : {E : Type 0} (l : Layout) (place : Place) (number : ℕ) (r : Result (Option NamedAccess) E) → AreNumbered (first_area l.areas) l.areas → IsWord place.names
    → meaning l place.names ≡ found.Named number → IfOk r (λ named. named ≡ resolved.named_if l place number (slice_get l.conds number))
    → IfOk r (λ named. IfSome named (λ a. AllByRecursion SubIsWord place.subs)) → IfOk r (λ named. IfSome named (λ a. CutIsWord place.cut)) → IfOk r (λ named. IfSome named (NamesFor l place))
named-means l place number (Err e) ids own means is subs cut = record {}
named-means l place number (Ok None) ids own means is subs cut = record {}
named-means l place number (Ok (Some n)) ids own means is subs cut = λ program.
    named-cond program l ids place number (slice_get l.conds number) n (record { own = own; subs = subs; cut = cut }) means refl (sym is)
