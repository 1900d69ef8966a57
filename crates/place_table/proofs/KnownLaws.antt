-- What is known of a place is known of all places that read as the same, and a place is where its item is.
use Rattle.std.proofs.Common.{◌≡◌, ℕ, zero, suc, List, [], ◌∷◌, map, refl, sym, ap, ◌∙◌, subst, Option, Some, None}
use Rattle.std.specs.Prelude.{slice_get, option_map, IfOk, IfErr, Result, Ok, Err}
use Rattle.std.specs.List.{AllByRecursion}
use Rattle.std.proofs.lemmas.Option.{none-some, slice_get-map}
use Rattle.cobol_syntax.specs.declared.place.Place.{Place}
use Rattle.cobol_syntax.specs.declared.program.Program.{Program}
use Rattle.data_layout.specs.declared.item.CondItem.{CondItem}
use Rattle.data_layout.specs.declared.item.Layout.{Layout}
use Rattle.decimal_bytes.specs.declared.form.NumForm.{NumForm}
use Rattle.layout_reading.specs.Kinds.{read_form}
use Rattle.layout_reading.specs.Reading.{read_layout, read_cond, read_items, first_area}
use Rattle.layout_reading.specs.Values.{values_of}
use Rattle.program_meaning.specs.Answer.{Answer, Gives, Fails, Range, or_fault, and_then}
use Rattle.program_meaning.specs.Arithmetic.{receiver_form}
use Rattle.program_meaning.specs.Layout as meant
use Rattle.program_meaning.specs.Storage as meaning
use Rattle.program_meaning.specs.Storage.{Storage, view_of}
use Rattle.program_meaning.specs.Tree as tree
use Rattle.tree_reading.specs.Reading.{read_place, read_values}
use Rattle.storage_places.specs.declared.access.Access.{Access}
use Rattle.storage_places.specs.declared.access.NamedAccess.{NamedAccess}
use Rattle.storage_places.specs.declared.fault.RunFault.{RunFault}
use Rattle.storage_places.specs.declared.fault.RunFault.TheVariants as fault
use Rattle.storage_places.specs.Means.{IsAccess, NamesFor, view_with}
use Rattle.storage_places.specs.Meets.{Meets, MayMeet}
use Rattle.storage_places.specs.Reached.{span_at}
use Rattle.place_table.specs.declared.known.Known.{Known}
use Rattle.place_table.specs.declared.known.Meaning.{Meaning}
use Rattle.place_table.specs.declared.known.Meaning.TheVariants as meanings
use Rattle.place_table.specs.declared.places.Places.{Places}
use Rattle.place_table.specs.declared.view.View.{View}
use Rattle.place_table.specs.Known.{IsItem, IsName, IsMeant, IsKnown, AreKnown}
use Rattle.place_table.specs.Names.{named_view, ranges_of, ranges_at}
use Rattle.place_table.specs.Tables.{layout_of, known_at, Gave, Failed, IsFound, IsItemAt, IsNameAt}

-- of places that read as the same
same-item : (l : Layout) (p q : Place) (form : NumForm) (a : Access) → read_place p ≡ read_place q → IsItem l p form a → IsItem l q form a
same-item l p q form a same is = record {
  stands = λ program. subst (λ (place : tree.Place). IsAccess (first_area l.areas) (read_layout program l) place a) same (is.stands program);
  same_form = record {
    same = λ program store. subst (λ (place : tree.Place). receiver_form (read_layout program l) store place ≡ Gives (read_form form)) same (is.same_form.same program store);
    digits = is.same_form.digits;
    scale = is.same_form.scale;
  };
}

same-meant : (l : Layout) (p q : Place) (m : Meaning) (a : Access) → read_place p ≡ read_place q → IsMeant l p m a → IsMeant l q m a
same-meant l p q (meanings.Item form) a same is = same-item l p q form a same is
same-meant l p q (meanings.Name number) a same is = λ program store.
    subst (λ (place : tree.Place). named_view (read_layout program l) store place
    ≡ and_then (span_at (first_area l.areas) store a) (λ span. Gives (view_with (first_area l.areas) a span, map read_values (ranges_at l number)))) same (is program store)

at-number : (P : Known → Type 0) (knowns : List Known) (k : ℕ) (known : Known) → AllByRecursion P knowns → slice_get knowns k ≡ Some known → P known
at-number P [] k known all is = absurd (none-some known is)
at-number P (i ∷ knowns) zero known all is = let same : i ≡ known = cc in subst P same all.0
at-number P (i ∷ knowns) (suc k) known all is = at-number P knowns k known all.1 is

pub found : (places : Places) (place : Place) (number : ℕ) (known : Known) → AreKnown (layout_of places) places.known.items → known_at places number ≡ Some known
    → read_place known.place ≡ read_place place → IsFound places place number
found places place number known all here same =
    let is : IsKnown (layout_of places) known = at-number (IsKnown (layout_of places)) places.known.items number known all here in
    record {
      known = known;
      here = here;
      same = record { meant = same-meant (layout_of places) known.place place known.meaning known.access same is.meant; fits = is.fits };
    }

-- a fault of what comes first is the fault of all
fails-then : {A B : Type 0} (a : Answer A) (f : A → Answer B) (whole : Answer B) (e : RunFault) → whole ≡ and_then a f → Meets a e → MayMeet whole e
fails-then a f whole fault.Data is meets = is ∙ ap (λ x. and_then x f) meets
fails-then a f whole fault.Range is meets = is ∙ ap (λ x. and_then x f) meets
fails-then a f whole fault.Zero is meets = is ∙ ap (λ x. and_then x f) meets
fails-then a f whole fault.Wide is meets = is ∙ ap (λ x. and_then x f) meets
fails-then a f whole fault.Memory is meets = absurd meets

-- the occurrence or the part of a place, or of a condition-name's item, is nowhere
abbrev pub IsNowhereAt : Places → Storage → ℕ → RunFault → Type 0
IsNowhereAt places store number e = (known : Known) → known_at places number ≡ Some known → Meets (span_at (first_area (layout_of places).areas) store known.access) e

item-fails : (places : Places) (place : Place) (number : ℕ) (store : Storage) (e : RunFault) → IsItemAt places place number → IsNowhereAt places store number e
    → Failed (layout_of places) (λ l. meaning.view l store (read_place place)) e
item-fails places place number store e item nowhere = λ program.
    let first = first_area (layout_of places).areas in
    fails-then (span_at first store item.known.access) (λ span. Gives (view_with first item.known.access span)) (meaning.view (read_layout program (layout_of places)) store (read_place place)) e
    ((item.item.stands program).view store) (nowhere item.known item.here)

pub view-fails : (places : Places) (l : Layout) (place : Place) (number : ℕ) (store : Storage) (r : Result View RunFault) → layout_of places ≡ l → IsItemAt places place number
    → IfErr r (IsNowhereAt places store number) → IfErr r (Failed l (λ l. meaning.view l store (read_place place)))
view-fails places l place number store (Ok v) same item nowhere = record {}
view-fails places l place number store (Err e) same item nowhere =
    subst (λ (l : Layout). Failed l (λ l. meaning.view l store (read_place place)) e) same (item-fails places place number store e item nowhere)

pub name-fails : (places : Places) (l : Layout) (place : Place) (name number : ℕ) (store : Storage) (e : RunFault) → layout_of places ≡ l → IsNameAt places place name number
    → IsNowhereAt places store number e → Failed l (λ l. named_view l store (read_place place)) e
name-fails places l place name number store e same item nowhere =
    let first = first_area (layout_of places).areas in
    let fails : Failed (layout_of places) (λ l. named_view l store (read_place place)) e = λ program.
    fails-then (span_at first store item.known.access) (λ span. Gives (view_with first item.known.access span, map read_values (ranges_at (layout_of places) name)))
    (named_view (read_layout program (layout_of places)) store (read_place place)) e (item.item program store) (nowhere item.known item.here) in
    subst (λ (l : Layout). Failed l (λ l. named_view l store (read_place place)) e) same fails

abbrev form-of : Meaning → Option NumForm
form-of (meanings.Item form) = Some form
form-of (meanings.Name number) = None

some-same : {A : Type 0} (x y : A) → ◌≡◌ {A = Option A} (Some x) (Some y) → x ≡ y
some-same x y is = cc

item-form : (places : Places) (place : Place) (number : ℕ) (form : NumForm) (item : IsItemAt places place number) → option_map (λ k. k.meaning) (known_at places number) ≡ Some (meanings.Item form) → item.form ≡ form
item-form places place number form item is =
    let here : option_map (λ (k : Known). k.meaning) (known_at places number) ≡ Some (meanings.Item item.form) = ap (option_map (λ (k : Known). k.meaning)) item.here ∙ ap (λ (m : Meaning). Some m) item.meaning in
    some-same item.form form (ap form-of (some-same (meanings.Item item.form) (meanings.Item form) (sym here ∙ is)))

pub form-given : (places : Places) (l : Layout) (place : Place) (number : ℕ) (r : Result NumForm RunFault) → layout_of places ≡ l → IsItemAt places place number
    → IfOk r (λ form. option_map (λ k. k.meaning) (known_at places number) ≡ Some (meanings.Item form))
    → IfOk r (λ form. (store : Storage) → Gave l (λ l. receiver_form l store (read_place place)) (read_form form))
form-given places l place number (Err e) same item is = record {}
form-given places l place number (Ok form) same item is = λ store.
    subst (λ (l : Layout). Gave l (λ l. receiver_form l store (read_place place)) (read_form form)) same
    (subst (λ (form : NumForm). Gave (layout_of places) (λ l. receiver_form l store (read_place place)) (read_form form)) (item-form places place number form item is)
    (λ program. item.item.same_form.same program store))

then-then : {A B C : Type 0} (a : Answer A) (f : A → Answer B) (g : B → Answer C) → and_then (and_then a f) g ≡ and_then a (λ x. and_then (f x) g)
then-then (Gives x) f g = refl
then-then (Fails e) f g = refl

-- the values of a condition-name by its number
values-by : (l : Layout) (items : List meant.Item) (o : Option CondItem) (cond : meant.CondName) → option_map (read_cond l items) o ≡ Some cond → cond.values ≡ map read_values (ranges_of o)
values-by l items None cond is = absurd (none-some cond is)
values-by l items (Some c) cond is = ap (λ (c : meant.CondName). c.values) (sym (some-same (read_cond l items c) cond is))

values-at : (program : Program) (l : Layout) (number : ℕ) (cond : meant.CondName) → slice_get (read_layout program l).conds number ≡ Some cond → cond.values ≡ map read_values (ranges_at l number)
values-at program l number cond is =
    let items = read_items l l.items (values_of program) in
    values-by l items (slice_get l.conds number) cond (sym (slice_get-map (read_cond l items) l.conds number) ∙ is)

pub name-known : (l : Layout) (place : Place) (named : NamedAccess) → NamesFor l place named → IsName l place named.name named.access
name-known l place named names = λ program store.
    let n = names program in
    let first = first_area l.areas in
    let layout = read_layout program l in
    let values : n.cond.values ≡ map read_values (ranges_at l named.name) = values-at program l named.name n.cond n.number in
    ap (λ (o : Option meant.CondName). and_then (or_fault Range o) (λ c. and_then (view_of layout store c.item (read_place place)) (λ v. Gives (v, c.values)))) n.means
    ∙ ap (λ (a : Answer meaning.View). and_then a (λ v. Gives (v, n.cond.values))) (n.view store)
    ∙ then-then (span_at first store named.access) (λ span. Gives (view_with first named.access span)) (λ v. Gives (v, n.cond.values))
    ∙ ap (λ (vs : List meant.Values). and_then (span_at first store named.access) (λ span. Gives (view_with first named.access span, vs))) values
