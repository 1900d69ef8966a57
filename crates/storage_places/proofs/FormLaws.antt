-- The item that a name means has the digits, point and sign of its class.
use Rattle.std.proofs.Common.{◌≡◌, ℕ, ◌≤◌, ◌==◌, Bool, true, false, cond, List, [], ◌∷◌, sym, ap, ◌∙◌, refl, Option, Some, arith}
use Rattle.y2k_base.specs.declared.picture.Picture.{Picture}
use Rattle.cobol_syntax.specs.declared.place.Place.{Place}
use Rattle.cobol_syntax.specs.declared.program.Usage.{Usage}
use Rattle.decimal_bytes.specs.declared.form.NumForm.{NumForm}
use Rattle.data_layout.specs.declared.item.Class.{Class}
use Rattle.data_layout.specs.declared.item.Class.TheVariants as class
use Rattle.data_layout.specs.declared.item.Item.{Item}
use Rattle.data_layout.specs.declared.item.Layout.{Layout}
use Rattle.operand_kinds.specs.declared.kind.Kind.{Kind}
use Rattle.operand_kinds.specs.declared.kind.Kind.TheVariants as kinds
use Rattle.operand_kinds.specs.Kinds as operand
use Rattle.program_meaning.specs.Answer.{Gives, or_fault, and_then, Range}
use Rattle.program_meaning.specs.Kind.{Symbol, Nine, Zee, Comma, Show, Dash, digits_shown, digits_after, form_of}
use Rattle.program_meaning.specs.Layout as meant
use Rattle.layout_reading.specs.Kinds.{read_form, symbols, kind_by}
use Rattle.layout_reading.specs.Numbered.{AreNumbered}
use Rattle.layout_reading.specs.Reading.{first_area}
use Rattle.storage_places.specs.Resolved as resolved
use Rattle.storage_places.specs.Fits.{IsEdited, KindFits, LayoutFits}
use Rattle.storage_places.specs.Forms.{kind_form, IsFormOf}
use Rattle.storage_places.specs.Means.{IsWord}
use Rattle.storage_places.proofs.FitLaws.{item-fits}
use Rattle.storage_places.proofs.MeansLaws.{IsItem, item-named}

after-most : (ss : List Symbol) → digits_after ss ≤ digits_shown ss
after-most [] = omega arith
after-most (Nine ∷ ss) = omega (arith, after-most ss)
after-most (Zee ∷ ss) = omega (arith, after-most ss)
after-most (Comma ∷ ss) = after-most ss
after-most (Show byte ∷ ss) = tested (byte == 46) (after-most ss)
  where
    tested : (b : Bool) → digits_after ss ≤ digits_shown ss → cond {A = ℕ} b (digits_shown ss) (digits_after ss) ≤ digits_shown ss
    tested true most = omega arith
    tested false most = most
after-most (Dash ∷ ss) = after-most ss

edited-scale : (form : NumForm) (picture : Option Picture) (bytes : ℕ) → IsEdited form picture bytes → form.scale ≤ 18
edited-scale form picture bytes is =
    let scale : form.scale ≡ digits_after (symbols picture) = ap (λ f. f.scale) is.same_form in
    let digits : form.digits ≡ digits_shown (symbols picture) = ap (λ f. f.digits) is.same_form in
    omega (arith, scale, digits, after-most (symbols picture), is.at_most_18)

by-class : (c : Class) (usage : Usage) (form : NumForm) (picture : Option Picture) (bytes : ℕ) → KindFits (operand.kind_of c usage form) picture bytes
    → form_of (kind_by c usage form picture) ≡ read_form (kind_form (operand.kind_of c usage form))
by-class class.Group usage form picture bytes fits = refl
by-class class.Text usage form picture bytes fits = refl
by-class class.Edited usage form picture bytes fits = sym fits.same_form
by-class class.Number usage form picture bytes fits = refl

few-digits : (k : Kind) (picture : Option Picture) (bytes : ℕ) → KindFits k picture bytes → (kind_form k).digits ≤ 18
few-digits kinds.Group picture bytes fits = omega arith
few-digits kinds.Text picture bytes fits = omega arith
few-digits (kinds.Edited form) picture bytes fits = fits.at_most_18
few-digits (kinds.Number usage form) picture bytes fits = fits.at_most_18

short-scale : (k : Kind) (picture : Option Picture) (bytes : ℕ) → KindFits k picture bytes → (kind_form k).scale ≤ 18
short-scale kinds.Group picture bytes fits = omega arith
short-scale kinds.Text picture bytes fits = omega arith
short-scale (kinds.Edited form) picture bytes fits = edited-scale form picture bytes fits
short-scale (kinds.Number usage form) picture bytes fits = omega (arith, fits.scale, fits.at_most_18)

pub form-means : (l : Layout) (place : Place) (item : Item) → AreNumbered (first_area l.areas) l.areas → LayoutFits l → IsWord place.names
    → resolved.item_named l place.names ≡ Some item → IsFormOf l place (kind_form (operand.kind_of_item item))
form-means l place item ids fit word is =
    let fits = item-fits l fit place.names item is in
    let k = operand.kind_of_item item in
    record {
      same = λ program store.
          let named : IsItem program l place.names item = item-named program l ids place.names item word is in
          ap (λ (o : Option meant.Item). and_then (or_fault Range o) (λ i. Gives (form_of i.kind))) named.is
          ∙ ap Gives (by-class item.class item.usage item.form item.picture item.span.length fits.kind);
      digits = few-digits k item.picture item.span.length fits.kind;
      scale = short-scale k item.picture item.span.length fits.kind;
    }
