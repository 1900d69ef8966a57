-- Places of a layout whose items lie in its areas lie there, too.
use Rattle.std.proofs.Common.{◌≡◌, ℕ, zero, suc, List, [], ◌∷◌, refl, sym, ap, ◌∙◌, subst, Option, Some, None}
use Rattle.std.specs.Prelude.{slice_get, IfOk, IfSome, Result, Ok, Err}
use Rattle.std.specs.List.{AllByRecursion}
use Rattle.std.proofs.lemmas.Option.{none-some}
use Rattle.cobol_syntax.specs.declared.place.Place.{Place}
use Rattle.cobol_syntax.specs.declared.place.Part.{Part}
use Rattle.cobol_syntax.specs.declared.place.Sub.{Sub}
use Rattle.cobol_syntax.specs.declared.place.Sub.TheVariants as sub
use Rattle.data_layout.specs.declared.item.Class.{Class}
use Rattle.data_layout.specs.declared.item.Class.TheVariants as class
use Rattle.data_layout.specs.declared.item.CondItem.{CondItem}
use Rattle.data_layout.specs.declared.item.Item.{Item}
use Rattle.data_layout.specs.declared.item.Layout.{Layout}
use Rattle.data_layout.specs.declared.found.Found.{Found}
use Rattle.data_layout.specs.declared.found.Found.TheVariants as found
use Rattle.data_layout.specs.Find.{meaning}
use Rattle.operand_kinds.specs.Kinds as operand
use Rattle.layout_reading.specs.Reading.{first_area}
use Rattle.layout_reading.specs.Told.{item_told}
use Rattle.storage_places.specs.declared.access.Bound.{Bound}
use Rattle.storage_places.specs.declared.access.Bound.TheVariants as bound
use Rattle.storage_places.specs.declared.access.Cut.{Cut}
use Rattle.storage_places.specs.declared.access.Access.{Access}
use Rattle.storage_places.specs.declared.access.NamedAccess.{NamedAccess}
use Rattle.storage_places.specs.Resolved as resolved
use Rattle.storage_places.specs.Fits.{IsNumber, KindFits, TakesText, BoundFits, BoundIfFits, CutFits, Fits, ItemFits, LayoutFits, area_lengths}

at-number : (P : Item → Type 0) (items : List Item) (k : ℕ) (item : Item) → AllByRecursion P items → slice_get items k ≡ Some item → P item
at-number P [] k item all is = absurd (none-some item is)
at-number P (i ∷ items) zero item all is = let same : i ≡ item = cc in subst P same all.0
at-number P (i ∷ items) (suc k) item all is = at-number P items k item all.1 is

kind-fits : (part : Option Part) (item : Item) → KindFits (operand.kind_of_item item) item.picture item.span.length
    → KindFits (operand.kind_of_part part (operand.kind_of_item item)) item.picture item.span.length
kind-fits None item fits = fits
kind-fits (Some part) item fits = tt

module _ (l : Layout) (fit : LayoutFits l) where
  by-meaning : (f : Found) (item : Item) → item_told l.items f ≡ Some item → ItemFits (first_area l.areas) (area_lengths l) item
  by-meaning (found.Item k) item is = at-number (ItemFits (first_area l.areas) (area_lengths l)) l.items k item fit is
  by-meaning (found.Named k) item is = absurd (none-some item is)
  by-meaning found.Unknown item is = absurd (none-some item is)
  by-meaning found.Twice item is = absurd (none-some item is)

  pub item-fits : (names : List (List ℕ)) (item : Item) → resolved.item_named l names ≡ Some item → ItemFits (first_area l.areas) (area_lengths l) item
  item-fits names item is = by-meaning (meaning l names) item is

  by-class : (item : Item) (c : Class) (b : Bound) → item.class ≡ c → ItemFits (first_area l.areas) (area_lengths l) item → resolved.bound_by c item ≡ Some b → BoundFits (first_area l.areas) (area_lengths l) b
  by-class item class.Group b is fits bounds = absurd (none-some b bounds)
  by-class item class.Text b is fits bounds = absurd (none-some b bounds)
  by-class item class.Edited b is fits bounds = absurd (none-some b bounds)
  by-class item class.Number b is fits bounds =
      let there : Bound = bound.Number (record { span = item.span; usage = item.usage; form = item.form }) in
      let same : there ≡ b = cc in
      let number : IsNumber item.usage item.form item.span.length =
      subst (λ (c : Class). KindFits (operand.kind_of c item.usage item.form) item.picture item.span.length) is fits.kind in
      subst (BoundFits (first_area l.areas) (area_lengths l)) same (record { within = fits.first_occurrence; number = number })

  by-item : (names : List (List ℕ)) (b : Bound) (o : Option Item) → resolved.item_named l names ≡ o → resolved.bound_if o ≡ Some b → BoundFits (first_area l.areas) (area_lengths l) b
  by-item names b None named is = absurd (none-some b is)
  by-item names b (Some item) named is = by-class item item.class b refl (item-fits names item named) is

  bound-fits : (s : Sub) (b : Bound) → resolved.bound_of l s ≡ Some b → BoundFits (first_area l.areas) (area_lengths l) b
  bound-fits (sub.Number value at) b is = let same : bound.Literal value ≡ b = cc in subst (BoundFits (first_area l.areas) (area_lengths l)) same tt
  bound-fits (sub.Name names) b is = by-item names b (resolved.item_named l names) refl is

  by-bounds : (s : Sub) (bs : List Bound) (o : Option Bound) (os : Option (List Bound)) → resolved.bound_of l s ≡ o → ((more : List Bound) → os ≡ Some more → AllByRecursion (BoundFits (first_area l.areas) (area_lengths l)) more)
      → resolved.bounds_with o os ≡ Some bs → AllByRecursion (BoundFits (first_area l.areas) (area_lengths l)) bs
  by-bounds s bs None os first others is = absurd (none-some bs is)
  by-bounds s bs (Some b) None first others is = absurd (none-some bs is)
  by-bounds s bs (Some b) (Some more) first others is =
      let same : b ∷ more ≡ bs = cc in subst (AllByRecursion (BoundFits (first_area l.areas) (area_lengths l))) same (bound-fits s b first, others more refl)

  bounds-fit : (ss : List Sub) (bs : List Bound) → resolved.bounds_of l ss ≡ Some bs → AllByRecursion (BoundFits (first_area l.areas) (area_lengths l)) bs
  bounds-fit [] bs is = let none : [] ≡ bs = cc in subst (AllByRecursion (BoundFits (first_area l.areas) (area_lengths l))) none tt
  bounds-fit (s ∷ ss) bs is = by-bounds s bs (resolved.bound_of l s) (resolved.bounds_of l ss) refl (λ more there. bounds-fit ss more there) is

  by-length : (s : Sub) (b : Option Bound) (o : Option Bound) → resolved.bound_of l s ≡ o → resolved.some_bound o ≡ Some b → BoundIfFits (first_area l.areas) (area_lengths l) b
  by-length s b None here is = absurd (none-some b is)
  by-length s b (Some one) here is = let same : Some one ≡ b = cc in subst (BoundIfFits (first_area l.areas) (area_lengths l)) same (bound-fits s one here)

  length-fits : (length : Option Sub) (b : Option Bound) → resolved.length_of l length ≡ Some b → BoundIfFits (first_area l.areas) (area_lengths l) b
  length-fits None b is = let none : None ≡ b = cc in subst (BoundIfFits (first_area l.areas) (area_lengths l)) none tt
  length-fits (Some s) b is = by-length s b (resolved.bound_of l s) refl is

  by-cut : (part : Part) (cut : Option Cut) (start : Option Bound) (length : Option (Option Bound)) → resolved.bound_of l part.start ≡ start → resolved.length_of l part.length ≡ length
      → resolved.cut_with start length ≡ Some cut → CutFits (first_area l.areas) (area_lengths l) cut
  by-cut part cut None length starts lengths is = absurd (none-some cut is)
  by-cut part cut (Some start) None starts lengths is = absurd (none-some cut is)
  by-cut part cut (Some start) (Some length) starts lengths is =
      let there : Option Cut = Some (record { start = start; length = length }) in
      let same : there ≡ cut = cc in
      subst (CutFits (first_area l.areas) (area_lengths l)) same (bound-fits part.start start starts, length-fits part.length length lengths)

  cut-fits : (part : Option Part) (cut : Option Cut) → resolved.cut_of l part ≡ Some cut → CutFits (first_area l.areas) (area_lengths l) cut
  cut-fits None cut is = let none : None ≡ cut = cc in subst (CutFits (first_area l.areas) (area_lengths l)) none tt
  cut-fits (Some part) cut is = by-cut part cut (resolved.bound_of l part.start) (resolved.length_of l part.length) refl refl is

  takes-text : (part : Option Part) (item : Item) (cut : Option Cut) → resolved.cut_of l part ≡ Some cut → TakesText cut (operand.kind_of_part part (operand.kind_of_item item))
  takes-text None item cut is = let none : None ≡ cut = cc in subst (λ (c : Option Cut). TakesText c (operand.kind_of_item item)) none tt
  takes-text (Some part) item None is = tt
  takes-text (Some part) item (Some c) is = refl

  by-parts : (place : Place) (a : Access) (item : Item) (subs : Option (List Bound)) (cut : Option (Option Cut)) → ItemFits (first_area l.areas) (area_lengths l) item
      → resolved.bounds_of l place.subs ≡ subs → resolved.cut_of l place.cut ≡ cut → resolved.access_with item place.cut subs cut ≡ Some a → Fits (first_area l.areas) (area_lengths l) a
  by-parts place a item None cut fits bounds cuts is = absurd (none-some a is)
  by-parts place a item (Some subs) None fits bounds cuts is = absurd (none-some a is)
  by-parts place a item (Some subs) (Some cut) fits bounds cuts is =
      let there : Access = record { kind = operand.kind_of_part place.cut (operand.kind_of_item item); picture = item.picture; span = item.span; steps = item.steps; subs = subs; cut = cut } in
      let same : there ≡ a = cc in
      subst (Fits (first_area l.areas) (area_lengths l)) same
      (record { first_occurrence = fits.first_occurrence; last_occurrence = fits.last_occurrence; short = fits.short; kind = kind-fits place.cut item fits.kind; subs = bounds-fit place.subs subs bounds; cut = cut-fits place.cut cut cuts; text = takes-text place.cut item cut cuts })

  by-named : (place : Place) (a : Access) (o : Option Item) → resolved.item_named l place.names ≡ o → resolved.access_if l place o ≡ Some a → Fits (first_area l.areas) (area_lengths l) a
  by-named place a None named is = absurd (none-some a is)
  by-named place a (Some item) named is = by-parts place a item (resolved.bounds_of l place.subs) (resolved.cut_of l place.cut) (item-fits place.names item named) refl refl is

  pub access-fits : (place : Place) (a : Access) → resolved.access_of l place ≡ Some a → Fits (first_area l.areas) (area_lengths l) a
  access-fits place a is = by-named place a (resolved.item_named l place.names) refl is

  by-access : (place : Place) (number : ℕ) (n : NamedAccess) (o : Option Access) (item : Item) → ItemFits (first_area l.areas) (area_lengths l) item
      → resolved.access_with item place.cut (resolved.bounds_of l place.subs) (resolved.cut_of l place.cut) ≡ o → resolved.numbered number o ≡ Some n → Fits (first_area l.areas) (area_lengths l) n.access
  by-access place number n None item fits here is = absurd (none-some n is)
  by-access place number n (Some a) item fits here is =
      let whole : NamedAccess = record { name = number; access = a } in
      let same : whole ≡ n = cc in
      subst (λ (n : NamedAccess). Fits (first_area l.areas) (area_lengths l) n.access) same (by-parts place a item (resolved.bounds_of l place.subs) (resolved.cut_of l place.cut) fits refl refl here)

  named-item : (place : Place) (number : ℕ) (k : ℕ) (o : Option Item) (n : NamedAccess) → slice_get l.items k ≡ o → resolved.numbered number (resolved.access_if l place o) ≡ Some n
      → Fits (first_area l.areas) (area_lengths l) n.access
  named-item place number k None n there is = absurd (none-some n is)
  named-item place number k (Some item) n there is =
      by-access place number n (resolved.access_with item place.cut (resolved.bounds_of l place.subs) (resolved.cut_of l place.cut)) item
      (at-number (ItemFits (first_area l.areas) (area_lengths l)) l.items k item fit there) refl is

  named-cond : (place : Place) (number : ℕ) (o : Option CondItem) (n : NamedAccess) → resolved.named_if l place number o ≡ Some n → Fits (first_area l.areas) (area_lengths l) n.access
  named-cond place number None n is = absurd (none-some n is)
  named-cond place number (Some c) n is = named-item place number c.item (slice_get l.items c.item) n refl is

pub named-fits : {E : Type 0} (l : Layout) (place : Place) (number : ℕ) (r : Result (Option NamedAccess) E)
    → IfOk r (λ named. named ≡ resolved.named_if l place number (slice_get l.conds number)) → LayoutFits l → IfOk r (λ named. IfSome named (λ n. Fits (first_area l.areas) (area_lengths l) n.access))
named-fits l place number (Err e) is fit = record {}
named-fits l place number (Ok None) is fit = record {}
named-fits l place number (Ok (Some n)) is fit = named-cond l fit place number (slice_get l.conds number) n (sym is)

pub resolved-fits : {E : Type 0} (l : Layout) (place : Place) (item : Item) (r : Result (Option Access) E) → resolved.item_named l place.names ≡ Some item
    → IfOk r (λ access. access ≡ resolved.access_if l place (Some item)) → LayoutFits l → IfOk r (λ access. IfSome access (Fits (first_area l.areas) (area_lengths l)))
resolved-fits l place item (Err e) named is fit = record {}
resolved-fits l place item (Ok None) named is fit = record {}
resolved-fits l place item (Ok (Some a)) named is fit = access-fits l fit place a (ap (resolved.access_if l place) named ∙ sym is)
