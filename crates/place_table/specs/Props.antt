-- What is known of places has one proof at most.
use Rattle.std.specs.Prelude.{ℕ, ◌+◌, List, [], ◌∷◌, Option, Some, None}
use Rattle.std.proofs.Props.{props}
use Rattle.std.specs.List.{AllByRecursion-prop}
use mathlib.Core.HLevel.{Unit-prop}
use mathlib.Core.Sum.{⊎_set}
use Rattle.y2k_base.specs.declared.picture.Picture.{Picture}
use Rattle.cobol_syntax.specs.declared.place.Place.{Place}
use Rattle.data_layout.specs.declared.item.Area.{Area}
use Rattle.data_layout.specs.declared.item.Layout.{Layout}
use Rattle.decimal_bytes.specs.declared.form.NumForm.{NumForm}
use Rattle.operand_kinds.specs.declared.kind.Kind.{Kind}
use Rattle.operand_kinds.specs.declared.kind.Kind.TheVariants as kinds
use Rattle.layout_reading.specs.Numbered.{AreNumbered}
use Rattle.program_meaning.specs.Answer.{Answer}
use Rattle.program_meaning.specs.Kind as meant
use Rattle.program_meaning.specs.Layout as meant_layout
use Rattle.program_meaning.specs.Number as number
use Rattle.program_meaning.specs.Storage as meaning
use Rattle.program_meaning.specs.Tree as tree
use Rattle.storage_places.specs.declared.access.Access.{Access}
use Rattle.storage_places.specs.declared.access.Bound.{Bound}
use Rattle.storage_places.specs.declared.access.Bound.TheVariants as bound
use Rattle.storage_places.specs.declared.access.Cut.{Cut}
use Rattle.storage_places.specs.Fits.{KindFits, TakesText, BoundFits, BoundIfFits, CutFits, LayoutFits}
use Rattle.place_table.specs.declared.known.Known.{Known}
use Rattle.place_table.specs.declared.known.Meaning.{Meaning}
use Rattle.place_table.specs.declared.known.Meaning.TheVariants as meanings
use Rattle.place_table.specs.Known.{IsSound, IsMeant, IsKnown, AreKnown}

symbol-set : IsSet meant.Symbol
symbol-set = Prim.hlevel (props, ⊎_set)

kind-set : IsSet meant.Kind
kind-set = Prim.hlevel (props, ⊎_set, symbol-set)

view-set : IsSet (Answer meaning.View)
view-set = Prim.hlevel (props, ⊎_set, kind-set)

form-set : IsSet (Answer number.NumForm)
form-set = Prim.hlevel (props, ⊎_set)

operand-set : IsSet tree.Operand
operand-set = Prim.hlevel (props, ⊎_set)

named-set : IsSet (Answer (meaning.View × List meant_layout.Values))
named-set = Prim.hlevel (props, ⊎_set, kind-set, operand-set)

number-prop : (usage : _) (form : NumForm) (picture : Option Picture) (n : ℕ) → IsProp (KindFits (kinds.Number usage form) picture n)
number-prop usage form picture n = Prim.hlevel props

plain-form-set : IsSet number.NumForm
plain-form-set = Prim.hlevel (props, ⊎_set)

kind-prop : (k : Kind) (picture : Option Picture) (n : ℕ) → IsProp (KindFits k picture n)
kind-prop kinds.Group picture n = Unit-prop
kind-prop kinds.Text picture n = Unit-prop
kind-prop (kinds.Edited form) picture n = Prim.hlevel (props, plain-form-set)
kind-prop (kinds.Number usage form) picture n = number-prop usage form picture n

bound-prop : (first : ℕ) (lengths : List ℕ) (b : Bound) → IsProp (BoundFits first lengths b)
bound-prop first lengths (bound.Literal n) = Unit-prop
bound-prop first lengths (bound.Number x) = Prim.hlevel props

bound-if-prop : (first : ℕ) (lengths : List ℕ) (b : Option Bound) → IsProp (BoundIfFits first lengths b)
bound-if-prop first lengths None = Unit-prop
bound-if-prop first lengths (Some b) = bound-prop first lengths b

cut-prop : (first : ℕ) (lengths : List ℕ) (c : Option Cut) → IsProp (CutFits first lengths c)
cut-prop first lengths None = Unit-prop
cut-prop first lengths (Some c) = Prim.hlevel (bound-prop, bound-if-prop)

areas-prop : (n : ℕ) (areas : List Area) → IsProp (AreNumbered n areas)
areas-prop n [] = Unit-prop
areas-prop n (area ∷ areas) = Prim.hlevel (props, areas-prop (n + 1) areas)

layout-prop : (l : Layout) → IsProp (LayoutFits l)
layout-prop l = Prim.hlevel (props, kind-prop)

pub sound-prop : (l : Layout) → IsProp (IsSound l)
sound-prop l = Prim.hlevel (props, ⊎_set, areas-prop, layout-prop)

meant-prop : (l : Layout) (place : Place) (m : Meaning) (a : Access) → IsProp (IsMeant l place m a)
meant-prop l place (meanings.Item form) a = Prim.hlevel (props, kind-set, view-set, form-set)
meant-prop l place (meanings.Name number) a = Prim.hlevel (props, named-set)

operand-kind-set : IsSet Kind
operand-kind-set = Prim.hlevel (props, ⊎_set)

text-prop : (c : Option Cut) (k : Kind) → IsProp (TakesText c k)
text-prop None k = Unit-prop
text-prop (Some c) k = operand-kind-set k kinds.Text

known-prop : (l : Layout) (k : Known) → IsProp (IsKnown l k)
known-prop l k = Prim.hlevel (props, meant-prop, bound-prop, cut-prop, kind-prop, text-prop)

pub all-known-prop : (l : Layout) (ks : List Known) → IsProp (AreKnown l ks)
all-known-prop l ks = AllByRecursion-prop (IsKnown l) (known-prop l) ks
