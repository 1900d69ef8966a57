-- Resolved places that lie in the areas of their program, with all occurrences.
use Rattle.std.specs.Prelude.{length, ◌≡◌, ℕ, ◌+◌, ◌-◌, ◌*◌, ◌^◌, ◌<◌, ◌≤◌, List, [], ◌∷◌, map, Option, Some, None}
use Rattle.std.specs.List.{AllByRecursion}
use Rattle.y2k_base.specs.declared.picture.Picture.{Picture}
use Rattle.y2k_base.specs.declared.place.Span.{Span}
use Rattle.decimal_bytes.specs.declared.form.NumForm.{NumForm}
use Rattle.cobol_syntax.specs.declared.program.Usage.{Usage}
use Rattle.data_layout.specs.declared.item.Item.{Item}
use Rattle.data_layout.specs.declared.item.Layout.{Layout}
use Rattle.data_layout.specs.declared.item.Step.{Step}
use Rattle.layout_reading.specs.Reading.{read_area, first_area}
use Rattle.operand_kinds.specs.declared.kind.Kind.{Kind}
use Rattle.operand_kinds.specs.declared.kind.Kind.TheVariants as kinds
use Rattle.operand_kinds.specs.Kinds.{kind_of_item}
use Rattle.layout_reading.specs.Kinds.{symbols, read_form}
use Rattle.program_meaning.specs.Kind.{edited_form}
use Rattle.number_bytes.specs.Held.{number_length}
use Rattle.storage_places.specs.declared.access.NumberItem.{NumberItem}
use Rattle.storage_places.specs.declared.access.Bound.{Bound}
use Rattle.storage_places.specs.declared.access.Bound.TheVariants as bound
use Rattle.storage_places.specs.declared.access.Cut.{Cut}
use Rattle.storage_places.specs.declared.access.Access.{Access}
use Rattle.storage_places.specs.Held.{IsWithin}

-- how far the last occurrence begins behind the first
abbrev pub farthest : List Step → ℕ
farthest [] = 0
farthest (s ∷ ss) = (s.count - 1) * s.size + farthest ss

-- the last occurrence
abbrev pub last_span : Span → List Step → Span
last_span span steps = record { area = span.area; offset = span.offset + farthest steps; length = span.length }

-- a number has 1 to 18 digits, of which as many stand after the point as its form says, and as many bytes
pub record IsNumber (usage : Usage) (form : NumForm) (length : ℕ) : Type 0 where
  pub some_digits : 1 ≤ form.digits
  pub at_most_18 : form.digits ≤ 18
  pub scale : form.scale ≤ form.digits
  pub bytes : length ≡ number_length usage form

-- an edited item has a byte for each place of its picture, and its form is that of the picture
pub record IsEdited (form : NumForm) (picture : Option Picture) (bytes : ℕ) : Type 0 where
  pub places : bytes ≡ length (symbols picture)
  pub same_form : read_form form ≡ edited_form (symbols picture)
  pub at_most_18 : form.digits ≤ 18

-- an item of a kind has as many bytes as its picture says
abbrev pub KindFits : Kind → Option Picture → ℕ → Type 0
KindFits kinds.Group picture bytes = Unit {0}
KindFits kinds.Text picture bytes = Unit {0}
KindFits (kinds.Edited form) picture bytes = IsEdited form picture bytes
KindFits (kinds.Number usage form) picture bytes = IsNumber usage form bytes

-- a reference is taken as a text
abbrev pub TakesText : Option Cut → Kind → Type 0
TakesText None k = Unit {0}
TakesText (Some c) k = k ≡ kinds.Text

module _ (first : ℕ) (lengths : List ℕ) where
  -- a number in the areas
  pub record NumberFits (x : NumberItem) : Type 0 where
    pub within : IsWithin first lengths x.span
    pub number : IsNumber x.usage x.form x.span.length

  abbrev pub BoundFits : Bound → Type 0
  BoundFits (bound.Literal n) = Unit {0}
  BoundFits (bound.Number x) = NumberFits x

  abbrev pub BoundIfFits : Option Bound → Type 0
  BoundIfFits None = Unit {0}
  BoundIfFits (Some b) = BoundFits b

  abbrev pub CutFits : Option Cut → Type 0
  CutFits None = Unit {0}
  CutFits (Some c) = BoundFits c.start × BoundIfFits c.length

  pub record Fits (a : Access) : Type 0 where
    pub first_occurrence : IsWithin first lengths a.span
    pub last_occurrence : IsWithin first lengths (last_span a.span a.steps)
    pub short : a.span.offset + farthest a.steps + a.span.length < 2 ^ 32
    pub kind : KindFits a.kind a.picture a.span.length
    pub subs : AllByRecursion BoundFits a.subs
    pub cut : CutFits a.cut
    pub text : TakesText a.cut a.kind

  -- an item that lies in the areas with all its occurrences
  pub record ItemFits (item : Item) : Type 0 where
    pub first_occurrence : IsWithin first lengths item.span
    pub last_occurrence : IsWithin first lengths (last_span item.span item.steps)
    pub short : item.span.offset + farthest item.steps + item.span.length < 2 ^ 32
    pub kind : KindFits (kind_of_item item) item.picture item.span.length

abbrev pub area_lengths : Layout → List ℕ
area_lengths l = map read_area l.areas

-- all items lie in the areas, and numbers are as long as their forms say
abbrev pub LayoutFits : Layout → Type 0
LayoutFits l = AllByRecursion (ItemFits (first_area l.areas) (area_lengths l)) l.items
