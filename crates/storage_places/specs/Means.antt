-- What a resolved place stands for, and what resolving asks of names.
use Rattle.std.specs.Prelude.{◌≡◌, ◌≢◌, ℕ, List, [], ◌∷◌, Option, Some, None, slice_get}
use Rattle.std.specs.List.{AllByRecursion}
use Rattle.y2k_base.specs.declared.place.Span.{Span}
use Rattle.cobol_syntax.specs.declared.place.Place.{Place}
use Rattle.cobol_syntax.specs.declared.place.Part.{Part}
use Rattle.cobol_syntax.specs.declared.place.Sub.{Sub}
use Rattle.cobol_syntax.specs.declared.place.Sub.TheVariants as sub
use Rattle.cobol_syntax.specs.declared.program.Program.{Program}
use Rattle.data_layout.specs.declared.item.Layout.{Layout}
use Rattle.program_meaning.specs.Answer.{Gives, and_then}
use Rattle.program_meaning.specs.Layout as meant
use Rattle.program_meaning.specs.Layout.{cond_of}
use Rattle.program_meaning.specs.Storage.{Storage, View, view, view_of, kind_of, cut_kind}
use Rattle.program_meaning.specs.Tree as tree
use Rattle.tree_reading.specs.Reading.{read_place}
use Rattle.layout_reading.specs.Names.{unnamed}
use Rattle.layout_reading.specs.Reading.{read_layout, read_span, first_area}
use Rattle.storage_places.specs.declared.access.Access.{Access}
use Rattle.storage_places.specs.declared.access.NamedAccess.{NamedAccess}
use Rattle.storage_places.specs.declared.fault.RunFault.{RunFault}
use Rattle.storage_places.specs.Meets.{Meets}
use Rattle.storage_places.specs.Reached.{access_kind, span_at}

-- the bytes of a resolved place with what it is taken as
abbrev pub view_with : ℕ → Access → Span → View
view_with first a span = record { kind = access_kind a; span = read_span first span }

-- a resolved place stands for a place: it is taken as the same, and whatever the storage holds it is at the same bytes
pub record IsAccess (first : ℕ) (layout : meant.Layout) (place : tree.Place) (a : Access) : Type 0 where
  pub kind : kind_of layout place ≡ access_kind a
  pub view : (store : Storage) → view layout store place ≡ and_then (span_at first store a) (λ span. Gives (view_with first a span))

-- the same in the layout of any program
abbrev pub StandsFor : Layout → Place → Access → Type 0
StandsFor l place a = (program : Program) → IsAccess (first_area l.areas) (read_layout program l) (read_place place) a

-- the item of a condition-name, which has this number in the layout, stands for that of a place
pub record IsNamed (first : ℕ) (layout : meant.Layout) (place : tree.Place) (named : NamedAccess) : Type 0 where
  pub cond : meant.CondName
  pub means : cond_of layout place.names ≡ Some cond
  pub number : slice_get layout.conds named.name ≡ Some cond
  pub kind : cut_kind place.cut cond.item.kind ≡ access_kind named.access
  pub view : (store : Storage) → view_of layout store cond.item place ≡ and_then (span_at first store named.access) (λ span. Gives (view_with first named.access span))

abbrev pub NamesFor : Layout → Place → NamedAccess → Type 0
NamesFor l place named = (program : Program) → IsNamed (first_area l.areas) (read_layout program l) (read_place place) named

-- names are bytes, so none is that which the meaning gives FILLER
abbrev pub IsWord : List (List ℕ) → Type 0
IsWord [] = Unit {0}
IsWord (name ∷ qualifiers) = name ≢ unnamed

abbrev pub SubIsWord : Sub → Type 0
SubIsWord (sub.Number value at) = Unit {0}
SubIsWord (sub.Name names) = IsWord names

abbrev pub LengthIsWord : Option Sub → Type 0
LengthIsWord None = Unit {0}
LengthIsWord (Some s) = SubIsWord s

abbrev pub CutIsWord : Option Part → Type 0
CutIsWord None = Unit {0}
CutIsWord (Some p) = SubIsWord p.start × LengthIsWord p.length

pub record AreWords (place : Place) : Type 0 where
  pub own : IsWord place.names
  pub subs : AllByRecursion SubIsWord place.subs
  pub cut : CutIsWord place.cut

-- whatever it stands for is there, with what it is taken as
abbrev pub IsThere : ℕ → Storage → Access → Span → Type 0
IsThere first store a span =
    (layout : meant.Layout) (place : tree.Place) → IsAccess first layout place a → view layout store place ≡ Gives (view_with first a span)

-- whatever it stands for is nowhere, by this fault
abbrev pub IsNowhere : ℕ → Storage → Access → RunFault → Type 0
IsNowhere first store a fault =
    (layout : meant.Layout) (place : tree.Place) → IsAccess first layout place a → Meets (view layout store place) fault
