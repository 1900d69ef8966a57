-- The places of a program over a storage of it.
use Rattle.std.specs.Prelude.{◌≡◌, ℕ, Option, Some, slice_get}
use Rattle.cobol_syntax.specs.declared.place.Place.{Place}
use Rattle.cobol_syntax.specs.declared.program.Program.{Program}
use Rattle.data_layout.specs.declared.item.Layout.{Layout}
use Rattle.layout_reading.specs.Reading.{read_layout, first_area}
use Rattle.program_meaning.specs.Answer.{Answer, Gives}
use Rattle.program_meaning.specs.Layout as meant
use Rattle.storage_places.specs.declared.fault.RunFault.{RunFault}
use Rattle.storage_places.specs.declared.storage.Storage.{Storage}
use Rattle.storage_places.specs.Fits.{area_lengths}
use Rattle.storage_places.specs.Held.{held, first, lengths}
use Rattle.storage_places.specs.Meets.{MayMeet}
use Rattle.decimal_bytes.specs.declared.form.NumForm.{NumForm}
use Rattle.place_table.specs.declared.known.Known.{Known}
use Rattle.place_table.specs.declared.known.Meaning.TheVariants as meanings
use Rattle.place_table.specs.declared.places.Places.{Places}
use Rattle.place_table.specs.Known.{IsKnownAs, IsItem, IsName}

-- the layout of the program
abbrev pub layout_of : Places → Layout
layout_of places = places.layout.now

-- a storage of the program
pub record IsStorageOf (layout : Layout) (storage : Storage) : Type 0 where
  pub first : first storage ≡ first_area layout.areas
  pub lengths : lengths (held storage) ≡ area_lengths layout

-- what the meaning answers in every program with this layout
abbrev pub Gave : {A : Type 0} → Layout → (meant.Layout → Answer A) → A → Type 0
Gave layout meaning a = (program : Program) → meaning (read_layout program layout) ≡ Gives a

-- it fails so in every program with this layout, or memory is wanting
abbrev pub Failed : {A : Type 0} → Layout → (meant.Layout → Answer A) → RunFault → Type 0
Failed layout meaning fault = (program : Program) → MayMeet (meaning (read_layout program layout)) fault

-- the place with this number
abbrev pub known_at : Places → ℕ → Option Known
known_at places number = slice_get places.known.items number

-- a place is known under this number
pub record IsFound (places : Places) (place : Place) (number : ℕ) : Type 0 where
  pub known : Known
  pub here : known_at places number ≡ Some known
  pub same : IsKnownAs (layout_of places) place known

-- a place that means an item is known under this number
pub record IsItemAt (places : Places) (place : Place) (number : ℕ) : Type 0 where
  pub known : Known
  pub form : NumForm
  pub here : known_at places number ≡ Some known
  pub meaning : known.meaning ≡ meanings.Item form
  pub item : IsItem (layout_of places) place form known.access

-- a place that means a condition-name is known under this number
pub record IsNameAt (places : Places) (place : Place) (name : ℕ) (number : ℕ) : Type 0 where
  pub known : Known
  pub here : known_at places number ≡ Some known
  pub item : IsName (layout_of places) place name known.access
