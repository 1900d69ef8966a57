-- What is known of places.
use Rattle.std.specs.Prelude.{◌≡◌, ℕ, map, List}
use Rattle.std.specs.List.{AllByRecursion}
use Rattle.cobol_syntax.specs.declared.place.Place.{Place}
use Rattle.cobol_syntax.specs.declared.program.Program.{Program}
use Rattle.data_layout.specs.Index.{IsReady}
use Rattle.data_layout.specs.declared.item.Layout.{Layout}
use Rattle.decimal_bytes.specs.declared.form.NumForm.{NumForm}
use Rattle.layout_reading.specs.Numbered.{AreNumbered}
use Rattle.layout_reading.specs.Reading.{read_layout, first_area}
use Rattle.program_meaning.specs.Answer.{Gives, and_then}
use Rattle.program_meaning.specs.Storage.{Storage}
use Rattle.tree_reading.specs.Reading.{read_place, read_values}
use Rattle.storage_places.specs.declared.access.Access.{Access}
use Rattle.storage_places.specs.Fits.{Fits, LayoutFits, area_lengths}
use Rattle.storage_places.specs.Forms.{IsFormOf}
use Rattle.storage_places.specs.Means.{StandsFor, view_with}
use Rattle.storage_places.specs.Reached.{span_at}
use Rattle.place_table.specs.declared.known.Known.{Known}
use Rattle.place_table.specs.declared.known.Meaning.{Meaning}
use Rattle.place_table.specs.declared.known.Meaning.TheVariants as meanings
use Rattle.place_table.specs.Names.{named_view, ranges_at}

-- a layout that resolves places
pub record IsSound (layout : Layout) : Type 0 where
  pub ready : IsReady layout
  pub numbered : AreNumbered (first_area layout.areas) layout.areas
  pub fits : LayoutFits layout

-- a place that means an item of this form
pub record IsItem (layout : Layout) (place : Place) (form : NumForm) (access : Access) : Type 0 where
  pub stands : StandsFor layout place access
  pub same_form : IsFormOf layout place form

-- a place that means the condition-name with this number
abbrev pub IsName : Layout → Place → ℕ → Access → Type 0
IsName layout place number access =
    (program : Program) (store : Storage) → named_view (read_layout program layout) store (read_place place)
    ≡ and_then (span_at (first_area layout.areas) store access) (λ span. Gives (view_with (first_area layout.areas) access span, map read_values (ranges_at layout number)))

abbrev pub IsMeant : Layout → Place → Meaning → Access → Type 0
IsMeant layout place (meanings.Item form) access = IsItem layout place form access
IsMeant layout place (meanings.Name number) access = IsName layout place number access

-- what is known of a place
pub record IsKnownAs (layout : Layout) (place : Place) (known : Known) : Type 0 where
  pub meant : IsMeant layout place known.meaning known.access
  pub fits : Fits (first_area layout.areas) (area_lengths layout) known.access

abbrev pub IsKnown : Layout → Known → Type 0
IsKnown layout known = IsKnownAs layout known.place known

abbrev pub AreKnown : Layout → List Known → Type 0
AreKnown layout knowns = AllByRecursion (IsKnown layout) knowns
