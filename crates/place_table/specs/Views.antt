-- What places of a program are taken as, and where they are.
use Rattle.std.specs.Prelude.{◌≡◌, ℕ, ◌≤◌, ◌<◌, length, Option, Some, None, slice_get}
use Rattle.y2k_base.specs.declared.picture.Picture.{Picture}
use Rattle.program_meaning.specs.Answer.{Gives}
use Rattle.program_meaning.specs.Storage as meaning
use Rattle.layout_reading.specs.Reading.{read_span, first_area}
use Rattle.storage_places.specs.Reached.{kind_with, span_at}
use Rattle.place_table.specs.declared.known.Known.{Known}
use Rattle.place_table.specs.declared.places.Places.{Places}
use Rattle.place_table.specs.declared.view.View.{View}
use Rattle.place_table.specs.Tables.{layout_of, known_at}
pub use Rattle.place_table.specs.Names.{ranges_of, ranges_at, named_view}

-- how many places are known
abbrev pub count : Places → ℕ
count places = length places.known.items

abbrev pub picture_of : Option Known → Option Picture
picture_of None = None
picture_of (Some known) = known.access.picture

-- the picture of the place with this number in the table
abbrev pub picture_at : Places → ℕ → Option Picture
picture_at places number = picture_of (slice_get places.known.items number)

-- a view of a place, as the meaning has it
abbrev pub read_view : Places → View → meaning.View
read_view places v =
    record { kind = kind_with v.kind (picture_at places v.number); span = read_span (first_area (layout_of places).areas) v.span }

-- the same program; the places that were known keep their numbers
pub record HasGrown (old new : Places) : Type 0 where
  pub layout : layout_of new ≡ layout_of old
  pub more : count old ≤ count new
  pub kept : (number : ℕ) → number < count old → picture_at new number ≡ picture_at old number

-- where the place with this number is
pub record IsViewOf (places : Places) (store : meaning.Storage) (number : ℕ) (v : View) : Type 0 where
  pub known : Known
  pub here : known_at places number ≡ Some known
  pub kind : v.kind ≡ known.access.kind
  pub same : v.number ≡ number
  pub span : span_at (first_area (layout_of places).areas) store known.access ≡ Gives v.span
