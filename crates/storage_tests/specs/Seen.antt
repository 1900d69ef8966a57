-- Where a place is, by what the code holds of it.
use Rattle.std.specs.Prelude.{ℕ, List, Option, None}
use Rattle.y2k_base.specs.declared.picture.Picture.{Picture}
use Rattle.data_layout.specs.declared.item.Layout.{Layout}
use Rattle.operand_kinds.specs.declared.kind.Kind as operand
use Rattle.operand_kinds.specs.declared.kind.Kind.TheVariants as kinds
use Rattle.layout_reading.specs.Reading.{read_span}
use Rattle.program_meaning.specs.Answer.{Answer, Gives, and_then}
use Rattle.program_meaning.specs.Arithmetic.{Scaled, exact}
use Rattle.program_meaning.specs.Layout as meaning
use Rattle.program_meaning.specs.Storage as meant
use Rattle.program_meaning.specs.Storage.{read, decimal_in}
use Rattle.storage_places.specs.declared.storage.Storage.{Storage}
use Rattle.storage_places.specs.Fits.{IsNumber}
use Rattle.storage_places.specs.Held.{held, first, lengths, IsWithin}
use Rattle.storage_places.specs.Reached.{kind_with}
use Rattle.place_table.specs.declared.view.View.{View}
use Rattle.place_table.specs.Tables.{Gave}

-- a place with the picture of an edited item
abbrev pub view_with : Storage → Option Picture → View → meant.View
view_with storage picture v = record { kind = kind_with v.kind picture; span = read_span (first storage) v.span }

-- a place without its picture, at which no comparison looks
abbrev pub seen : Storage → View → meant.View
seen storage v = view_with storage None v

-- the bytes of a place
abbrev pub seen_bytes : Storage → View → List ℕ
seen_bytes storage v = read (held storage) (read_span (first storage) v.span)

-- the number that a place holds
abbrev pub seen_number : Storage → View → Answer Scaled
seen_number storage v = and_then (decimal_in (kind_with v.kind None) (seen_bytes storage v)) (λ d. Gives (exact d))

-- a number has as many bytes as its form says
abbrev pub IsLong : operand.Kind → ℕ → Type 0
IsLong kinds.Group n = Unit {0}
IsLong kinds.Text n = Unit {0}
IsLong (kinds.Edited form) n = Unit {0}
IsLong (kinds.Number usage form) n = IsNumber usage form n

-- a place that lies in the storage with all of its bytes
pub record IsThere (storage : Storage) (v : View) : Type 0 where
  pub within : IsWithin (first storage) (lengths (held storage)) v.span
  pub long : IsLong v.kind v.span.length

-- it is what the meaning gives
pub record IsSeen (layout : Layout) (storage : Storage) (place : meaning.Layout → Answer meant.View) (v : View) : Type 0 where
  pub picture : Option Picture
  pub gives : Gave layout place (view_with storage picture v)
  pub there : IsThere storage v
