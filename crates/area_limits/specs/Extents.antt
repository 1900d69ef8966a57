-- The areas of a program after the conversion: its own, and then those that are generated.
use Rattle.std.specs.Prelude.{ℕ, Bool, true, false, not, ◌&&◌, ◌==◌, List, ◌++◌, map, Option, Some, None, is_some, codes}
use Rattle.std.specs.List.{find}
use Rattle.std.specs.Str.{bytes_eq}
use Rattle.y2k_base.specs.declared.place.AreaId.{AreaId}
use Rattle.y2k_base.specs.declared.place.Span.{Span}
use Rattle.y2k_base.specs.declared.word.Word.{Word}
use Rattle.y2k_base.specs.declared.word.WordKind.{WordKind}
use Rattle.y2k_base.specs.declared.word.WordKind.TheVariants as word_kinds
use Rattle.y2k_base.specs.declared.word.Origin.{Origin}
use Rattle.cobol_syntax.specs.declared.program.Program.{Program}
use Rattle.data_layout.specs.declared.item.Area.{Area}
use Rattle.data_layout.specs.declared.item.Item.{Item}
use Rattle.data_layout.specs.declared.item.Layout.{Layout}
use Rattle.window_modes.specs.declared.modes.YearMode.{YearMode}
use Rattle.statement_rules.specs.Statements.{origin_of, origin_at}
use Rattle.date_uses.specs.declared.uses.DateUse.{DateUse}
use Rattle.generated_areas.specs.declared.area.GeneratedArea.{GeneratedArea}
use Rattle.generated_areas.specs.Areas.{area_digits}
use Rattle.generated_areas.specs.Needs.{needs}
use Rattle.area_limits.specs.Grown.{grown}

-- an area with its length, and the place at which it is refused
pub record Extent : Type 0 where
  pub at : Origin
  pub length : ℕ

abbrev pub area_span : Area → Span
area_span area = record { area = area.id; offset = 0; length = area.length }

abbrev pub area_length : List YearMode → Area → ℕ
area_length modes area = grown modes (area_span area)

-- an 01 or 77 entry of the area with so many bytes after the conversion
abbrev pub is_record : List YearMode → AreaId → ℕ → Item → Bool
is_record modes area n item = not (is_some item.parent) && (item.span.area.0 == area.0 && grown modes item.span == n)

abbrev pub item_origin : List Word → Option Item → Origin
item_origin words None = origin_of None
item_origin words (Some item) = origin_at words item.entry_at

-- an area is as long as the longest of its entries, and refused at the first of these
abbrev pub area_origin : List YearMode → List Word → List Item → Area → Origin
area_origin modes words items area = item_origin words (find (is_record modes area.id (area_length modes area)) items)

abbrev pub area_extent : List YearMode → List Word → List Item → Area → Extent
area_extent modes words items area = record { at = area_origin modes words items area; length = area_length modes area }

abbrev pub is_name : WordKind → Bool
is_name word_kinds.Name = true
is_name word_kinds.Number = false
is_name word_kinds.Literal = false
is_name word_kinds.Picture = false
is_name word_kinds.Mark = false

-- no name is this word, so the only one is that of the division header
abbrev pub is_procedure : Word → Bool
is_procedure word = is_name word.kind && bytes_eq word.text (codes "PROCEDURE")

abbrev pub procedure_origin : List Word → Origin
procedure_origin words = origin_of (find is_procedure words)

-- a generated area is refused there
abbrev pub generated_extent : Origin → GeneratedArea → Extent
generated_extent at area = record { at = at; length = area_digits area }

abbrev pub own_extents : List YearMode → Program → Layout → List Extent
own_extents modes program layout = map (area_extent modes program.words layout.items) layout.areas

abbrev pub generated_extents : Program → List GeneratedArea → List Extent
generated_extents program areas = map (generated_extent (procedure_origin program.words)) areas

-- all areas of the program of that number
abbrev pub extents : List YearMode → List DateUse → ℕ → Program → Layout → List Extent
extents modes uses number program layout = own_extents modes program layout ++ generated_extents program (needs modes number uses)
