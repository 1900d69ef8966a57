-- The first fault in SELECT entries, FDs and condition-names.
use Rattle.std.specs.Prelude.{ℕ, Bool, true, ◌&&◌, List, [], ◌∷◌, Option, Some, None, slice_get}
use Rattle.cobol_syntax.specs.declared.expr.Operand.{Operand}
use Rattle.cobol_syntax.specs.declared.place.Place.{Place}
use Rattle.cobol_syntax.specs.declared.program.Select.{Select}
use Rattle.cobol_syntax.specs.declared.program.FileEntry.{FileEntry}
use Rattle.cobol_syntax.specs.declared.program.Range.{Range}
use Rattle.data_layout.specs.declared.item.Item.{Item}
use Rattle.data_layout.specs.declared.item.CondItem.{CondItem}
use Rattle.data_layout.specs.declared.item.Layout.{Layout}
use Rattle.operand_kinds.specs.Kinds.{kind_of_item}
use Rattle.operand_uses.specs.declared.fault.NameKind.{NameKind}
use Rattle.operand_uses.specs.declared.fault.NameKind.TheVariants as name
use Rattle.operand_uses.specs.declared.fault.Trouble.TheVariants as trouble
use Rattle.operand_uses.specs.declared.fault.UseFault.{UseFault}
use Rattle.operand_uses.specs.declared.sort.Sort.{Sort}
use Rattle.operand_uses.specs.declared.sort.Sort.TheVariants as sort
use Rattle.operand_uses.specs.Order.{sooner, shape_fault}
use Rattle.operand_uses.specs.Places.{place_name_fault, place_right}
use Rattle.operand_uses.specs.Operands.{sort_of, sort_of_place, is_status, compares_right}
use Rattle.program_uses.specs.Names.{Known}

-- a SELECT without an FD, or an FD without a SELECT
abbrev pub file_fault : ℕ → Option NameKind → Option UseFault
file_fault owner None = None
file_fault owner (Some name.Unknown) = Some (record { owner = owner; trouble = trouble.File })
file_fault owner (Some name.Twice) = None

module _ (layout : Layout) where
  -- the item of FILE STATUS: the use stands at the SELECT, its names where they are
  abbrev pub status_fault : ℕ → Option Place → Option UseFault
  status_fault owner None = None
  status_fault owner (Some place) =
      sooner (shape_fault owner (is_status (sort_of_place layout place) && place_right layout place))
      (place_name_fault layout place.at place)

  abbrev pub selects_fault : Known → Option UseFault → List Select → Option UseFault
  selects_fault files fault [] = fault
  selects_fault files fault (select ∷ selects) =
      selects_fault files (sooner fault (sooner (status_fault select.at select.status) (file_fault select.at (files select.name)))) selects

  abbrev pub files_fault : Known → Option UseFault → List FileEntry → Option UseFault
  files_fault selects fault [] = fault
  files_fault selects fault (file ∷ files) = files_fault selects (sooner fault (file_fault file.at (selects file.name))) files

  abbrev pub high_right : Sort → Option Operand → Bool
  high_right item None = true
  high_right item (Some high) = compares_right item (sort_of layout high)

  -- the values of a condition-name are compared with its item
  abbrev pub ranges_right : Sort → Bool → List Range → Bool
  ranges_right item right [] = right
  ranges_right item right (range ∷ ranges) =
      ranges_right item (right && (compares_right item (sort_of layout range.low) && high_right item range.high)) ranges

  abbrev pub sort_of_item : Option Item → Sort
  sort_of_item None = sort.Unclear
  sort_of_item (Some item) = sort.Item (kind_of_item item) (Some item.span.length)

  abbrev pub conds_fault : Option UseFault → List CondItem → Option UseFault
  conds_fault fault [] = fault
  conds_fault fault (c ∷ conds) =
      conds_fault (sooner fault (shape_fault c.entry_at (ranges_right (sort_of_item (slice_get layout.items c.item)) true c.ranges))) conds
