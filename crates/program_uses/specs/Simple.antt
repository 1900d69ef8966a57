-- The first fault in a statement, without what it holds.
use Rattle.std.specs.Prelude.{ℕ, ◌-◌, ◌==◌, Bool, true, false, ◌&&◌, List, [], ◌∷◌, Option, Some, None, if◌then◌else◌, slice_get}
use Rattle.y2k_base.specs.declared.place.AreaId.{AreaId}
use Rattle.cobol_syntax.specs.declared.place.Place.{Place}
use Rattle.cobol_syntax.specs.declared.expr.Operand.{Operand}
use Rattle.cobol_syntax.specs.declared.expr.Expr.{Expr}
use Rattle.cobol_syntax.specs.declared.statement.NamePair.{NamePair}
use Rattle.cobol_syntax.specs.declared.statement.Control.{Control}
use Rattle.cobol_syntax.specs.declared.statement.Control.TheVariants as control
use Rattle.cobol_syntax.specs.declared.statement.Vary.{Vary}
use Rattle.data_layout.specs.declared.item.Item.{Item}
use Rattle.data_layout.specs.declared.item.Area.{Area}
use Rattle.data_layout.specs.declared.item.Layout.{Layout}
use Rattle.data_layout.specs.declared.found.Found.{Found}
use Rattle.data_layout.specs.declared.found.Found.TheVariants as found
use Rattle.data_layout.specs.Find.{meaning}
use Rattle.operand_uses.specs.declared.fault.NameKind.{NameKind}
use Rattle.operand_uses.specs.declared.fault.NameKind.TheVariants as name
use Rattle.operand_uses.specs.declared.fault.UseFault.{UseFault}
use Rattle.operand_uses.specs.Order.{sooner, shape_fault, name_fault}
use Rattle.operand_uses.specs.Places.{worse, place_fault, place_if_fault}
use Rattle.operand_uses.specs.Operands.{sort_of, sort_of_place, operand_fault, operand_if_fault, counts, is_whole, receives_number, moves_right}
use Rattle.operand_uses.specs.Exprs.{expr_fault, all_numbers}
use Rattle.operand_uses.specs.Conditions.{condition_fault}
use Rattle.program_uses.specs.Names.{Known}

abbrev pub move_fault : Layout → ℕ → Operand → Place → Option UseFault
move_fault layout owner from to =
    sooner (operand_fault layout owner from)
    (sooner (place_fault layout owner to) (shape_fault owner (moves_right (sort_of layout from) (sort_of_place layout to))))

abbrev pub counts_if : Layout → Option Place → Bool
counts_if layout None = true
counts_if layout (Some place) = counts (sort_of_place layout place)

-- operands and the item of REMAINDER are numbers, and the receiver is one or edited
abbrev pub computes_right : Layout → Place → Expr → Option Place → Bool
computes_right layout to value rest =
    (all_numbers layout value && receives_number (sort_of_place layout to)) && counts_if layout rest

abbrev pub compute_fault : Layout → ℕ → Place → Expr → Option Place → Option UseFault
compute_fault layout owner to value rest =
    sooner (expr_fault layout owner value)
    (sooner (place_fault layout owner to)
    (sooner (place_if_fault layout owner rest) (shape_fault owner (computes_right layout to value rest))))

-- the item of VARYING, what it starts from and its step are numbers
abbrev pub varies_right : Layout → Vary → Bool
varies_right layout vary =
    (counts (sort_of_place layout vary.item) && counts (sort_of layout vary.from)) && counts (sort_of layout vary.by)

abbrev pub vary_fault : Layout → ℕ → Option Vary → Option UseFault
vary_fault layout owner None = None
vary_fault layout owner (Some vary) =
    sooner (place_fault layout owner vary.item)
    (sooner (operand_fault layout owner vary.from)
    (sooner (operand_fault layout owner vary.by) (shape_fault owner (varies_right layout vary))))

-- a count of turns is an integer
abbrev pub control_fault : Layout → ℕ → Control → Option UseFault
control_fault layout owner control.Once = None
control_fault layout owner (control.Times count) =
    sooner (operand_fault layout owner count) (shape_fault owner (is_whole (sort_of layout count)))
control_fault layout owner (control.Until after test vary) =
    sooner (vary_fault layout owner vary) (condition_fault layout owner test)

abbrev pub range_fault : Known → ℕ → Option NamePair → Option UseFault
range_fault paragraphs owner None = None
range_fault paragraphs owner (Some pair) = name_fault owner (worse (paragraphs pair.first) (paragraphs pair.last))

abbrev pub read_fault : Layout → Known → ℕ → List ℕ → Option Place → Option UseFault
read_fault layout files owner file into = sooner (place_if_fault layout owner into) (name_fault owner (files file))

-- areas are numbered one after another
abbrev pub first_area : Option Area → ℕ
first_area None = 0
first_area (Some area) = area.id.0

abbrev pub is_record_area : Option Area → Bool
is_record_area None = false
is_record_area (Some area) = area.file

abbrev pub is_in_file : Layout → AreaId → Bool
is_in_file layout id = is_record_area (slice_get layout.areas (id.0 - first_area (slice_get layout.areas 0)))

-- a record is an 01 of a file
abbrev pub is_record : Layout → Option Item → Bool
is_record layout None = false
is_record layout (Some item) = item.level == 1 && is_in_file layout item.span.area

abbrev pub wrong_record : Layout → Found → Option NameKind
wrong_record layout (found.Item number) = if is_record layout (slice_get layout.items number) then None else Some name.Unknown
wrong_record layout (found.Named number) = Some name.Unknown
wrong_record layout found.Unknown = Some name.Unknown
wrong_record layout found.Twice = Some name.Twice

abbrev pub advances_right : Layout → Option Operand → Bool
advances_right layout None = true
advances_right layout (Some count) = counts (sort_of layout count)

abbrev pub write_fault : Layout → ℕ → List ℕ → Option Operand → Option Operand → Option UseFault
write_fault layout owner record_name from advance =
    sooner (operand_if_fault layout owner from)
    (sooner (operand_if_fault layout owner advance)
    (sooner (name_fault owner (wrong_record layout (meaning layout (record_name ∷ [])))) (shape_fault owner (advances_right layout advance))))

-- operands one after another, after what is at fault already
abbrev pub show_fault : Layout → ℕ → Option UseFault → List Operand → Option UseFault
show_fault layout owner fault [] = fault
show_fault layout owner fault (operand ∷ operands) = show_fault layout owner (sooner fault (operand_fault layout owner operand)) operands
