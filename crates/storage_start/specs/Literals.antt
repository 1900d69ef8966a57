-- VALUEs that are literals and figures, as each VALUE of a program that is read is.
use Rattle.std.specs.Prelude.{◌^◌, ◌<◌, ◌≤◌, List, [], ◌∷◌, Option, Some, None, unsigned_abs, if◌then◌else◌}
use Rattle.std.specs.List.{AllByRecursion}
use denote.Ref.{Bor}
use Rattle.cobol_syntax.specs.declared.expr.Operand.{Operand}
use Rattle.cobol_syntax.specs.declared.expr.Operand.TheVariants as operand
use Rattle.cobol_syntax.specs.declared.program.Entry.{Entry}
use Rattle.cobol_syntax.specs.declared.program.FileEntry.{FileEntry}
use Rattle.cobol_syntax.specs.declared.program.Program.{Program}
use Rattle.data_layout.specs.Sizes.{is_named}
use Rattle.program_meaning.specs.Tree as tree
use Rattle.tree_reading.specs.Reading.{read_operand, operand_if}

-- a number is written with at most 18 digits
abbrev pub IsLiteral : Operand → Type 0
IsLiteral (operand.Place place) = ⊥
IsLiteral (operand.Number value digits at) = (digits ≤ 18) × (unsigned_abs value.number < 10 ^ digits)
IsLiteral (operand.Text bytes at) = Unit {0}
IsLiteral (operand.Figure byte at) = Unit {0}

abbrev pub IsLiteralIf : Option Operand → Type 0
IsLiteralIf None = Unit {0}
IsLiteralIf (Some value) = IsLiteral value

abbrev pub HasLiteral : Entry → Type 0
HasLiteral e = IsLiteralIf e.value

abbrev pub HaveLiterals : FileEntry → Type 0
HaveLiterals file = AllByRecursion HasLiteral file.entries

-- each VALUE of the program is a literal or a figure
pub record AreLiterals (program : Program) : Type 0 where
  pub files : AllByRecursion HaveLiterals program.files
  pub storage : AllByRecursion HasLiteral program.storage

-- a VALUE as the code keeps it beside its item
abbrev pub value_of : Option (Bor Operand) → Option tree.Operand
value_of None = None
value_of (Some value) = Some (read_operand value.now)

abbrev pub value_in : Option (Option tree.Operand) → Option tree.Operand
value_in None = None
value_in (Some value) = value

abbrev pub IsKept : Option (Bor Operand) → Type 0
IsKept None = Unit {0}
IsKept (Some value) = IsLiteral value.now

-- the VALUE of an entry that is an item
abbrev pub own_value : Entry → List (Option tree.Operand)
own_value e = if is_named e then [] else operand_if e.value ∷ []
