-- The operands of a sum or a difference: numbers of two digits that are a year or plain, and what a row says of them.
use Rattle.std.specs.Prelude.{◌⊎◌, Bool, true, false, List, Option, Some, None}
use Rattle.year_labels.specs.declared.label.Fact.{Fact}
use Rattle.year_labels.specs.declared.label.Role.TheVariants as roles
use Rattle.case_tables.specs.declared.row_table.Who.{Who}
use Rattle.case_tables.specs.declared.row_table.Who.TheVariants.{A, B, C}
use Rattle.case_tables.specs.declared.row_table.Test.{Test}
use Rattle.case_tables.specs.declared.row_table.Row.{Row}
use Rattle.year_labels.specs.declared.rule.View.{View}
use Rattle.year_labels.specs.Roles.{HasRole, Gives}

-- the number is a year, if that is asked, and else it is plain
abbrev pub Is : List Fact → View → Bool → Type 0
Is known view true = HasRole known view 1 roles.Tens ⊎ HasRole known view 0 roles.Units
Is known view false = HasRole known view 1 roles.Plain ⊎ HasRole known view 0 roles.Plain

-- making the number a year, or else plain, adds the fact
abbrev pub Makes : List Fact → View → Bool → Fact → Type 0
Makes known view true f = Gives known view 1 roles.Tens f ⊎ Gives known view 0 roles.Units f
Makes known view false f = Gives known view 1 roles.Plain f ⊎ Gives known view 0 roles.Plain f

abbrev pub operand : View → View → View → Who → View
operand a b c A = a
operand a b c B = b
operand a b c C = c

-- the operand that the test names is what it says
abbrev pub Holds : View → View → View → Test → List Fact → Type 0
Holds a b c test known = Is known (operand a b c test.who) test.year

abbrev pub HoldsIf : View → View → View → Option Test → List Fact → Type 0
HoldsIf a b c None known = Unit {0}
HoldsIf a b c (Some test) known = Holds a b c test known

-- the tests of the row hold
abbrev pub Fires : View → View → View → Row → List Fact → Type 0
Fires a b c row known = Holds a b c row.if1 known × HoldsIf a b c row.if2 known

-- the fact follows by the row
abbrev pub IsByRow : View → View → View → Row → List Fact → Fact → Type 0
IsByRow a b c row known f = Fires a b c row known × Makes known (operand a b c row.gives.who) row.gives.year f
