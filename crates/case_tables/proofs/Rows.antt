-- The tables of rows, and what flags say.
use Rattle.std.proofs.Common.{◌≡◌, ◌↔◌, Bool, true, false, IsTrue, List, refl}
use Rattle.case_tables.specs.declared.row_table.Known.{Known}
use Rattle.case_tables.specs.declared.row_table.Who.{Who}
use Rattle.case_tables.specs.declared.row_table.Who.TheVariants.{A, B, C}
use Rattle.case_tables.specs.declared.row_table.Test.{Test}
use Rattle.case_tables.specs.declared.row_table.Row.{Row}
use Rattle.case_tables.specs.declared.row_table.TheConstants.{ADD_ROWS, SUB_ROWS}
use Rattle.case_tables.specs.Rows.{Holds, IsGiven, add_rows, sub_rows, year, plain}

pub add_rows_are : ADD_ROWS.rows ≡ add_rows
add_rows_are = refl

pub sub_rows_are : SUB_ROWS.rows ≡ sub_rows
sub_rows_are = refl

-- what holds of each of the six flags holds of each test
module _ (rows : List Row) (known given : Known)
    (a_year : IsTrue given.a.year ↔ IsGiven rows known (year A)) (a_plain : IsTrue given.a.plain ↔ IsGiven rows known (plain A))
    (b_year : IsTrue given.b.year ↔ IsGiven rows known (year B)) (b_plain : IsTrue given.b.plain ↔ IsGiven rows known (plain B))
    (c_year : IsTrue given.c.year ↔ IsGiven rows known (year C)) (c_plain : IsTrue given.c.plain ↔ IsGiven rows known (plain C)) where
  flag_by : (who : Who) (year : Bool) → Holds given (record { who = who; year = year }) ↔ IsGiven rows known (record { who = who; year = year })
  flag_by A true = a_year
  flag_by A false = a_plain
  flag_by B true = b_year
  flag_by B false = b_plain
  flag_by C true = c_year
  flag_by C false = c_plain

  pub flags_by : (test : Test) → Holds given test ↔ IsGiven rows known test
  flags_by test = flag_by test.who test.year
