-- What the operands of a sum or a difference say about each other.
use Rattle.std.specs.Prelude.{◌≡◌, Bool, true, false, IsTrue, List, [], ◌∷◌, Contains, Option, Some, None}
use Rattle.case_tables.specs.declared.row_table.Flags.{Flags}
use Rattle.case_tables.specs.declared.row_table.Known.{Known}
use Rattle.case_tables.specs.declared.row_table.Who.{Who}
use Rattle.case_tables.specs.declared.row_table.Who.TheVariants.{A, B, C}
use Rattle.case_tables.specs.declared.row_table.Test.{Test}
use Rattle.case_tables.specs.declared.row_table.Row.{Row}

-- whether the operand is a year or, if that is asked, plain
abbrev pub flag : Flags → Bool → Bool
flag flags true = flags.year
flag flags false = flags.plain

abbrev pub flags_of : Known → Who → Flags
flags_of known A = known.a
flags_of known B = known.b
flags_of known C = known.c

-- the operand that the test names is what it says
abbrev pub Holds : Known → Test → Type 0
Holds known test = IsTrue (flag (flags_of known test.who) test.year)

abbrev pub HoldsIf : Known → Option Test → Type 0
HoldsIf known None = Unit {0}
HoldsIf known (Some test) = Holds known test

-- the one or two tests of the row hold
abbrev pub Fires : Known → Row → Type 0
Fires known row = Holds known row.if1 × HoldsIf known row.if2

-- a row whose tests hold gives this
abbrev pub IsGiven : List Row → Known → Test → Type 0
IsGiven rows known test = (row : Row) × Contains rows row × Fires known row × (row.gives ≡ test)

abbrev pub year : Who → Test
year who = record { who = who; year = true }

abbrev pub plain : Who → Test
plain who = record { who = who; year = false }

-- where the first holds, the last is given
abbrev pub one : Test → Test → Row
one if1 gives = record { if1 = if1; if2 = None; gives = gives }

-- where the first two hold, the last is given
abbrev pub two : Test → Test → Test → Row
two if1 if2 gives = record { if1 = if1; if2 = Some if2; gives = gives }

-- c = a + b
abbrev pub add_rows : List Row
add_rows =
    one (year A) (year C)
    ∷ one (year A) (plain B)
    ∷ one (year B) (year C)
    ∷ one (year B) (plain A)
    ∷ one (plain C) (plain A)
    ∷ one (plain C) (plain B)
    ∷ two (plain A) (plain B) (plain C)
    ∷ two (plain A) (year C) (year B)
    ∷ two (plain B) (year C) (year A)
    ∷ []

-- c = b - a
abbrev pub sub_rows : List Row
sub_rows =
    one (year A) (year B)
    ∷ one (year A) (plain C)
    ∷ one (year C) (year B)
    ∷ one (year C) (plain A)
    ∷ two (plain A) (year B) (year C)
    ∷ two (plain A) (plain C) (plain B)
    ∷ one (plain B) (plain A)
    ∷ one (plain B) (plain C)
    ∷ two (year B) (plain C) (year A)
    ∷ []
