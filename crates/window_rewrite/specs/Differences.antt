-- Differences of years with a window.
use Rattle.std.specs.Prelude.{ℕ, Bool, false, List, [], ◌∷◌, flat_map, codes, Option, Some, None, is_some, if◌then◌else◌}
use Rattle.std.specs.List.{list_any}
use Rattle.y2k_base.specs.declared.edit.Edit.{Edit}
use Rattle.y2k_base.specs.declared.word.Origin.{Origin}
use Rattle.y2k_base.specs.declared.word.Word.{Word}
use Rattle.cobol_syntax.specs.declared.place.Place.{Place}
use Rattle.cobol_syntax.specs.declared.expr.Operand.{Operand}
use Rattle.statement_rules.specs.Statements.{origin_at}
use Rattle.statement_rules.specs.Trees.{Tree, Just, Negated, Sum, Difference, Product, Quotient, tree_of}
use Rattle.window_modes.specs.declared.modes.YearMode.{YearMode}
use Rattle.date_uses.specs.declared.uses.Used.{Used}
use Rattle.date_uses.specs.Places.{operand_used, place_used}
use Rattle.date_uses.specs.Conditions.{pair}
use Rattle.window_dates.specs.declared.window.WindowedYear.{WindowedYear}
use Rattle.window_dates.specs.Windows.{window_part, first_of}
use Rattle.statement_places.specs.Parts.{Seen, Move, Compute, Accept, Test}
use Rattle.statement_words.specs.Edited.{stretch}
use Rattle.statement_words.specs.Groups.{alone, receiver}
use Rattle.window_rewrite.specs.declared.difference.Difference as declared
use Rattle.window_rewrite.specs.declared.difference.Computed.{Computed}
use Rattle.window_rewrite.specs.declared.form.Slots.{Slots}
use Rattle.window_rewrite.specs.Old.{Old}
use Rattle.window_rewrite.specs.Forms.{filled}
use Rattle.window_rewrite.specs.Expressions.{operand_words}
use Rattle.window_rewrite.specs.Relations.{number_words}

-- `less` is subtracted from `from`; the pivot is that of a year of the difference, and `both` says that `less` is a year
pub record Years : Type 0 where
  pub from : Operand
  pub less : Operand
  pub pivot : ℕ
  pub both : Bool

abbrev pub years : declared.Difference → Years
years d = record { from = d.from.now; less = d.less.now; pivot = d.pivot; both = d.both }

-- what a statement computes for one receiver
pub record Computation : Type 0 where
  pub to : Place
  pub rounded : Bool
  pub value : Tree

abbrev pub computation : Computed → Computation
computation c = record { to = c.to.now; rounded = c.rounded; value = tree_of c.value.now }

abbrev pub computation_of : Seen → Option Computation
computation_of (Move at end from to) = None
computation_of (Compute at end to rounded value) = Some (record { to = to; rounded = rounded; value = tree_of value })
computation_of (Accept at end to from) = None
computation_of (Test of) = None

-- the year of a difference, that of its receiver first
abbrev pub year_of : List YearMode → Used → Used → Used → Option WindowedYear
year_of modes to from less = first_of (window_part modes to) (first_of (window_part modes from) (window_part modes less))

abbrev pub with_year : Old → Operand → Operand → Option WindowedYear → Option Years
with_year old from less None = None
with_year old from less (Some year) =
    Some (record { from = from; less = less; pivot = year.pivot; both = is_some (window_part old.modes (operand_used old.layout less)) })

abbrev pub years_with : Old → Place → Operand → Operand → Option Years
years_with old to from less =
    with_year old from less (year_of old.modes (place_used old.layout to) (operand_used old.layout from) (operand_used old.layout less))

abbrev pub operands_of : Tree → Option (Operand × Operand)
operands_of (Just x) = None
operands_of (Negated t) = None
operands_of (Sum s t) = None
operands_of (Difference s t) = pair s t
operands_of (Product s t) = None
operands_of (Quotient s t) = None

abbrev pub years_of_two : Old → Place → Option (Operand × Operand) → Option Years
years_of_two old to None = None
years_of_two old to (Some two) = years_with old to two.0 two.1

-- the difference of two operands with a windowed year, if the value is one
abbrev pub years_in : Old → Place → Tree → Option Years
years_in old to value = years_of_two old to (operands_of value)

abbrev pub has_years : Old → Option Computation → Bool
has_years old None = false
has_years old (Some c) = is_some (years_in old c.to c.value)

abbrev pub is_windowed : Old → Seen → Bool
is_windowed old part = has_years old (computation_of part)

abbrev pub has_windowed : Old → List Seen → Bool
has_windowed old group = list_any (is_windowed old) group

abbrev pub slots_of : Old → Origin → Computation → Years → Slots
slots_of old origin c d = record {
  a = operand_words old d.less;
  b = operand_words old d.from;
  c = receiver old.program old.words old.edits c.to c.rounded;
  p = number_words origin d.pivot 2;
}

-- a year less a year, and a year less a number of years
abbrev pub form_of : Bool → List ℕ
form_of both =
    if both
    then codes "IF B < P AND A NOT < P COMPUTE C = B - A + 100 ELSE IF B NOT < P AND A < P COMPUTE C = B - A - 100 ELSE COMPUTE C = B - A END-IF END-IF"
    else codes "IF B < A COMPUTE C = B - A + 100 ELSE COMPUTE C = B - A END-IF"

abbrev pub difference_words : Old → Origin → Computation → Years → List Word
difference_words old origin c d = filled (slots_of old origin c d) origin (form_of d.both)

-- any other computation stays
abbrev pub words_by : Old → Origin → List Seen → Seen → Computation → Option Years → List Word
words_by old origin group part c None = alone old.program old.words old.edits group part
words_by old origin group part c (Some d) = difference_words old origin c d

abbrev pub computed_words : Old → Origin → List Seen → Seen → Computation → List Word
computed_words old origin group part c = words_by old origin group part c (years_in old c.to c.value)

abbrev pub part_words_if : Old → Origin → List Seen → Seen → Option Computation → List Word
part_words_if old origin group part None = []
part_words_if old origin group part (Some c) = computed_words old origin group part c

-- a part of a text statement by itself
abbrev pub part_words : Old → Origin → List Seen → Seen → List Word
part_words old origin group part = part_words_if old origin group part (computation_of part)

abbrev pub parts_words : Old → Origin → List Seen → List Seen → List Word
parts_words old origin group parts = flat_map (part_words old origin group) parts

-- a text statement with a windowed difference is written anew, its computations one after the other
abbrev pub computations_edits : Old → List Seen → ℕ → ℕ → List Edit
computations_edits old group at end =
    if has_windowed old group
    then stretch old.program old.words at end (parts_words old (origin_at old.words at) group group)
    else []
