-- The words of relations.
use Rattle.std.specs.Prelude.{ℕ, ◌+◌, ◌-◌, ◌/◌, ◌%◌, Bool, true, false, leb, List, [], ◌∷◌, ◌++◌, replicate, codes, Option, Some, None, if◌then◌else◌}
use Rattle.y2k_base.specs.declared.word.Origin.{Origin}
use Rattle.y2k_base.specs.declared.word.Word.{Word}
use Rattle.y2k_base.specs.declared.word.WordKind.TheVariants as kinds
use Rattle.cobol_syntax.specs.declared.expr.Operand.{Operand}
use Rattle.cobol_syntax.specs.declared.cond.Rel.{Rel}
use Rattle.cobol_syntax.specs.declared.cond.Rel.TheVariants as rel
use Rattle.statement_rules.specs.Trees.{Tree}
use Rattle.date_views.specs.declared.side.Field.{Field}
use Rattle.date_uses.specs.declared.uses.Used.{Used}
use Rattle.date_uses.specs.declared.uses.Used.TheVariants as used
use Rattle.date_uses.specs.Places.{operand_used}
use Rattle.date_uses.specs.Conditions.{pair}
use Rattle.window_dates.specs.Operands.{compares_values, field_of}
use Rattle.literal_images.specs.declared.image.NewWord.{NewWord}
use Rattle.literal_images.specs.declared.image.NewWord.TheVariants as new
use Rattle.literal_images.specs.declared.meeting.Meeting.TheVariants as meetings
use Rattle.literal_images.specs.Images.{image}
use Rattle.statement_words.specs.NewWords.{made}
use Rattle.window_rewrite.specs.declared.form.Slots.{Slots}
use Rattle.window_rewrite.specs.declared.relation.Compared.{Compared}
use Rattle.window_rewrite.specs.Old.{Old}
use Rattle.window_rewrite.specs.Forms.{filled}
use Rattle.window_rewrite.specs.Expressions.{operand_words, tree_words}
use Rattle.window_rewrite.specs.Orders.{order_pivot}

-- an operand of a comparison, as it is written and as it is used
pub record Side : Type 0 where
  pub operand : Operand
  pub used : Used

abbrev pub side : Compared → Side
side x = record { operand = x.operand.now; used = x.used }

abbrev pub side_of : Old → Operand → Side
side_of old x = record { operand = x; used = operand_used old.layout x }

abbrev pub new_word : Origin → NewWord → List Word
new_word at (new.Number text) = made at kinds.Number text ∷ []
new_word at (new.Literal text) = made at kinds.Literal text ∷ []

abbrev pub new_or_old : Origin → Option NewWord → List Word → List Word
new_or_old at None old = old
new_or_old at (Some word) old = new_word at word

-- beside another operand a literal has the word that it needs there
abbrev pub compared_words : Old → Origin → Side → Side → List Word
compared_words old at x y = new_or_old at (image old.modes meetings.Compared x.used y.used) (operand_words old x.operand)

-- a relation as it is
abbrev pub plain_form : Rel → List ℕ
plain_form rel.Equal = codes "A = B"
plain_form rel.Less = codes "A < B"
plain_form rel.Greater = codes "A > B"

-- P begins the hundred years: what isn't below P is of the years before 2000, and what is below P of those after
abbrev pub two_places_form : Rel → List ℕ
two_places_form rel.Equal = codes "A = B"
two_places_form rel.Less = codes "( ( A < B AND ( A NOT < P OR B < P ) ) OR ( A NOT < P AND B < P ) )"
two_places_form rel.Greater = codes "( ( A > B AND ( B NOT < P OR A < P ) ) OR ( B NOT < P AND A < P ) )"

-- B is a literal of the years before 2000
abbrev pub literal_form : Rel → List ℕ
literal_form rel.Equal = codes "A = B"
literal_form rel.Less = codes "( A < B AND A NOT < P )"
literal_form rel.Greater = codes "( A > B OR A < P )"

abbrev pub digit : ℕ → ℕ
digit number = 48 + number % 10

-- a number below 100 without leading zeros
abbrev pub short_number : ℕ → List ℕ
short_number number = if leb 10 number then digit (number / 10) ∷ digit number ∷ [] else digit number ∷ []

-- the least number of so many digits that begins with the digits of the pivot
abbrev pub pivot_number : ℕ → ℕ → List ℕ
pivot_number pivot digits = short_number pivot ++ replicate (digits - 2) 48

abbrev pub number_words : Origin → ℕ → ℕ → List Word
number_words at pivot digits = made at kinds.Number (pivot_number pivot digits) ∷ []

abbrev pub text_pivot : Origin → ℕ → List Word
text_pivot at pivot = made at kinds.Literal (digit (pivot / 10) ∷ digit pivot ∷ []) ∷ []

abbrev pub digits_in : Option Field → ℕ
digits_in None = 2
digits_in (Some field) = field.digits

-- by value a number as long as the first operand, and else two digits as a literal
abbrev pub pivot_words : Origin → ℕ → Used → Used → List Word
pivot_words at pivot x y = if compares_values x y then number_words at pivot (digits_in (field_of x)) else text_pivot at pivot

abbrev pub is_place : Used → Bool
is_place (used.Place place) = true
is_place (used.Number value digits at) = false
is_place (used.Text bytes at) = false
is_place (used.Figure byte at) = false

abbrev pub turned : Rel → Rel
turned rel.Equal = rel.Equal
turned rel.Less = rel.Greater
turned rel.Greater = rel.Less

abbrev pub pair_slots : Old → Origin → Side → Side → List Word → Slots
pair_slots old at x y p = record { a = compared_words old at x y; b = compared_words old at y x; c = []; p = p }

abbrev pub ordered_form : Side → Rel → List ℕ
ordered_form y rel = if is_place y.used then two_places_form rel else literal_form rel

abbrev pub ordered : Old → Origin → ℕ → Side → Rel → Side → List Word
ordered old at pivot x rel y = filled (pair_slots old at x y (pivot_words at pivot x.used y.used)) at (ordered_form y rel)

-- a literal on the left is turned round
abbrev pub windowed : Old → Origin → ℕ → Side → Rel → Side → List Word
windowed old at pivot x rel y = if is_place x.used then ordered old at pivot x rel y else ordered old at pivot y (turned rel) x

abbrev pub by_pivot : Old → Origin → Option ℕ → Side → Rel → Side → List Word
by_pivot old at None x rel y = filled (pair_slots old at x y []) at (plain_form rel)
by_pivot old at (Some pivot) x rel y = windowed old at pivot x rel y

-- an order with a windowed year goes by its window
abbrev pub comparison : Old → Origin → Side → Rel → Side → List Word
comparison old at x rel y = by_pivot old at (order_pivot old.modes x.used rel y.used) x rel y

abbrev pub computed_slots : Old → Origin → Tree → Tree → Slots
computed_slots old at s t = record { a = tree_words old at s; b = tree_words old at t; c = []; p = [] }

abbrev pub relation_of : Old → Origin → Option (Operand × Operand) → Tree → Rel → Tree → List Word
relation_of old at None s rel t = filled (computed_slots old at s t) at (plain_form rel)
relation_of old at (Some two) s rel t = comparison old at (side_of old two.0) rel (side_of old two.1)

abbrev pub relation_words : Old → Origin → Tree → Rel → Tree → List Word
relation_words old at s rel t = relation_of old at (pair s t) s rel t
