-- The words of a program, and the smallest parts of its units.
use Rattle.std.specs.Prelude.{ℕ, ◌+◌, Bool, true, false, if◌then◌else◌, List, Option, Some, None, slice_get}
use Rattle.y2k_base.specs.declared.word.FileId.{FileId}
use Rattle.cond_reader.specs.declared.symbol.Symbol.TheVariants as s
use Rattle.cond_reader.specs.Text.{Text, sees, spelling}
use Rattle.cond_reader.specs.Reads.{Reader, and_then}
use Rattle.cond_reader.specs.Places.{name}
use Rattle.cond_reader.specs.Chars.{whole}
use Rattle.program_reader.specs.declared.reading.Reading.{Reading}
use Rattle.program_reader.specs.declared.term.Term.{Term}
use Rattle.program_reader.specs.declared.term.Term.TheVariants as k
use Rattle.program_reader.specs.Terms.{same_term}

pub record View : Type 0 where
  -- the words, with what they are to conditions
  pub text : Text
  -- what they are to the divisions
  pub terms : List Term
  -- what their pictures read as
  pub readings : List Reading
  pub file : FileId

abbrev pub is_at : Term → Option Term → Bool
is_at term (Some other) = same_term other term
is_at term None = false

abbrev pub counted : ℕ → Option ℕ → Option (ℕ × ℕ)
counted i None = None
counted i (Some value) = Some (value, i + 1)

-- what is read where something else stands after it
abbrev pub closed_by : {A : Type 0} → A → Option ℕ → Option (A × ℕ)
closed_by a None = None
closed_by a (Some j) = Some (a, j)

module _ (v : View) where
  unfoldable pub has : Term → ℕ → Bool
  has term i = is_at term (slice_get v.terms i)

  -- after a word that may be left out
  unfoldable pub past : Term → ℕ → ℕ
  past k i = if has k i then i + 1 else i

  unfoldable pub past_is : ℕ → ℕ
  past_is i = if sees v.text s.Is i then i + 1 else i

  unfoldable pub past_is_or_are : ℕ → ℕ
  past_is_or_are i = if sees v.text s.Is i then i + 1 else past k.Are i

  -- a period
  unfoldable pub ended : ℕ → Option ℕ
  ended i = if sees v.text s.Period i then Some (i + 1) else None

  -- a unit of one word, or of two
  unfoldable pub header : Term → ℕ → Option ℕ
  header k i = if has k i then ended (i + 1) else None

  unfoldable pub headers : Term → Term → ℕ → Option ℕ
  headers k l i = if has k i then header l (i + 1) else None

  -- a unit of one name
  unfoldable pub named : Reader (List ℕ)
  named i = and_then (name v.text i) (λ n j. closed_by n (ended j))

  -- a number of digits alone
  unfoldable pub count : Reader ℕ
  count i = if sees v.text s.Number i then counted i (whole (spelling v.text i)) else None
