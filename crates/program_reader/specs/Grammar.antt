-- How parts of a unit stand one after the other. Each relation says that the words from one position to before
-- another are such a part.
use Rattle.std.specs.Prelude.{◌≡◌, ℕ, ◌+◌, List, Option, Some, None, slice_get}
use Rattle.cobol_syntax.specs.declared.expr.Operand.{Operand}
use Rattle.cobol_syntax.specs.declared.expr.Operand.TheVariants as o
use Rattle.cobol_syntax.specs.declared.place.Place.{Place}
use Rattle.decimal_bytes.specs.declared.form.Scaled.{Scaled}
use Rattle.cond_reader.specs.declared.symbol.Symbol.{Symbol}
use Rattle.cond_reader.specs.declared.symbol.Symbol.TheVariants as s
use Rattle.cond_reader.specs.Text.{symbol, spelling}
use Rattle.cond_reader.specs.Chars.{whole, numeral}
use Rattle.cond_reader.specs.Exprs.{figure}
use Rattle.cond_reader.specs.Grammar.{Is, Name, IsPlace}
use Rattle.cond_reader.specs.Longest.{IsLongest}
use Rattle.program_reader.specs.declared.term.Term.{Term}
use Rattle.program_reader.specs.declared.term.Term.TheVariants as k
use Rattle.program_reader.specs.Views.{View}

-- one and then the other
pub record Then (P Q : ℕ → ℕ → Type 0) (i j : ℕ) : Type 0 where
  pub middle : ℕ
  pub first : P i middle
  pub second : Q middle j

-- one or the other
pub data Either (P Q : ℕ → ℕ → Type 0) : ℕ → ℕ → Type 0 where
  one : {i j : ℕ} → P i j → Either P Q i j
  other : {i j : ℕ} → Q i j → Either P Q i j

-- P?
pub data Maybe (P : ℕ → ℕ → Type 0) : ℕ → ℕ → Type 0 where
  absent : {i : ℕ} → Maybe P i i
  given : {i j : ℕ} → P i j → Maybe P i j

-- P*
pub data Any (P : ℕ → ℕ → Type 0) : ℕ → ℕ → Type 0 where
  stop : {i : ℕ} → Any P i i
  more : {i m j : ℕ} → P i m → Any P m j → Any P i j

module _ (v : View) where
  -- a word of the divisions
  pub record A (term : Term) (i j : ℕ) : Type 0 where
    pub term_is : slice_get v.terms i ≡ Some term
    pub next_is : j ≡ i + 1

  -- a word that conditions have too, or a mark
  abbrev pub S : Symbol → ℕ → ℕ → Type 0
  S = Is v.text

  abbrev pub Period : ℕ → ℕ → Type 0
  Period = S s.Period

  abbrev pub IsOrAre : ℕ → ℕ → Type 0
  IsOrAre = Either (S s.Is) (A k.Are)

  abbrev pub AnyName : ℕ → ℕ → Type 0
  AnyName = S s.Name

  -- a unit of one word
  abbrev pub Header : Term → ℕ → ℕ → Type 0
  Header term = Then (A term) Period

  -- a unit of two words
  abbrev pub Headers : Term → Term → ℕ → ℕ → Type 0
  Headers first second = Then (A first) (Header second)

  -- name .
  pub record NameUnit (i j : ℕ) (n : List ℕ) : Type 0 where
    pub middle : ℕ
    pub name : Name v.text i middle n
    pub period : Period middle j

  -- n: digits alone, at most 4,294,967,295
  pub record Count (i j n : ℕ) : Type 0 where
    pub word : S s.Number i j
    pub value : whole (spelling v.text i) ≡ Some n

  -- number | literal | figure
  pub data IsConstant : ℕ → ℕ → Operand → Type 0 where
    number : {i j : ℕ} {n : Scaled × ℕ} → S s.Number i j → numeral (spelling v.text i) ≡ Some n → IsConstant i j (o.Number (n.0) (n.1) i)
    literal : {i j : ℕ} → S s.Literal i j → IsConstant i j (o.Text (spelling v.text i) i)
    figurative : {i j byte : ℕ} → figure (symbol v.text i) ≡ Some byte → j ≡ i + 1 → IsConstant i j (o.Figure byte i)

  -- the longest place of at most 64 levels
  abbrev pub LongestPlace : ℕ → ℕ → Place → Type 0
  LongestPlace i j p = IsLongest (IsPlace v.text 64) i (Some (p, j))
