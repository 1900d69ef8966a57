-- Comparisons and conditions.
use Rattle.std.specs.Prelude.{ℕ, max, Bool, true, false, cond, ◌&&◌, ◌||◌, not, ◌==◌, nat_le, List, [], ◌∷◌, length, replicate, pos, is_some, Option, Some, None}
use Rattle.std.specs.declared.cmp.Ordering.{Ordering}
use Rattle.std.specs.Ordering.{int_cmp, is_eq, is_lt, is_gt, is_le, is_ge}
use Rattle.program_meaning.specs.Answer.{Answer, Gives, Fails, Data, Range, and_then}
use Rattle.program_meaning.specs.Tree.{Place, Operand, At, Number, Text, Figure, Expr, One, Condition, Relation, Numeric, Alphabetic, Sign, Holds, Not, And, Or, Rel, Equal, Less, Greater}
use Rattle.byte_lists.specs.Digit.{all_digits}
use Rattle.byte_lists.specs.Text.{text_cmp}
use Rattle.program_meaning.specs.Number.{number_in}
use Rattle.program_meaning.specs.Kind.{Kind}
use Rattle.program_meaning.specs.Kind as kind
use Rattle.program_meaning.specs.Layout.{Layout, CondName, Values, cond_of}
use Rattle.program_meaning.specs.Storage.{Storage, View, view, view_of, bytes_at, decimal_in, kind_of}
use Rattle.program_meaning.specs.Moves.{literal_text}
use Rattle.program_meaning.specs.Arithmetic.{Scaled, scaled, exact, raised, value}

-- the order of two numbers, both raised to the greater scale
abbrev pub number_cmp : Scaled → Scaled → Answer Ordering
number_cmp a b =
    let s : ℕ = max a.scale b.scale in
    and_then (raised s a) (λ x. and_then (raised s b) (λ y. Gives (int_cmp x y)))

-- what a side of a comparison is: a number, bytes, or a figure
pub data Side : Type 0 where
  IsNumber : Side
  IsBytes : Side
  IsFigure : (byte : ℕ) → Side

-- the bytes of a side, or a byte that is as long as the other
pub data Compared : Type 0 where
  Whole : (bytes : List ℕ) → Compared
  Repeated : (byte : ℕ) → Compared

abbrev pub length_of : Compared → ℕ
length_of (Whole bs) = length bs
length_of (Repeated b) = 0

-- as long as the other side
abbrev pub spread : ℕ → Compared → List ℕ
spread n (Whole bs) = bs
spread n (Repeated b) = replicate n b

abbrev pub bytes_cmp : Compared → Compared → Ordering
bytes_cmp x y = text_cmp (spread (length_of y) x) (spread (length_of x) y)

-- ZERO is a number where the other side is one
abbrev pub both_numbers : Side → Side → Bool
both_numbers IsNumber IsNumber = true
both_numbers IsNumber IsBytes = false
both_numbers IsNumber (IsFigure b) = b == 48
both_numbers (IsFigure b) IsNumber = b == 48
both_numbers (IsFigure b) IsBytes = false
both_numbers (IsFigure b) (IsFigure c) = false
both_numbers IsBytes s = false

abbrev pub side_of : Kind → Side
side_of kind.Group = IsBytes
side_of kind.Text = IsBytes
side_of (kind.Edited picture) = IsBytes
side_of (kind.Number usage form) = IsNumber

abbrev pub is_letter_or_space : ℕ → Bool
is_letter_or_space c = c == 32 || ((nat_le 65 c && nat_le c 90) || (nat_le 97 c && nat_le c 122))

-- letters and spaces alone
abbrev pub is_alphabetic : List ℕ → Bool
is_alphabetic [] = true
is_alphabetic (c ∷ cs) = is_letter_or_space c && is_alphabetic cs

-- bytes of a kind hold a number
abbrev pub holds_number : Kind → List ℕ → Bool
holds_number kind.Group bs = false
holds_number kind.Text bs = false
holds_number (kind.Edited picture) bs = false
holds_number (kind.Number usage form) bs = is_some (number_in usage form bs)

-- digits alone, or bytes that hold a number of their kind
abbrev pub is_numeric_text : Kind → List ℕ → Bool
is_numeric_text k bs = all_digits 48 bs || holds_number k bs

-- two values so ordered stand in this relation
abbrev pub is_rel : Rel → Ordering → Bool
is_rel Equal o = is_eq o
is_rel Less o = is_lt o
is_rel Greater o = is_gt o

-- the second only where the first doesn't decide it
abbrev pub and_also : Bool → Answer Bool → Answer Bool
and_also true a = a
and_also false a = Gives false

abbrev pub or_else : Bool → Answer Bool → Answer Bool
or_else true a = Gives true
or_else false a = a

module _ (layout : Layout) (store : Storage) where
  abbrev pub operand_side : Operand → Side
  operand_side (At p) = side_of (kind_of layout p)
  operand_side (Number n scale digits) = IsNumber
  operand_side (Text bs) = IsBytes
  operand_side (Figure b) = IsFigure b

  -- an expression with an operator or a sign is a number
  abbrev pub side : Expr → Side
  side (One o) = operand_side o
  side x = IsNumber

  -- a number that is compared by its bytes is an integer literal or is taken as its bytes
  abbrev pub operand_compared : Operand → Answer Compared
  operand_compared (At p) = and_then (view layout store p) (λ v. Gives (Whole (bytes_at layout store v)))
  operand_compared (Number n scale digits) = Gives (Whole (literal_text n digits))
  operand_compared (Text bs) = Gives (Whole bs)
  operand_compared (Figure b) = Gives (Repeated b)

  abbrev pub compared : Expr → Answer Compared
  compared (One o) = operand_compared o
  compared x = Fails Data

  abbrev pub compare_numbers : Expr → Expr → Answer Ordering
  compare_numbers x y = and_then (value layout store x) (λ a. and_then (value layout store y) (λ b. number_cmp a b))

  abbrev pub compare_bytes : Expr → Expr → Answer Ordering
  compare_bytes x y = and_then (compared x) (λ a. and_then (compared y) (λ b. Gives (bytes_cmp a b)))

  -- number against number by value, else by bytes
  abbrev pub compare : Expr → Expr → Answer Ordering
  compare x y = cond (both_numbers (side x) (side y)) (compare_numbers x y) (compare_bytes x y)

  -- an item against a value of its condition-name: by value, or by bytes, as in a relation
  abbrev pub constant_number : Operand → Scaled
  constant_number (Number n scale digits) = scaled n scale
  constant_number o = scaled (pos 0) 0

  abbrev pub view_number_cmp : View → Operand → Answer Ordering
  view_number_cmp v o = and_then (decimal_in v.kind (bytes_at layout store v)) (λ d. number_cmp (exact d) (constant_number o))

  abbrev pub compare_view : View → Operand → Answer Ordering
  compare_view v o =
      cond (both_numbers (side_of v.kind) (operand_side o)) (view_number_cmp v o)
      (and_then (operand_compared o) (λ b. Gives (bytes_cmp (Whole (bytes_at layout store v)) b)))

  -- equal to a value, or not below the first nor above the second end of a range
  abbrev pub is_value : View → Operand → Option Operand → Answer Bool
  is_value v low None = and_then (compare_view v low) (λ o. Gives (is_eq o))
  is_value v low (Some high) = and_then (compare_view v low) (λ o. and_also (is_ge o) (and_then (compare_view v high) (λ p. Gives (is_le p))))

  -- from the left, up to the first that holds; later ones meet no fault
  abbrev pub has_value : View → List Values → Answer Bool
  has_value v [] = Gives false
  has_value v (r ∷ rs) = and_then (is_value v r.low r.high) (λ b. or_else b (has_value v rs))

  abbrev pub condition_name : Place → Option CondName → Answer Bool
  condition_name p None = Fails Range
  condition_name p (Some c) = and_then (view_of layout store c.item p) (λ v. has_value v c.values)

  -- the second side of AND and OR is read only where the first doesn't decide
  abbrev pub test : Condition → Answer Bool
  test (Relation x rel y) = and_then (compare x y) (λ o. Gives (is_rel rel o))
  test (Numeric p) = and_then (view layout store p) (λ v. Gives (is_numeric_text v.kind (bytes_at layout store v)))
  test (Alphabetic p) = and_then (view layout store p) (λ v. Gives (is_alphabetic (bytes_at layout store v)))
  test (Sign x rel) = and_then (value layout store x) (λ a. Gives (is_rel rel (int_cmp a.number (pos 0))))
  test (Holds p) = condition_name p (cond_of layout p.names)
  test (Not c) = and_then (test c) (λ b. Gives (not b))
  test (And c d) = and_then (test c) (λ b. and_also b (test d))
  test (Or c d) = and_then (test c) (λ b. or_else b (test d))
