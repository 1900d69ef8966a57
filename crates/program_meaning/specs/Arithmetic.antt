-- Exact arithmetic: expressions, results at a receiver's decimals, size errors, and what a COMPUTE stores.
use Rattle.std.specs.Prelude.{ℕ, ◌+◌, ◌-◌, ◌/◌, ◌%◌, ◌^◌, max, Bool, true, false, cond, ◌&&◌, ◌||◌, not, ◌==◌, nat_le, List, ℤ, pos, neg_ℤ, ◌+ℤ◌, ◌*ℤ◌, unsigned_abs, int_lt, int_le, Option, Some, None}
use Rattle.program_meaning.specs.Answer.{Answer, Gives, Fails, Data, Zero, Wide, and_then}
use Rattle.program_meaning.specs.Tree.{Place, Operand, At, Number, Text, Figure, Expr, One, Minus, Add, Sub, Mul, Div}
use Rattle.byte_lists.specs.Digit.{decimal}
use Rattle.program_meaning.specs.Number.{with_sign, is_minus, value_of, Decimal, NumForm}
use Rattle.program_meaning.specs.Kind.{Kind, form_of}
use Rattle.program_meaning.specs.Layout.{Layout}
use Rattle.program_meaning.specs.Storage.{Storage, View, write, view, bytes_at, decimal_in, item_meant}
use Rattle.program_meaning.specs.Moves.{stored_digits}

-- `number` divided by 10 to the `scale`
pub record Scaled : Type 0 where
  pub number : ℤ
  pub scale : ℕ

abbrev pub scaled : ℤ → ℕ → Scaled
scaled n s = record { number = n; scale = s }

-- a number of 128 bits, else a fault
abbrev pub narrow : ℤ → Answer ℤ
narrow n = cond (int_lt n (pos (2 ^ 127)) && int_le (neg_ℤ (pos (2 ^ 127))) n) (Gives n) (Fails Wide)

-- at a scale, if it is one
abbrev pub narrow_at : ℕ → ℤ → Answer Scaled
narrow_at scale n = and_then (narrow n) (λ m. Gives (scaled m scale))

-- the number of the same value at a scale that isn't less
abbrev pub raised : ℕ → Scaled → Answer ℤ
raised scale a = narrow (a.number *ℤ pos (10 ^ (scale - a.scale)))

-- a quotient cut toward zero
abbrev pub quotient : ℤ → ℤ → ℤ
quotient a b = with_sign (cond (is_minus a) (not (is_minus b)) (is_minus b)) (unsigned_abs a / unsigned_abs b)

-- a sum has the greater scale of its operands, both raised to it
abbrev pub add : Scaled → Scaled → Answer Scaled
add a b =
    let s : ℕ = max a.scale b.scale in
    and_then (raised s a) (λ x. and_then (raised s b) (λ y. narrow_at s (x +ℤ y)))

-- the difference is looked at, and not the number that is taken away
abbrev pub subtract : Scaled → Scaled → Answer Scaled
subtract a b =
    let s : ℕ = max a.scale b.scale in
    and_then (raised s a) (λ x. and_then (raised s b) (λ y. narrow_at s (x +ℤ neg_ℤ y)))

-- a product has the sum of the scales, which is at most 38
abbrev pub multiply : Scaled → Scaled → Answer Scaled
multiply a b = cond (nat_le (a.scale + b.scale) 38) (narrow_at (a.scale + b.scale) (a.number *ℤ b.number)) (Fails Wide)

-- a quotient has scale 10. The dividend or the divisor is first multiplied by the power of ten that makes it a
-- whole division
abbrev pub divide_by : Scaled → Scaled → Answer Scaled
divide_by a b =
    cond (nat_le a.scale (10 + b.scale))
    (and_then (narrow (a.number *ℤ pos (10 ^ (10 + b.scale - a.scale)))) (λ x. narrow_at 10 (quotient x b.number)))
    (and_then (narrow (b.number *ℤ pos (10 ^ (a.scale - (10 + b.scale))))) (λ y. narrow_at 10 (quotient a.number y)))

abbrev pub divide : Scaled → Scaled → Answer Scaled
divide a b = cond (unsigned_abs b.number == 0) (Fails Zero) (divide_by a b)

-- the exact number of a sign, digits and a scale
abbrev pub exact : Decimal → Scaled
exact d = scaled (value_of d) d.scale

module _ (layout : Layout) (store : Storage) where
  -- a number as an operand; ZERO is 0, and no text is one
  abbrev pub operand_value : Operand → Answer Scaled
  operand_value (At p) = and_then (view layout store p) (λ v. and_then (decimal_in v.kind (bytes_at layout store v)) (λ d. Gives (exact d)))
  operand_value (Number n scale digits) = Gives (scaled n scale)
  operand_value (Figure b) = Gives (scaled (pos 0) 0)
  operand_value (Text bs) = Fails Data

  abbrev pub both : Answer Scaled → Answer Scaled → (Scaled → Scaled → Answer Scaled) → Answer Scaled
  both left right f = and_then left (λ a. and_then right (λ b. f a b))

  -- operands are read from the left
  abbrev pub value : Expr → Answer Scaled
  value (One o) = operand_value o
  value (Minus x) = and_then (value x) (λ a. narrow_at a.scale (neg_ℤ a.number))
  value (Add x y) = both (value x) (value y) add
  value (Sub x y) = both (value x) (value y) subtract
  value (Mul x y) = both (value x) (value y) multiply
  value (Div x y) = both (value x) (value y) divide

-- rounded half away from zero
abbrev pub rounded_to : ℕ → ℤ → ℤ
rounded_to power n = with_sign (is_minus n) ((unsigned_abs n + power / 2) / power)

-- without its fraction
abbrev pub cut_to : ℕ → ℤ → ℤ
cut_to power n = with_sign (is_minus n) (unsigned_abs n / power)

-- a result at a receiver's scale: cut, or rounded half away from zero
abbrev pub at_scale : Bool → ℕ → Scaled → Answer ℤ
at_scale rounded scale a =
    cond (nat_le a.scale scale) (raised scale a)
    (Gives (cond rounded (rounded_to (10 ^ (a.scale - scale)) a.number) (cut_to (10 ^ (a.scale - scale)) a.number)))

-- more integer digits than a receiver has
abbrev pub too_big : NumForm → ℤ → Bool
too_big form n = nat_le (10 ^ form.digits) (unsigned_abs n)

-- what a receiver stores of a number at its scale: its low digits, and a sign if it has one
abbrev pub stored_value : NumForm → ℤ → ℤ
stored_value form n = with_sign (form.signed && is_minus n) (unsigned_abs n % 10 ^ form.digits)

-- the bytes of a number at a receiver's scale: its low digits, and the sign that the receiver keeps
abbrev pub result_bytes : Kind → ℤ → List ℕ
result_bytes k n = stored_digits k (is_minus n) (decimal (form_of k).digits (unsigned_abs n))

-- what was computed: whether it is a size error, and the numbers of the receivers, each at its receiver's scale
pub record Outcome : Type 0 where
  pub is_error : Bool
  pub result : ℤ
  pub rest : ℤ

abbrev pub outcome : Bool → ℤ → ℤ → Outcome
outcome e r q = record { is_error = e; result = r; rest = q }

module _ (layout : Layout) (store : Storage) where
  abbrev pub receiver_form : Place → Answer NumForm
  receiver_form p = and_then (item_meant layout p.names) (λ i. Gives (form_of i.kind))

  abbrev pub simple_outcome : Bool → NumForm → Expr → Answer Outcome
  simple_outcome rounded form x =
      and_then (value layout store x) (λ a. and_then (at_scale rounded form.scale a) (λ n. Gives (outcome (too_big form n) n (pos 0))))

  -- the dividend minus the divisor times the quotient that the receiver would store without ROUNDED
  abbrev pub remainder : NumForm → Scaled → Scaled → Scaled → Answer Scaled
  remainder form a b q =
      and_then (at_scale false form.scale q) (λ n. and_then (multiply b (scaled (stored_value form n) form.scale)) (λ m. subtract a m))

  -- with a phrase nothing more is computed after a quotient that is too large
  abbrev pub rest_outcome : NumForm → NumForm → Bool → ℤ → Scaled → Scaled → Scaled → Answer Outcome
  rest_outcome form rest_form phrase n a b q =
      cond (too_big form n && phrase) (Gives (outcome true n (pos 0)))
      (and_then (remainder form a b q) (λ r. and_then (at_scale false rest_form.scale r) (λ m. Gives (outcome (too_big form n || too_big rest_form m) n m))))

  abbrev pub division_outcome : Bool → NumForm → NumForm → Bool → Expr → Expr → Answer Outcome
  division_outcome rounded form rest_form phrase x y =
      and_then (value layout store x) (λ a. and_then (value layout store y) (λ b. and_then (divide a b) (λ q.
      and_then (at_scale rounded form.scale q) (λ n. rest_outcome form rest_form phrase n a b q))))

  -- with a REMAINDER the expression is a division
  abbrev pub computed : Bool → NumForm → Bool → Expr → Option Place → Answer Outcome
  computed rounded form phrase x None = simple_outcome rounded form x
  computed rounded form phrase (Div x y) (Some p) = and_then (receiver_form p) (λ rest_form. division_outcome rounded form rest_form phrase x y)
  computed rounded form phrase x (Some p) = simple_outcome rounded form x

  -- with a size phrase a divisor of 0 is a size error, and the rest of the expression isn't read
  abbrev pub by_phrase : Bool → Answer Outcome → Answer Outcome
  by_phrase true (Fails Zero) = Gives (outcome true (pos 0) (pos 0))
  by_phrase phrase a = a

  abbrev pub written_rest : Option Place → ℤ → Storage → Answer Storage
  written_rest None n s = Gives s
  written_rest (Some p) n s = and_then (view layout store p) (λ v. Gives (write s v.span (result_bytes v.kind n)))

  -- where the receivers are is read last, also with a size error, and from the storage before the statement.
  -- With a size error and a phrase all receivers stay
  abbrev pub written : Bool → Place → Option Place → Outcome → Answer (Bool × Storage)
  written phrase to rest o =
      and_then (view layout store to) (λ v. and_then (written_rest rest o.rest (write store v.span (result_bytes v.kind o.result)))
      (λ s. Gives (o.is_error, cond (o.is_error && phrase) store s)))

  -- whether a size error came, and the storage after it. `phrase` says that there is a size phrase, of either kind
  abbrev pub compute : Place → Bool → Expr → Option Place → Bool → Answer (Bool × Storage)
  compute to rounded x rest phrase =
      and_then (receiver_form to) (λ form. and_then (by_phrase phrase (computed rounded form phrase x rest)) (λ o. written phrase to rest o))
