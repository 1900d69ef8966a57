-- The grammar of arithmetic statements up to their size phrases, one case for each production.
use Rattle.std.specs.Prelude.{◌≡◌, ℕ, Bool, true, false, List, [], Option, Some, None}
use Rattle.cobol_syntax.specs.declared.place.Place.{Place}
use Rattle.cobol_syntax.specs.declared.expr.Operand.{Operand}
use Rattle.cobol_syntax.specs.declared.expr.Expr.{Expr}
use Rattle.cobol_syntax.specs.declared.expr.Expr.TheVariants as e
use Rattle.cond_reader.specs.declared.symbol.Symbol.TheVariants as s
use Rattle.cond_reader.specs.Grammar.{Is}
use Rattle.proc_reader.specs.declared.arithmetic.Receiver.{Receiver}
use Rattle.proc_reader.specs.declared.arithmetic.Receivers.{Receivers}
use Rattle.proc_reader.specs.declared.arithmetic.Computing.{Computing}
use Rattle.proc_reader.specs.declared.keyword.Keyword.TheVariants as k
use Rattle.proc_reader.specs.declared.tree.Joining.{Joining}
use Rattle.proc_reader.specs.declared.tree.Joining.TheVariants as by
use Rattle.proc_reader.specs.Source.{Source, keyword}
use Rattle.proc_reader.specs.Trees.{joined}
use Rattle.proc_reader.specs.Arithmetic.{one_more, computing_of}
use Rattle.proc_reader.specs.Grammar.{Many, Word, MaybeWord, PlaceAt, OperandAt, ExprAt}

module _ (t : Source) where
  -- ROUNDED?
  pub data RoundedAt : ℕ → ℕ → Bool → Type 0 where
    rounded : {i j : ℕ} → Word t k.Rounded i j → RoundedAt i j true
    cut : {i : ℕ} → (keyword t i ≡ k.Rounded → ⊥) → RoundedAt i i false

  -- place ROUNDED?
  pub record ReceiverAt (level i j : ℕ) (r : Receiver) : Type 0 where
    pub rounded_at : ℕ
    pub place_read : PlaceAt t level i rounded_at r.place
    pub rounded_read : RoundedAt rounded_at j r.rounded

  -- (place ROUNDED?)+
  pub record ReceiversAt (level i j : ℕ) (all : Receivers) : Type 0 where
    pub more_at : ℕ
    pub first : Receiver
    pub first_read : ReceiverAt level i more_at first
    pub more_read : Many (λ _. ReceiverAt level) one_more (record { before = []; last = first }) more_at j all

  -- operand+, as their sum from the left
  pub record SumAt (level i j : ℕ) (sum : Expr) : Type 0 where
    pub more_at : ℕ
    pub first : Operand
    pub first_read : OperandAt t level i more_at first
    pub more_read : Many (λ _. OperandAt t level) (joined by.Add) (e.One first) more_at j sum

  -- GIVING rec+
  pub record GivingAt (level : ℕ) (value : Expr) (i j : ℕ) (c : Computing) : Type 0 where
    pub receivers_at : ℕ
    pub all : Receivers
    pub giving_word : Word t k.Giving i receivers_at
    pub all_read : ReceiversAt level receivers_at j all
    pub is : c ≡ computing_of by.Alone value all

  -- an operand before GIVING
  pub record SecondAt (level i j : ℕ) (x : Operand) : Type 0 where
    pub operand_read : OperandAt t level i j x
    pub giving_next : keyword t j ≡ k.Giving

  -- rec+, where no operand before GIVING stands, or operand GIVING rec+
  pub data TargetAt (level : ℕ) (joining : Joining) (value : Expr) : ℕ → ℕ → Computing → Type 0 where
    entering : {i j : ℕ} {all : Receivers} → ((m : ℕ) (x : Operand) → SecondAt level i m x → ⊥) → ReceiversAt level i j all
        → TargetAt level joining value i j (computing_of joining value all)
    given : {i m j : ℕ} {x : Operand} {c : Computing} → SecondAt level i m x → GivingAt level (joined joining value x) m j c → TargetAt level joining value i j c

  -- (REMAINDER place)?, of one receiver
  pub data RemainderAt (level : ℕ) (c : Computing) : ℕ → ℕ → Computing → Type 0 where
    no_remainder : {i : ℕ} → (keyword t i ≡ k.Remainder → c.receivers.before ≡ [] → ⊥) → RemainderAt level c i i c
    remainder : {i m j : ℕ} {p : Place} → Word t k.Remainder i m → c.receivers.before ≡ [] → PlaceAt t level m j p
        → RemainderAt level c i j (record c { rest = Some p })

  -- after DIVIDE operand INTO: rec+, where no operand before GIVING stands, or operand GIVING rec+ (REMAINDER place)?
  pub data QuotientAt (level : ℕ) (value : Expr) : ℕ → ℕ → Computing → Type 0 where
    entering : {i j : ℕ} {all : Receivers} → ((m : ℕ) (x : Operand) → SecondAt level i m x → ⊥) → ReceiversAt level i j all
        → QuotientAt level value i j (computing_of by.Divide value all)
    given : {i m n j : ℕ} {x : Operand} {c d : Computing} → SecondAt level i m x → GivingAt level (joined by.Divide value x) m n c → RemainderAt level c n j d
        → QuotientAt level value i j d

  -- an arithmetic statement up to its size phrase
  pub data ComputingAt (level : ℕ) : ℕ → ℕ → Computing → Type 0 where
    -- ADD operand+ GIVING rec+
    add_giving : {i a b j : ℕ} {sum : Expr} {c : Computing} → Word t k.Add i a → SumAt level a b sum → GivingAt level sum b j c → ComputingAt level i j c
    -- ADD operand+ TO rec+ | ADD operand+ TO operand GIVING rec+
    add_to : {i a b d j : ℕ} {sum : Expr} {c : Computing}
        → Word t k.Add i a → SumAt level a b sum → Is t.text s.To b d → TargetAt level by.Add sum d j c → ComputingAt level i j c
    -- SUBTRACT operand+ FROM rec+ | SUBTRACT operand+ FROM operand GIVING rec+
    subtract : {i a b d j : ℕ} {sum : Expr} {c : Computing}
        → Word t k.Subtract i a → SumAt level a b sum → Word t k.From b d → TargetAt level by.Subtract sum d j c → ComputingAt level i j c
    -- MULTIPLY operand BY rec+ | MULTIPLY operand BY operand GIVING rec+
    multiply : {i a b d j : ℕ} {x : Operand} {c : Computing}
        → Word t k.Multiply i a → OperandAt t level a b x → Word t k.By b d → TargetAt level by.Multiply (e.One x) d j c → ComputingAt level i j c
    -- DIVIDE operand INTO rec+ | DIVIDE operand INTO operand GIVING (rec REMAINDER place | rec+)
    divide_into : {i a b d j : ℕ} {x : Operand} {c : Computing}
        → Word t k.Divide i a → OperandAt t level a b x → Word t k.Into b d → QuotientAt level (e.One x) d j c → ComputingAt level i j c
    -- DIVIDE operand BY operand GIVING (rec REMAINDER place | rec+)
    divide_by : {i a b d m n j : ℕ} {x y : Operand} {c q : Computing}
        → Word t k.Divide i a → OperandAt t level a b x → Word t k.By b d → OperandAt t level d m y → GivingAt level (joined by.DivideBy (e.One x) y) m n q
        → RemainderAt level q n j c → ComputingAt level i j c
    -- COMPUTE rec+ = expr
    compute : {i a b d j : ℕ} {all : Receivers} {x : Expr}
        → Word t k.Compute i a → ReceiversAt level a b all → Is t.text s.EqualSign b d → ExprAt t level d j x → ComputingAt level i j (computing_of by.Alone x all)
