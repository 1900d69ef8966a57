-- The WHEN of an EVALUATE are read as the grammar says.
use Rattle.std.proofs.Common.{◌≡◌, ℕ, ◌+◌, Bool, true, false, ◌<◌, ◌≤◌, ◌⊎◌, inl, inr, List, [], ◌∷◌, length, Option, Some, None, refl, ap, sym, subst, ◌∙◌, arith, if◌then◌else◌}
use Rattle.cobol_syntax.specs.declared.expr.Operand.{Operand}
use Rattle.cobol_syntax.specs.declared.expr.Expr.{Expr}
use Rattle.cobol_syntax.specs.declared.expr.Expr.TheVariants as e
use Rattle.cobol_syntax.specs.declared.cond.Condition.{Condition}
use Rattle.cond_reader.specs.Exprs.{operand_at}
use Rattle.cond_reader.specs.Conds.{condition_at}
use Rattle.proc_reader.specs.declared.keyword.Keyword.TheVariants as k
use Rattle.proc_reader.specs.Source.{Source, keyword, has}
use Rattle.proc_reader.specs.Classes.{begins}
use Rattle.proc_reader.specs.Reading.{and_then}
use Rattle.proc_reader.specs.Trees.{equality, either}
use Rattle.proc_reader.specs.Evaluates.{subject, choice, when, more_whens, begins_body, heads}
use Rattle.proc_reader.specs.Grammar.{Many, Word, OperandAt, ConditionAt}
use Rattle.proc_reader.specs.SentenceGrammar.{SubjectAt, WhenAt, WhensAt}
use Rattle.proc_reader.specs.SentenceGrammar.SubjectAt.{truth, subject as some_subject}
use Rattle.proc_reader.specs.SentenceGrammar.WhenAt.{condition, operand}
use Rattle.proc_reader.proofs.Steps.{part_of, if_cases, some_same, both_same, moved_to}
use Rattle.proc_reader.proofs.WordLaws.{word-here, has-is, has-true, lacks}
use Rattle.proc_reader.proofs.Exact.{Exact, exact-operand, exact-condition, many, many-best, many-grows}

module _ (t : Source) where
  abbrev size : ℕ
  size = length t.text.kinds

  pub subject-sound : (level i j : ℕ) (x : Option Expr) → subject t level i ≡ Some (x, j) → SubjectAt t level i j x
  unfolding subject
  subject-sound level i j x h =
      elim (if_cases (has t k.True i) _ _ _ h) [
        | inl a ↦ moved_to (SubjectAt t level) i (i + 1) j None x (truth (word-here t k.True i a.0)) a.1
        | inr a ↦ let b = part_of _ _ _ a.1 in
            moved_to (SubjectAt t level) i b.end j (Some (e.One b.value)) x (some_subject ((exact-operand t.text level).sound i b.end b.value b.read)) b.rest
      ]

  choice-sound : (level : ℕ) (x : Option Expr) (i j : ℕ) (c : Condition) → Word t k.When i (i + 1) → choice t level x (i + 1) ≡ Some (c, j) → WhenAt t level x i j c
  unfolding choice
  choice-sound level None i j c w h = condition w ((exact-condition t.text level).sound (i + 1) j c h)
  choice-sound level (Some x) i j c w h =
      let a = part_of _ _ _ h in
      moved_to (WhenAt t level (Some x)) i a.end j (equality x a.value (i + 1) a.end) c (operand w ((exact-operand t.text level).sound (i + 1) a.end a.value a.read)) a.rest

  when-sound : (level : ℕ) (x : Option Expr) (i j : ℕ) (c : Condition) → when t level x i ≡ Some (c, j) → WhenAt t level x i j c
  unfolding when
  when-sound level x i j c h =
      elim (if_cases (has t k.When i) _ _ _ h) [
        | inl a ↦ choice-sound level x i j c (word-here t k.When i a.0) a.1
        | inr a ↦ let none = a.1 in cc
      ]

  when-is : (level : ℕ) (x : Option Expr) (i m : ℕ) → Word t k.When i m → when t level x i ≡ choice t level x m
  unfolding when
  when-is level x i m w =
      ap (λ (b : Bool). if b then choice t level x (i + 1) else None) (has-is t k.When i w.is_word) ∙ ap (λ n. choice t level x n) (sym w.next_is)

  when-best : (level : ℕ) (x : Option Expr) (i j : ℕ) (c : Condition) → WhenAt t level x i j c → when t level x i ≡ Some (c, j)
  unfolding choice
  when-best level _ i j c (condition {m = m} w test) = when-is level None i m w ∙ (exact-condition t.text level).best m j c test
  when-best level _ i j _ (operand {m = m} {x = x} {y = y} w read) =
      when-is level (Some x) i m w ∙ ap (λ o. and_then o (λ (z : Operand) (next : ℕ). Some (equality x z m next, next))) ((exact-operand t.text level).best m j y read)

  when-moves : (level : ℕ) (x : Option Expr) (i j : ℕ) (c : Condition) → WhenAt t level x i j c → (i < j) × (i < size)
  when-moves level _ i j c (condition {m = m} w test) =
      let forth = (exact-condition t.text level).moves m j c test in
      let next = w.next_is in
      (omega (arith, forth.0, next), omega (arith, forth.1, next))
  when-moves level _ i j _ (operand {m = m} {y = y} w read) =
      let forth = (exact-operand t.text level).moves m j y read in
      let next = w.next_is in
      (omega (arith, forth.0, next), omega (arith, forth.1, next))

  exact-when : (level : ℕ) (x : Option Expr) → Exact size (when t level x) (WhenAt t level x)
  exact-when level x = record { sound = when-sound level x; best = when-best level x; moves = when-moves level x }

  whens-many : (level : ℕ) (x : Option Expr) (first : Condition) (i : ℕ)
      → Many (λ _. WhenAt t level x) either first i (more_whens t level x first i).1 (more_whens t level x first i).0
  unfolding more_whens
  whens-many level x first i = many size (λ _. when t level x) (λ _. WhenAt t level x) either (λ _. exact-when level x) size first i (omega arith)

  whens-best : (level : ℕ) (x : Option Expr) (first c : Condition) (i j : ℕ) → Many (λ _. WhenAt t level x) either first i j c → more_whens t level x first i ≡ (c, j)
  unfolding more_whens
  whens-best level x first c i j w = many-best size (λ _. when t level x) (λ _. WhenAt t level x) either (λ _. exact-when level x) w size (omega arith)

  body-true : (i : ℕ) → begins_body t i ≡ true → (keyword t i ≡ k.Next) ⊎ (begins t i ≡ true)
  unfolding begins_body
  body-true i h =
      elim (if_cases (has t k.Next i) _ _ _ h) [
        | inl a ↦ inl (has-true t k.Next i a.0)
        | inr a ↦ inr (a.1)
      ]

  true-if : (b : Bool) → (if b then true else true) ≡ true
  true-if true = refl
  true-if false = refl

  body-is : (i : ℕ) → (keyword t i ≡ k.Next) ⊎ (begins t i ≡ true) → begins_body t i ≡ true
  unfolding begins_body
  body-is i (inl next) = ap (λ (b : Bool). if b then true else begins t i) (has-is t k.Next i next)
  body-is i (inr begun) = ap (λ (b : Bool). if has t k.Next i then true else b) begun ∙ true-if (has t k.Next i)

  pub heads-sound : (level : ℕ) (x : Option Expr) (i j : ℕ) (c : Condition) → heads t level x i ≡ Some (c, j) → WhensAt t level x i j c
  unfolding heads
  heads-sound level x i j c h =
      let rest : Condition → ℕ → Option (Condition × ℕ) = λ first next. let tests = more_whens t level x first next in if begins_body t tests.1 then Some tests else None in
      let a = part_of (when t level x i) rest (c, j) h in
      let tests = more_whens t level x a.value a.end in
      elim (if_cases (begins_body t tests.1) (Some tests) None (Some (c, j)) a.rest) [
        | inl b ↦
            let w : WhensAt t level x i tests.1 tests.0 = record {
              more_at = a.end;
              first = a.value;
              first_read = when-sound level x i a.end a.value a.read;
              more_read = whens-many level x a.value a.end;
              body_next = body-true tests.1 b.0;
            } in
            moved_to (WhensAt t level x) i tests.1 j tests.0 c w b.1
        | inr b ↦ let none = b.1 in cc
      ]

  heads-best : (level : ℕ) (x : Option Expr) (i j : ℕ) (c : Condition) → WhensAt t level x i j c → heads t level x i ≡ Some (c, j)
  unfolding heads
  heads-best level x i j c w =
      ap (λ o. and_then o (λ (first : Condition) (next : ℕ). let tests = more_whens t level x first next in if begins_body t tests.1 then Some tests else None)) (when-best level x i w.more_at w.first w.first_read)
      ∙ ap (λ (tests : Condition × ℕ). if begins_body t tests.1 then Some tests else None) (whens-best level x w.first c w.more_at j w.more_read)
      ∙ ap (λ (b : Bool). if b then Some (c, j) else None) (body-is j w.body_next)

  -- where the heads are not read there are none
  pub no-heads : (level : ℕ) (x : Option Expr) (i : ℕ) → heads t level x i ≡ None → (j : ℕ) (c : Condition) → WhensAt t level x i j c → ⊥
  no-heads level x i none j c w = let read = heads-best level x i j c w in cc
