-- The statements inside which no statement stands are read as the grammar says.
use Rattle.std.proofs.Common.{◌≡◌, ℕ, ◌+◌, Bool, true, false, ◌<◌, ◌≤◌, ◌⊎◌, inl, inr, List, [], ◌∷◌, length, Option, Some, None, refl, ap, sym, subst, ◌∙◌, arith, if◌then◌else◌}
use Rattle.std.specs.Prelude.{map}
use Rattle.cobol_syntax.specs.declared.place.Place.{Place}
use Rattle.cobol_syntax.specs.declared.expr.Operand.{Operand}
use Rattle.cobol_syntax.specs.declared.statement.Control.{Control}
use Rattle.cobol_syntax.specs.declared.statement.Control.TheVariants as times_of
use Rattle.cobol_syntax.specs.declared.statement.Form.{Form}
use Rattle.cobol_syntax.specs.declared.statement.Form.TheVariants as form
use Rattle.cobol_syntax.specs.declared.statement.Mode.{Mode}
use Rattle.cobol_syntax.specs.declared.statement.Mode.TheVariants as mode_of
use Rattle.cobol_syntax.specs.declared.statement.NamePair.{NamePair}
use Rattle.cobol_syntax.specs.declared.statement.Register.{Register}
use Rattle.cobol_syntax.specs.declared.statement.Register.TheVariants as register_of
use Rattle.cobol_syntax.specs.declared.statement.Vary.{Vary}
use Rattle.cond_reader.specs.declared.symbol.Symbol.TheVariants as s
use Rattle.cond_reader.specs.Reads.{Reader, with_last}
use Rattle.cond_reader.specs.Places.{name, place}
use Rattle.cond_reader.specs.Exprs.{operand_at}
use Rattle.cond_reader.specs.Grammar.{Name}
use Rattle.proc_reader.specs.declared.files.Opened.{Opened}
use Rattle.proc_reader.specs.declared.keyword.Keyword.{Keyword}
use Rattle.proc_reader.specs.declared.keyword.Keyword.TheVariants as k
use Rattle.proc_reader.specs.Source.{Source, keyword, has, skip, after, skip_symbol, after_symbol}
use Rattle.proc_reader.specs.Reading.{and_then, word_then}
use Rattle.proc_reader.specs.Moves.{moved, more_places, shown, more_operands, register, accepted}
use Rattle.proc_reader.specs.Simple.{gone}
use Rattle.proc_reader.specs.Grammar.{Many, Word, MaybeWord, PlaceAt, OperandAt, Move, Show, RegisterAt, Accept, GoTo}
use Rattle.proc_reader.specs.Grammar.RegisterAt.{date, day, time}
use Rattle.proc_reader.proofs.Steps.{part_of, word_of, if_cases, some_same, both_same}
use Rattle.proc_reader.proofs.WordLaws.{word-here, after-sound, after-mark-sound, skip-sound, skip-mark-sound, has-false}
use Rattle.proc_reader.proofs.Exact.{exact-name, exact-place, exact-operand, many}

module _ (t : Source) where
  abbrev size : ℕ
  size = length t.text.kinds

  places-many : (level : ℕ) (first : List Place) (i : ℕ)
      → Many (λ _. PlaceAt t level) with_last first i (more_places t level first i).1 (more_places t level first i).0
  unfolding more_places
  places-many level first i = many size (λ _. place t.text level) (λ _. PlaceAt t level) with_last (λ _. exact-place t.text level) size first i (omega arith)

  operands-many : (level : ℕ) (first : List Operand) (i : ℕ)
      → Many (λ _. OperandAt t level) with_last first i (more_operands t level first i).1 (more_operands t level first i).0
  unfolding more_operands
  operands-many level first i = many size (λ _. operand_at t.text level) (λ _. OperandAt t level) with_last (λ _. exact-operand t.text level) size first i (omega arith)

  pub moved-sound : (level i m j : ℕ) (fs : List Form) → Word t k.Move i m → moved t level m ≡ Some (fs, j) → Move t level i j fs
  unfolding moved
  moved-sound level i m j fs verb h =
      let a = part_of _ _ _ h in
      let b = word_of _ _ _ a.rest in
      let c = part_of _ _ _ b.rest in
      let places = more_places t level (c.value ∷ []) c.end in
      let same = both_same (map (form.Move a.value) places.0) fs places.1 j c.rest in
      record {
        from_at = m;
        to_at = a.end;
        first_at = b.end;
        more_at = c.end;
        from = a.value;
        first = c.value;
        places = places.0;
        verb = verb;
        from_read = (exact-operand t.text level).sound m a.end a.value a.read;
        to_word = after-mark-sound t s.To a.end b.end b.read;
        first_read = (exact-place t.text level).sound b.end c.end c.value c.read;
        more_read = subst (λ (n : ℕ). Many (λ _. PlaceAt t level) with_last (c.value ∷ []) c.end n places.0) same.1 (places-many level (c.value ∷ []) c.end);
        is = sym same.0;
      }

  pub shown-sound : (level i m j : ℕ) (f : Form) → Word t k.Display i m → shown t level m ≡ Some (f, j) → Show t level i j f
  unfolding shown
  shown-sound level i m j f verb h =
      let a = part_of _ _ _ h in
      let operands = more_operands t level (a.value ∷ []) a.end in
      let same = both_same (form.Show operands.0) f operands.1 j a.rest in
      record {
        first_at = m;
        more_at = a.end;
        first = a.value;
        operands = operands.0;
        verb = verb;
        first_read = (exact-operand t.text level).sound m a.end a.value a.read;
        more_read = subst (λ (n : ℕ). Many (λ _. OperandAt t level) with_last (a.value ∷ []) a.end n operands.0) same.1 (operands-many level (a.value ∷ []) a.end);
        is = sym same.0;
      }

  -- a value read from one word
  by_word : {A : Type 0} (P : ℕ → ℕ → A → Type 0) (i j : ℕ) (x y : A) → P i (i + 1) x → ◌≡◌ {A = Option (A × ℕ)} (Some (x, i + 1)) (Some (y, j)) → P i j y
  by_word {A = A} P i j x y w h =
      let same = both_same x y (i + 1) j h in
      subst (λ (z : A). P i j z) same.0 (subst (λ (n : ℕ). P i n x) same.1 w)

  register-sound : (i j : ℕ) (r : Register) → register t i ≡ Some (r, j) → RegisterAt t i j r
  unfolding register
  register-sound i j r h =
      elim (if_cases (has t k.Date i) _ _ _ h) [
        | inl a ↦ by_word (RegisterAt t) i j register_of.Date r (date (word-here t k.Date i a.0)) a.1
        | inr a ↦ elim (if_cases (has t k.Day i) _ _ _ a.1) [
          | inl b ↦ by_word (RegisterAt t) i j register_of.Day r (day (word-here t k.Day i b.0)) b.1
          | inr b ↦ elim (if_cases (has t k.Time i) _ _ _ b.1) [
            | inl c ↦ by_word (RegisterAt t) i j register_of.Time r (time (word-here t k.Time i c.0)) c.1
            | inr c ↦ let none = c.1 in cc
          ]
        ]
      ]

  pub accepted-sound : (level i m j : ℕ) (f : Form) → Word t k.Accept i m → accepted t level m ≡ Some (f, j) → Accept t level i j f
  unfolding accepted
  accepted-sound level i m j f verb h =
      let a = part_of _ _ _ h in
      let b = word_of _ _ _ a.rest in
      let c = part_of _ _ _ b.rest in
      let same = both_same (form.Accept a.value c.value) f c.end j c.rest in
      record {
        to_at = m;
        from_at = a.end;
        register_at = b.end;
        to = a.value;
        from = c.value;
        verb = verb;
        to_read = (exact-place t.text level).sound m a.end a.value a.read;
        from_word = after-sound t k.From a.end b.end b.read;
        from_read = subst (λ (n : ℕ). RegisterAt t b.end n c.value) same.1 (register-sound b.end c.end c.value c.read);
        is = sym same.0;
      }

  pub gone-sound : (i m j : ℕ) (f : Form) → Word t k.Go i m → gone t m ≡ Some (f, j) → GoTo t i j f
  unfolding gone
  gone-sound i m j f verb h =
      let a = part_of _ _ _ h in
      let same = both_same (form.GoTo a.value) f a.end j a.rest in
      record {
        to_at = m;
        name_at = skip_symbol t s.To m;
        name = a.value;
        verb = verb;
        to_word = skip-mark-sound t s.To m;
        name_read = subst (λ (n : ℕ). Name t.text (skip_symbol t s.To m) n a.value) same.1 ((exact-name t.text).sound (skip_symbol t s.To m) a.end a.value a.read);
        is = sym same.0;
      }
