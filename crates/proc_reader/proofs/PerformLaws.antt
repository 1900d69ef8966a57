-- PERFORM is read as the grammar says, up to the statements of an inline one.
use Rattle.std.proofs.Common.{◌≡◌, ℕ, ◌+◌, Bool, true, false, ◌<◌, ◌≤◌, ◌⊎◌, inl, inr, List, [], ◌∷◌, length, Option, Some, None, refl, ap, sym, subst, ◌∙◌, arith, if◌then◌else◌}
use Rattle.cobol_syntax.specs.declared.expr.Operand.{Operand}
use Rattle.cobol_syntax.specs.declared.statement.Control.{Control}
use Rattle.cobol_syntax.specs.declared.statement.Control.TheVariants as c
use Rattle.cobol_syntax.specs.declared.statement.Form.{Form}
use Rattle.cobol_syntax.specs.declared.statement.Form.TheVariants as form
use Rattle.cobol_syntax.specs.declared.statement.NamePair.{NamePair}
use Rattle.cobol_syntax.specs.declared.statement.Vary.{Vary}
use Rattle.cond_reader.specs.Exprs.{operand_at}
use Rattle.cond_reader.specs.Grammar.{Name}
use Rattle.proc_reader.specs.declared.keyword.Keyword.TheVariants as k
use Rattle.proc_reader.specs.Source.{Source, keyword, has, skip, after}
use Rattle.proc_reader.specs.Reading.{and_then}
use Rattle.proc_reader.specs.Performs.{range, times, begins_until, test_side, test_after, varying, until, times_or_once, control, performed}
use Rattle.proc_reader.specs.Grammar.{Word, MaybeWord, PlaceAt, OperandAt, ConditionAt, RangeAt, SideAt, TestAt, VaryAt, TimesAt, ControlAt, Perform}
use Rattle.proc_reader.specs.Grammar.MaybeWord.{given, absent}
use Rattle.proc_reader.specs.Grammar.RangeAt.{single, thru}
use Rattle.proc_reader.specs.Grammar.SideAt.{test_before, test_after as side_after}
use Rattle.proc_reader.specs.Grammar.TestAt.{no_test, test}
use Rattle.proc_reader.specs.Grammar.VaryAt.{no_vary, vary}
use Rattle.proc_reader.specs.Grammar.ControlAt.{once, counted, until as control_until}
use Rattle.proc_reader.proofs.Steps.{part_of, word_of, if_cases, some_same, both_same, moved_to}
use Rattle.proc_reader.proofs.WordLaws.{word-here, has-is, has-true, after-sound, has-false}
use Rattle.proc_reader.proofs.Exact.{Exact, nothing, exact-name, exact-place, exact-operand, exact-condition}

module _ (t : Source) where
  range-sound : (i j : ℕ) (p : NamePair) → range t i ≡ Some (p, j) → RangeAt t i j p
  unfolding range
  range-sound i j p h =
      let a = part_of _ _ _ h in
      let first = (exact-name t.text).sound i a.end a.value a.read in
      elim (if_cases (has t k.Thru a.end) _ _ _ a.rest) [
        | inl b ↦ let d = part_of _ _ _ b.1 in
            moved_to (RangeAt t) i d.end j (record { first = a.value; last = d.value }) p
            (thru first (word-here t k.Thru a.end b.0) ((exact-name t.text).sound (a.end + 1) d.end d.value d.read)) d.rest
        | inr b ↦ moved_to (RangeAt t) i a.end j (record { first = a.value; last = a.value }) p (single first (has-false t k.Thru a.end b.0)) b.1
      ]

  times-sound : (level i j : ℕ) (x : Operand) → times t level i ≡ Some (x, j) → TimesAt t level i j x
  unfolding times
  times-sound level i j x h =
      let a = part_of (operand_at t.text level i) (λ (y : Operand) (next : ℕ). if has t k.Times next then Some (y, next + 1) else None) (x, j) h in
      elim (if_cases (has t k.Times a.end) (Some (a.value, a.end + 1)) None (Some (x, j)) a.rest) [
        | inl b ↦ let same = both_same a.value x (a.end + 1) j b.1 in
            record {
              times_at = a.end;
              count = subst (λ (y : Operand). OperandAt t level i a.end y) same.0 ((exact-operand t.text level).sound i a.end a.value a.read);
              times_word = record { is_word = has-true t k.Times a.end b.0; next_is = sym same.1 };
            }
        | inr b ↦ let none = b.1 in cc
      ]

  times-best : (level i j : ℕ) (x : Operand) → TimesAt t level i j x → times t level i ≡ Some (x, j)
  unfolding times
  times-best level i j x w =
      ap (λ r. and_then r (λ (y : Operand) (next : ℕ). if has t k.Times next then Some (y, next + 1) else None)) ((exact-operand t.text level).best i w.times_at x w.count)
      ∙ ap (λ (b : Bool). if b then Some (x, w.times_at + 1) else None) (has-is t k.Times w.times_at w.times_word.is_word)
      ∙ ap (λ (n : ℕ). Some (x, n)) (sym w.times_word.next_is)

  side-sound : (i j : ℕ) (b : Bool) → test_side t i ≡ Some (b, j) → SideAt t i j b
  unfolding test_side
  side-sound i j b h =
      elim (if_cases (has t k.After i) _ _ _ h) [
        | inl a ↦ moved_to (SideAt t) i (i + 1) j true b (side_after (word-here t k.After i a.0)) a.1
        | inr a ↦ let d = word_of _ _ _ a.1 in moved_to (SideAt t) i d.end j false b (test_before (after-sound t k.Before i d.end d.read)) d.rest
      ]

  test-sound : (i j : ℕ) (b : Bool) → test_after t i ≡ Some (b, j) → TestAt t i j b
  unfolding test_after
  test-sound i j b h =
      elim (if_cases (has t k.With i) _ _ _ h) [
        | inl a ↦ let d = word_of _ _ _ a.1 in
            test (given (word-here t k.With i a.0)) (after-sound t k.Test (i + 1) d.end d.read) (side-sound d.end j b d.rest)
        | inr a ↦ elim (if_cases (has t k.Test i) _ _ _ a.1) [
          | inl d ↦ test (absent (has-false t k.With i a.0)) (word-here t k.Test i d.0) (side-sound (i + 1) j b d.1)
          | inr d ↦ moved_to (TestAt t) i i j false b (no_test (has-false t k.With i a.0) (has-false t k.Test i d.0)) d.1
        ]
      ]

  varying-sound : (level i j : ℕ) (x : Option Vary) → varying t level i ≡ Some (x, j) → VaryAt t level i j x
  unfolding varying
  varying-sound level i j x h =
      elim (if_cases (has t k.Varying i) _ _ _ h) [
        | inl a ↦
            let b = part_of _ _ _ a.1 in
            let d = word_of _ _ _ b.rest in
            let f = part_of _ _ _ d.rest in
            let g = word_of _ _ _ f.rest in
            let l = part_of _ _ _ g.rest in
            moved_to (VaryAt t level) i l.end j (Some (record { item = b.value; from = f.value; by = l.value })) x
            (vary (word-here t k.Varying i a.0)
            ((exact-place t.text level).sound (i + 1) b.end b.value b.read)
            (after-sound t k.From b.end d.end d.read)
            ((exact-operand t.text level).sound d.end f.end f.value f.read)
            (after-sound t k.By f.end g.end g.read)
            ((exact-operand t.text level).sound g.end l.end l.value l.read)) l.rest
        | inr a ↦ moved_to (VaryAt t level) i i j None x (no_vary (has-false t k.Varying i a.0)) a.1
      ]

  until-sound : (level i j : ℕ) (x : Control) → until t level i ≡ Some (x, j) → ControlAt t level i j x
  unfolding until
  until-sound level i j x h =
      let a = part_of _ _ _ h in
      let b = part_of _ _ _ a.rest in
      let d = word_of _ _ _ b.rest in
      let f = part_of _ _ _ d.rest in
      moved_to (ControlAt t level) i f.end j (c.Until a.value f.value b.value) x
      (control_until (test-sound i a.end a.value a.read) (varying-sound level a.end b.end b.value b.read) (after-sound t k.Until b.end d.end d.read)
      ((exact-condition t.text level).sound d.end f.end f.value f.read)) f.rest

  times-or-once : (level i j : ℕ) (x : Control) (r : Option (Operand × ℕ)) → times t level i ≡ r → times_or_once t i r ≡ Some (x, j) → ControlAt t level i j x
  times-or-once level i j x None e h =
      moved_to (ControlAt t level) i i j c.Once x (once (λ m y w. let read = times-best level i m y w in cc)) h
  times-or-once level i j x (Some r) e h = moved_to (ControlAt t level) i r.1 j (c.Times r.0) x (counted (times-sound level i r.1 r.0 e)) h

  pub control-sound : (level i j : ℕ) (x : Control) → control t level i ≡ Some (x, j) → ControlAt t level i j x
  unfolding control
  control-sound level i j x h =
      elim (if_cases (begins_until t i) _ _ _ h) [
        | inl a ↦ until-sound level i j x a.1
        | inr a ↦ times-or-once level i j x (times t level i) refl a.1
      ]

  pub performed-sound : (level i m j : ℕ) (f : Form) → Word t k.Perform i m → performed t level m ≡ Some (f, j) → Perform t level i j f
  unfolding performed
  performed-sound level i m j f verb h =
      let a = part_of _ _ _ h in
      let b = part_of _ _ _ a.rest in
      let same = both_same (form.Perform (Some a.value) [] b.value) f b.end j b.rest in
      record {
        range_at = m;
        control_at = a.end;
        range = a.value;
        control = b.value;
        verb = verb;
        range_read = range-sound m a.end a.value a.read;
        control_read = subst (λ (n : ℕ). ControlAt t level a.end n b.value) same.1 (control-sound level a.end b.end b.value b.read);
        is = sym same.0;
      }
