-- OPEN, CLOSE and WRITE, and READ up to its phrases, are read as the grammar says.
use Rattle.std.proofs.Common.{◌≡◌, ℕ, ◌+◌, Bool, true, false, ◌<◌, ◌≤◌, ◌⊎◌, inl, inr, List, [], ◌∷◌, length, Option, Some, None, refl, ap, sym, subst, ◌∙◌, arith, if◌then◌else◌}
use Rattle.std.specs.Prelude.{map}
use Rattle.cobol_syntax.specs.declared.place.Place.{Place}
use Rattle.cobol_syntax.specs.declared.expr.Operand.{Operand}
use Rattle.cobol_syntax.specs.declared.statement.Form.{Form}
use Rattle.cobol_syntax.specs.declared.statement.Form.TheVariants as form
use Rattle.cobol_syntax.specs.declared.statement.Mode.{Mode}
use Rattle.cond_reader.specs.Reads.{Reader, with_last}
use Rattle.cond_reader.specs.Places.{name, place}
use Rattle.cond_reader.specs.Exprs.{operand_at}
use Rattle.cond_reader.specs.Grammar.{Name}
use Rattle.proc_reader.specs.declared.files.Opened.{Opened}
use Rattle.proc_reader.specs.declared.keyword.Keyword.{Keyword}
use Rattle.proc_reader.specs.declared.keyword.Keyword.TheVariants as k
use Rattle.proc_reader.specs.Source.{Source, keyword, has, skip, after}
use Rattle.proc_reader.specs.Reading.{and_then}
use Rattle.proc_reader.specs.Files.{one_more, mode, file_by, file_of_mode, more_opened, opened, opened_by, more_files, closed, source, lines, advance, written, destination, file_name}
use Rattle.proc_reader.specs.Grammar.{Many, Word, MaybeWord, PlaceAt, OperandAt, FileAt, Open, Close, MaybeOperand, MaybePlace, LinesAt, AdvanceAt, Write}
use Rattle.proc_reader.specs.Grammar.FileAt.{same as same_mode, another}
use Rattle.proc_reader.specs.Grammar.MaybeOperand.{no_operand, operand as some_operand}
use Rattle.proc_reader.specs.Grammar.MaybePlace.{no_place, place as some_place}
use Rattle.proc_reader.specs.Grammar.LinesAt.{page, lines as some_lines}
use Rattle.proc_reader.specs.Grammar.AdvanceAt.{no_advance, before, after as advance_after}
use Rattle.proc_reader.proofs.Steps.{part_of, if_cases, some_same, both_same, moved_to}
use Rattle.proc_reader.proofs.WordLaws.{word-here, has-is, after-sound, skip-sound, has-false}
use Rattle.proc_reader.proofs.Exact.{Exact, nothing, exact-name, exact-place, exact-operand, many}

module _ (t : Source) where
  abbrev size : ℕ
  size = length t.text.kinds

  file-by : (so_far : Mode) (i : ℕ) (r : Option Mode) → mode t i ≡ r → file_of_mode t so_far i ≡ file_by t so_far i r
  unfolding file_of_mode
  file-by so_far i r e = ap (λ m. file_by t so_far i m) e

  file-sound : (so_far : Mode) (i j : ℕ) (x : Mode × List ℕ) → file_of_mode t so_far i ≡ Some (x, j) → FileAt t so_far i j x
  file-sound so_far i j x h =
      elim (mode t i) as (λ (r : Option Mode). mode t i ≡ r → FileAt t so_far i j x) [
        | None ↦ λ e.
            let a = part_of (name t.text i) (λ file next. Some ((so_far, file), next)) (x, j) (sym (file-by so_far i None e) ∙ h) in
            let same = both_same (so_far, a.value) x a.end j a.rest in
            subst (λ (y : Mode × List ℕ). FileAt t so_far i j y) same.0 (subst (λ (n : ℕ). FileAt t so_far i n (so_far, a.value)) same.1 (same_mode e ((exact-name t.text).sound i a.end a.value a.read)))
        | Some m ↦ λ e.
            let a = part_of (name t.text (i + 1)) (λ file next. Some ((m, file), next)) (x, j) (sym (file-by so_far i (Some m) e) ∙ h) in
            let same = both_same (m, a.value) x a.end j a.rest in
            subst (λ (y : Mode × List ℕ). FileAt t so_far i j y) same.0 (subst (λ (n : ℕ). FileAt t so_far i n (m, a.value)) same.1 (another e ((exact-name t.text).sound (i + 1) a.end a.value a.read)))
      ] refl

  file-best : (so_far : Mode) (i j : ℕ) (x : Mode × List ℕ) → FileAt t so_far i j x → file_of_mode t so_far i ≡ Some (x, j)
  file-best so_far i j _ (same_mode {n = n} none w) =
      file-by so_far i None none ∙ ap (λ r. and_then r (λ file next. Some ((so_far, file), next))) ((exact-name t.text).best i j n w)
  file-best so_far i j _ (another {m = m} {n = n} is w) =
      file-by so_far i (Some m) is ∙ ap (λ r. and_then r (λ file next. Some ((m, file), next))) ((exact-name t.text).best (i + 1) j n w)

  file-moves : (so_far : Mode) (i j : ℕ) (x : Mode × List ℕ) → FileAt t so_far i j x → (i < j) × (i < size)
  file-moves so_far i j _ (same_mode {n = n} none w) = (exact-name t.text).moves i j n w
  file-moves so_far i j _ (another {m = m} {n = n} is w) = let forth = (exact-name t.text).moves (i + 1) j n w in (omega (arith, forth), omega (arith, forth))

  exact-file : (so_far : Mode) → Exact size (file_of_mode t so_far) (FileAt t so_far)
  exact-file so_far = record { sound = file-sound so_far; best = file-best so_far; moves = file-moves so_far }

  opened-many : (first : Opened) (i : ℕ) → Many (λ so_far. FileAt t so_far.mode) one_more first i (more_opened t first i).1 (more_opened t first i).0
  unfolding more_opened
  opened-many first i = many size (λ so_far. file_of_mode t so_far.mode) (λ so_far. FileAt t so_far.mode) one_more (λ so_far. exact-file so_far.mode) size first i (omega arith)

  opened-by : (i : ℕ) (r : Option Mode) → mode t i ≡ r → opened t i ≡ opened_by t i r
  unfolding opened
  opened-by i r e = ap (λ m. opened_by t i m) e

  pub opened-sound : (i m j : ℕ) (all : Opened) → Word t k.Open i m → opened t m ≡ Some (all, j) → Open t i j all.forms
  opened-sound i m j all verb h =
      elim (mode t m) as (λ (r : Option Mode). mode t m ≡ r → Open t i j all.forms) [
        | None ↦ λ e. let none : opened t m ≡ None = opened-by m None e in cc
        | Some x ↦ λ e.
            let a = part_of (name t.text (m + 1)) (λ file next. Some (more_opened t (one_more (record { mode = x; forms = [] }) (x, file)) next)) (all, j) (sym (opened-by m (Some x) e) ∙ h) in
            let first : Opened = one_more (record { mode = x; forms = [] }) (x, a.value) in
            let files = more_opened t first a.end in
            let same = both_same files.0 all files.1 j a.rest in
            record {
              mode_at = m;
              more_at = a.end;
              first_mode = x;
              first = a.value;
              all = all;
              verb = verb;
              mode_read = e;
              first_read = (exact-name t.text).sound (m + 1) a.end a.value a.read;
              more_read = subst (λ (y : Opened). Many (λ so_far. FileAt t so_far.mode) one_more first a.end j y) same.0
                  (subst (λ (n : ℕ). Many (λ so_far. FileAt t so_far.mode) one_more first a.end n files.0) same.1 (opened-many first a.end));
              is = refl;
            }
      ] refl

  files-many : (first : List (List ℕ)) (i : ℕ) → Many (λ _. Name t.text) with_last first i (more_files t first i).1 (more_files t first i).0
  unfolding more_files
  files-many first i = many size (λ _. name t.text) (λ _. Name t.text) with_last (λ _. exact-name t.text) size first i (omega arith)

  pub closed-sound : (i m j : ℕ) (fs : List Form) → Word t k.Close i m → closed t m ≡ Some (fs, j) → Close t i j fs
  unfolding closed
  closed-sound i m j fs verb h =
      let a = part_of _ _ _ h in
      let files = more_files t (a.value ∷ []) a.end in
      let same = both_same (map form.Close files.0) fs files.1 j a.rest in
      record {
        first_at = m;
        more_at = a.end;
        first = a.value;
        names = files.0;
        verb = verb;
        first_read = (exact-name t.text).sound m a.end a.value a.read;
        more_read = subst (λ (n : ℕ). Many (λ _. Name t.text) with_last (a.value ∷ []) a.end n files.0) same.1 (files-many (a.value ∷ []) a.end);
        is = sym same.0;
      }

  source-sound : (level i j : ℕ) (x : Option Operand) → source t level i ≡ Some (x, j) → MaybeOperand t level k.From i j x
  unfolding source
  source-sound level i j x h =
      elim (if_cases (has t k.From i) _ _ _ h) [
        | inl a ↦ let b = part_of _ _ _ a.1 in
            moved_to (MaybeOperand t level k.From) i b.end j (Some b.value) x
            (some_operand (word-here t k.From i a.0) ((exact-operand t.text level).sound (i + 1) b.end b.value b.read)) b.rest
        | inr a ↦ moved_to (MaybeOperand t level k.From) i i j None x (no_operand (has-false t k.From i a.0)) a.1
      ]

  lines-sound : (level i j : ℕ) (x : Option Operand) → lines t level i ≡ Some (x, j) → LinesAt t level i j x
  unfolding lines
  lines-sound level i j x h =
      elim (if_cases (has t k.Page i) _ _ _ h) [
        | inl a ↦ moved_to (LinesAt t level) i (i + 1) j None x (page (word-here t k.Page i a.0)) a.1
        | inr a ↦ let b = part_of _ _ _ a.1 in
            moved_to (LinesAt t level) i (skip t k.Line b.end) j (Some b.value) x
            (some_lines ((exact-operand t.text level).sound i b.end b.value b.read) (skip-sound t k.Line b.end)) b.rest
      ]

  advance-sound : (level i j : ℕ) (x : Option Operand) → advance t level i ≡ Some (x, j) → AdvanceAt t level i j x
  unfolding advance
  advance-sound level i j x h =
      elim (if_cases (has t k.Before i) _ _ _ h) [
        | inl a ↦ before (word-here t k.Before i a.0) (skip-sound t k.Advancing (i + 1)) (lines-sound level (skip t k.Advancing (i + 1)) j x a.1)
        | inr a ↦ elim (if_cases (has t k.After i) _ _ _ a.1) [
          | inl b ↦ advance_after (word-here t k.After i b.0) (skip-sound t k.Advancing (i + 1)) (lines-sound level (skip t k.Advancing (i + 1)) j x b.1)
          | inr b ↦ moved_to (AdvanceAt t level) i i j None x (no_advance (has-false t k.Before i a.0) (has-false t k.After i b.0)) b.1
        ]
      ]

  pub written-sound : (level i m j : ℕ) (f : Form) → Word t k.Write i m → written t level m ≡ Some (f, j) → Write t level i j f
  unfolding written
  written-sound level i m j f verb h =
      let a = part_of _ _ _ h in
      let b = part_of _ _ _ a.rest in
      let c = part_of _ _ _ b.rest in
      let same = both_same (form.Write a.value b.value c.value) f (skip t k.EndWrite c.end) j c.rest in
      record {
        name_at = m;
        from_at = a.end;
        advance_at = b.end;
        end_at = c.end;
        name = a.value;
        from = b.value;
        advance = c.value;
        verb = verb;
        name_read = (exact-name t.text).sound m a.end a.value a.read;
        from_read = source-sound level a.end b.end b.value b.read;
        advance_read = advance-sound level b.end c.end c.value c.read;
        end_word = subst (λ (n : ℕ). MaybeWord t k.EndWrite c.end n) same.1 (skip-sound t k.EndWrite c.end);
        is = sym same.0;
      }

  pub destination-sound : (level i j : ℕ) (x : Option Place) → destination t level i ≡ Some (x, j) → MaybePlace t level k.Into i j x
  unfolding destination
  destination-sound level i j x h =
      elim (if_cases (has t k.Into i) _ _ _ h) [
        | inl a ↦ let b = part_of _ _ _ a.1 in
            moved_to (MaybePlace t level k.Into) i b.end j (Some b.value) x
            (some_place (word-here t k.Into i a.0) ((exact-place t.text level).sound (i + 1) b.end b.value b.read)) b.rest
        | inr a ↦ moved_to (MaybePlace t level k.Into) i i j None x (no_place (has-false t k.Into i a.0)) a.1
      ]
