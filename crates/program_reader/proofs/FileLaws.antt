-- FD entries are read as the grammar says.
use Rattle.std.proofs.Common.{◌≡◌, ℕ, zero, suc, ◌+◌, Bool, true, false, ◌||◌, List, [], Option, Some, None, length, refl, ap, sym, subst, ◌∙◌, arith, if◌then◌else◌}
use Rattle.cobol_syntax.specs.declared.expr.Operand.{Operand}
use Rattle.cobol_syntax.specs.declared.program.FileEntry.{FileEntry}
use Rattle.cond_reader.specs.declared.symbol.Symbol.TheVariants as s
use Rattle.cond_reader.specs.Text.{sees}
use Rattle.cond_reader.specs.Reads.{and_then}
use Rattle.cond_reader.specs.Places.{name}
use Rattle.cond_reader.specs.Exprs.{constant}
use Rattle.cond_reader.proofs.Seen.{if_some, found, then_some}
use Rattle.program_reader.specs.declared.file.FilePart.{FilePart}
use Rattle.program_reader.specs.declared.file.FilePart.TheVariants as p
use Rattle.program_reader.specs.declared.term.Term.{Term}
use Rattle.program_reader.specs.declared.term.Term.TheVariants as k
use Rattle.program_reader.specs.Views.{View, has, past, past_is, past_is_or_are, ended, count}
use Rattle.program_reader.specs.Files.{with_file_part, is_second, step_to, or_stay, idle, past_one, past_any, records, label, block, recording, past_some_names, past_names, data_records, idle_part, record_contains, file_part, unless_second, next_file_part, more_file_parts, file_rest, file}
use Rattle.program_reader.specs.Grammar.{Then, Either, one, other, Maybe, absent, given, Any, stop, more, A, S, AnyName, Count, IsOrAre}
use Rattle.program_reader.specs.EntryGrammar.{Clauses, RecordOrRecords, AnyCount, Idle, FileClause, IsFile}
use Rattle.program_reader.specs.EntryGrammar.Idle.{label as is_label, block as is_block, data_records as is_data, recording as is_recording}
use Rattle.program_reader.specs.EntryGrammar.FileClause.{idle as idle_clause, contains as contains_clause}
use Rattle.program_reader.proofs.PartLaws.{has-sound, sees-sound, past-sound, past-is-sound, past-is-or-are-sound, ended-sound, name-sound, count-sound, constant-sound, constant-next, closed-some}
use Rattle.program_reader.proofs.Steps.{if_either, if_not, clauses-sound}

pub record StepTo (r : Option ℕ) (f : ℕ → Option ℕ) (j : ℕ) : Type 0 where
  pub end : ℕ
  pub read : r ≡ Some end
  pub rest : f end ≡ Some j

pub step-some : (r : Option ℕ) (f : ℕ → Option ℕ) (j : ℕ) → step_to r f ≡ Some j → StepTo r f j
step-some None f j h = absurd (cc)
step-some (Some m) f j h = record { end = m; read = refl; rest = h }

pub some_same : (i j : ℕ) → ◌≡◌ {A = Option ℕ} (Some i) (Some j) → i ≡ j
some_same i j h = cc

module _ (v : View) where
  pub either-sound : (a b : Term) (i : ℕ) (x y : Bool) → has v a i ≡ x → has v b i ≡ y → (x || y) ≡ true → Either (A v a) (A v b) i (i + 1)
  either-sound a b i true y p q h = one (has-sound v a i p)
  either-sound a b i false true p q h = other (has-sound v b i q)
  either-sound a b i false false p q h = absurd (cc)

  past-one-sound : (a b : Term) (i j : ℕ) → past_one v a b i ≡ Some j → Either (A v a) (A v b) i j
  unfolding past_one
  past-one-sound a b i j h =
      let parts = if_some (has v a i || has v b i) (Some (i + 1)) j h in
      subst (λ (m : ℕ). Either (A v a) (A v b) i m) (some_same (i + 1) j parts.1) (either-sound a b i _ _ refl refl parts.0)

  past-any-sound : (a b : Term) (i : ℕ) → Maybe (Either (A v a) (A v b)) i (past_any v a b i)
  unfolding past_any
  past-any-sound a b i =
      elim (past_one v a b i) as (λ (r : Option ℕ). past_one v a b i ≡ r → Maybe (Either (A v a) (A v b)) i (or_stay i r)) [
        | None ↦ λ e. absent
        | Some j ↦ λ e. given (past-one-sound a b i j e)
      ] refl

  records-sound : (i j : ℕ) → records v i ≡ Some j → RecordOrRecords v i j
  unfolding records
  records-sound i j h =
      let step = step-some (past_one v k.Record k.Records i) (λ m. Some (past_is_or_are v m)) j h in
      record {
        middle = step.end;
        first = past-one-sound k.Record k.Records i step.end step.read;
        second = subst (λ (m : ℕ). Maybe (IsOrAre v) step.end m) (some_same (past_is_or_are v step.end) j step.rest) (past-is-or-are-sound v step.end);
      }

  label-sound : (i j : ℕ) → label v i ≡ Some j → Then (RecordOrRecords v) (Either (A v k.Standard) (A v k.Omitted)) i j
  unfolding label
  label-sound i j h =
      let step = step-some (records v i) (λ m. past_one v k.Standard k.Omitted m) j h in
      record { middle = step.end; first = records-sound i step.end step.read; second = past-one-sound k.Standard k.Omitted step.end j step.rest }

  block-sound : (i j : ℕ) → block v i ≡ Some j
      → Then (Then (Maybe (A v k.Contains)) (AnyCount v)) (Maybe (Either (A v k.Records) (A v k.Characters))) i j
  unfolding block
  block-sound i j h =
      let step = then_some (count v (past v k.Contains i)) (λ n m. Some (past_any v k.Records k.Characters m)) j h in
      record {
        middle = step.end;
        first = record {
          middle = past v k.Contains i;
          first = past-sound v k.Contains i;
          second = record { n = step.part; count = count-sound v (past v k.Contains i) step.end step.part step.read };
        };
        second = subst (λ (m : ℕ). Maybe (Either (A v k.Records) (A v k.Characters)) step.end m)
            (some_same (past_any v k.Records k.Characters step.end) j step.rest) (past-any-sound k.Records k.Characters step.end);
      }

  recording-sound : (i j : ℕ) → recording v i ≡ Some j → Then (Then (Maybe (A v k.Mode)) (Maybe (S v s.Is))) (A v k.Fixed) i j
  unfolding recording
  recording-sound i j h =
      let m = past v k.Mode i in
      let l = past_is v m in
      let parts = if_some (has v k.Fixed l) (Some (l + 1)) j h in
      record {
        middle = l;
        first = record { middle = m; first = past-sound v k.Mode i; second = past-is-sound v m };
        second = subst (λ (x : ℕ). A v k.Fixed l x) (some_same (l + 1) j parts.1) (has-sound v k.Fixed l parts.0);
      }

  names-sound : (n i : ℕ) → Any (AnyName v) i (past_some_names v n i)
  names-sound zero i = stop
  names-sound (suc n) i =
      elim (sees v.text s.Name i) as (λ (b : Bool). sees v.text s.Name i ≡ b → Any (AnyName v) i (if b then past_some_names v n (i + 1) else i)) [
        | true ↦ λ e. more (sees-sound v s.Name i e) (names-sound n (i + 1))
        | false ↦ λ e. stop
      ] refl

  past-names-sound : (i : ℕ) → Any (AnyName v) i (past_names v i)
  unfolding past_names
  past-names-sound i = names-sound (length v.terms) i

  data-sound : (i j : ℕ) → data_records v i ≡ Some j → Then (RecordOrRecords v) (Then (AnyName v) (Any (AnyName v))) i j
  unfolding data_records
  data-sound i j h =
      let step = step-some (records v i) (λ m. if sees v.text s.Name m then Some (past_names v (m + 1)) else None) j h in
      let parts = if_some (sees v.text s.Name step.end) (Some (past_names v (step.end + 1))) j step.rest in
      record {
        middle = step.end;
        first = records-sound i step.end step.read;
        second = record {
          middle = step.end + 1;
          first = sees-sound v s.Name step.end parts.0;
          second = subst (λ (m : ℕ). Any (AnyName v) (step.end + 1) m) (some_same (past_names v (step.end + 1)) j parts.1) (past-names-sound (step.end + 1));
        };
      }

  after : (term : Term) (P : ℕ → ℕ → Type 0) (i j : ℕ) → has v term i ≡ true → P (i + 1) j → Then (A v term) P i j
  after term P i j is rest = record { middle = i + 1; first = has-sound v term i is; second = rest }

  idle-sound : (i j : ℕ) → idle_part v i ≡ Some j → Idle v i j
  unfolding idle_part
  idle-sound i j h =
      if_either (has v k.Label i) _ _ (Some j) (Idle v i j) h
      (λ is read. is_label (after k.Label _ i j is (label-sound (i + 1) j read)))
      (λ _ rest. if_either (has v k.Block i) _ _ (Some j) (Idle v i j) rest
      (λ is read. is_block (after k.Block _ i j is (block-sound (i + 1) j read)))
      (λ _ rest. if_either (has v k.Data i) _ _ (Some j) (Idle v i j) rest
      (λ is read. is_data (after k.Data _ i j is (data-sound (i + 1) j read)))
      (λ _ rest.
      let parts = if_some (has v k.Recording i) (recording v (i + 1)) j rest in
      is_recording (after k.Recording _ i j parts.0 (recording-sound (i + 1) j parts.1)))))

  contains-sound : (i j : ℕ) (x : FilePart) → has v k.Record i ≡ true → record_contains v (i + 1) ≡ Some (x, j) → FileClause v i j x
  unfolding record_contains
  contains-sound i j x is h =
      let start = past v k.Contains (i + 1) in
      let first = then_some (count v start) (λ n l. and_then (constant v.text start) (λ o m. Some (p.Contains o, past v k.Characters m))) (x, j) h in
      let second = then_some (constant v.text start) (λ o m. Some (p.Contains o, past v k.Characters m)) (x, j) first.rest in
      let same = found (p.Contains second.part) x (past v k.Characters second.end) j second.rest in
      let number = count-sound v start first.end first.part first.read in
      let written = constant-sound v start second.end second.part second.read in
      let ends : first.end ≡ second.end = number.word.next_is ∙ sym (constant-next v start second.end second.part written) in
      let head : Then (A v k.Record) (Maybe (A v k.Contains)) i start = after k.Record _ i start is (past-sound v k.Contains (i + 1)) in
      let whole : FileClause v i (past v k.Characters second.end) (p.Contains second.part) =
      contains_clause head (subst (λ (m : ℕ). Count v start m first.part) ends number) written (past-sound v k.Characters second.end) in
      subst (λ (l : ℕ). FileClause v i l x) same.1 (subst (λ (y : FilePart). FileClause v i (past v k.Characters second.end) y) same.0 whole)

  part-sound : (i j : ℕ) (x : FilePart) → file_part v i ≡ Some (x, j) → FileClause v i j x
  unfolding file_part
  part-sound i j x h =
      if_either (has v k.Record i) _ _ (Some (x, j)) (FileClause v i j x) h
      (λ is read. contains-sound i j x is read)
      (λ _ rest.
      elim (idle_part v i) as (λ (r : Option ℕ). idle_part v i ≡ r → idle r ≡ Some (x, j) → FileClause v i j x) [
        | None ↦ λ e h. absurd (cc)
        | Some m ↦ λ e h.
            let same = found p.Idle x m j h in
            subst (λ (y : FilePart). FileClause v i j y) same.0 (idle_clause (subst (λ (l : ℕ). Idle v i l) same.1 (idle-sound i m e)))
      ] refl rest)

  next-sound : (c : Option Operand) (i j : ℕ) (x : FilePart) → next_file_part v c i ≡ Some (x, j) → FileClause v i j x × (is_second c x ≡ false)
  unfolding next_file_part
  next-sound c i j x h =
      let step = then_some (file_part v i) (unless_second v c) (x, j) h in
      let free = if_not (is_second c step.part) (Some (step.part, step.end)) (x, j) step.rest in
      let same = found step.part x step.end j free.1 in
      let read = part-sound i step.end step.part step.read in (
        subst (λ (l : ℕ). FileClause v i l x) same.1 (subst (λ (y : FilePart). FileClause v i step.end y) same.0 read),
        subst (λ (y : FilePart). is_second c y ≡ false) same.0 free.0,
      )

  parts-sound : (c : Option Operand) (i : ℕ)
      → Clauses is_second with_file_part (FileClause v) c i (more_file_parts v c i).1 (more_file_parts v c i).0
  unfolding more_file_parts
  parts-sound c i = clauses-sound is_second with_file_part (next_file_part v) (FileClause v) next-sound (length v.terms) c i

  pub file-sound : (i j : ℕ) (x : FileEntry) → file v i ≡ Some (x, j) → IsFile v i j x
  unfolding file file_rest
  file-sound i j x h =
      let parts = if_some (has v k.Fd i) _ (x, j) h in
      let first = then_some (name v.text (i + 1)) (λ n l. file_rest v n i l) (x, j) parts.1 in
      let all = more_file_parts v None first.end in
      let end = closed-some (record { name = first.part; contains = all.0; entries = []; at = i }) x (ended v all.1) j first.rest in
      record {
        at_name = i + 1;
        at_clauses = first.end;
        at_period = all.1;
        n = first.part;
        c = all.0;
        fd = has-sound v k.Fd i parts.0;
        name = name-sound v (i + 1) first.end first.part first.read;
        clauses = parts-sound None first.end;
        period = ended-sound v all.1 j end.1;
        is = sym end.0;
      }
