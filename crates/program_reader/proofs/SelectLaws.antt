-- SELECT entries are read as the grammar says.
use Rattle.std.proofs.Common.{◌≡◌, ℕ, ◌+◌, Bool, true, false, List, Option, Some, None, refl, ap, sym, subst, ◌∙◌, arith, if◌then◌else◌}
use Rattle.cobol_syntax.specs.declared.place.Place.{Place}
use Rattle.cobol_syntax.specs.declared.program.Select.{Select}
use Rattle.cond_reader.specs.declared.symbol.Symbol.TheVariants as s
use Rattle.cond_reader.specs.Text.{sees, spelling}
use Rattle.cond_reader.specs.Reads.{and_then, chain}
use Rattle.cond_reader.specs.Places.{name, place}
use Rattle.cond_reader.specs.Grammar.{Name}
use Rattle.cond_reader.proofs.Seen.{if_some, found, then_some}
use Rattle.program_reader.specs.declared.select.SelectPart.{SelectPart}
use Rattle.program_reader.specs.declared.select.SelectPart.TheVariants as p
use Rattle.program_reader.specs.declared.select.SelectParts.{SelectParts}
use Rattle.program_reader.specs.declared.term.Term.TheVariants as k
use Rattle.program_reader.specs.Views.{View, has, past, past_is, ended}
use Rattle.program_reader.specs.Selects.{has_part, with_part, no_parts, sequential, status, select_part, unless_there, next_select_part, more_select_parts, external, assigned, select_rest, select}
use Rattle.program_reader.specs.Grammar.{Then, Maybe, absent, given, A, S, LongestPlace}
use Rattle.program_reader.specs.EntryGrammar.{Clauses, SelectClause, External, IsSelect}
use Rattle.program_reader.specs.EntryGrammar.SelectClause.{organization, access, status as status_is}
use Rattle.program_reader.specs.EntryGrammar.External.{name as of_name, literal as of_literal}
use Rattle.program_reader.proofs.PartLaws.{has-sound, sees-sound, past-sound, past-is-sound, ended-sound, name-sound, place-sound, closed-some}
use Rattle.program_reader.proofs.Steps.{if_either, if_not, clauses-sound}

module _ (v : View) where
  sequential-sound : (part x : SelectPart) (i j : ℕ) → sequential v part i ≡ Some (x, j) → (part ≡ x) × A v k.Sequential i j
  unfolding sequential
  sequential-sound part x i j h =
      let parts = if_some (has v k.Sequential i) (Some (part, i + 1)) (x, j) h in
      let same = found part x (i + 1) j parts.1 in
      (same.0, subst (λ (m : ℕ). A v k.Sequential i m) same.1 (has-sound v k.Sequential i parts.0))

  status-sound : (i m j : ℕ) (x : SelectPart) → Maybe (A v k.File) i m → status v m ≡ Some (x, j) → SelectClause v i j x
  unfolding status
  status-sound i m j x file h =
      let parts = if_some (has v k.Status m) (and_then (place v.text 64 (past_is v (m + 1))) (λ y l. Some (p.Status y, l))) (x, j) h in
      let step = then_some (place v.text 64 (past_is v (m + 1))) (λ y l. Some (p.Status y, l)) (x, j) parts.1 in
      let same = found (p.Status step.part) x step.end j step.rest in
      let head : Then (Maybe (A v k.File)) (Then (A v k.Status) (Maybe (S v s.Is))) i (past_is v (m + 1)) = record {
        middle = m;
        first = file;
        second = record { middle = m + 1; first = has-sound v k.Status m parts.0; second = past-is-sound v (m + 1) };
      } in
      let read = place-sound v (past_is v (m + 1)) step.end step.part step.read in
      subst (λ (l : ℕ). SelectClause v i l x) same.1 (subst (λ (y : SelectPart). SelectClause v i step.end y) same.0 (status_is head read))

  part-sound : (i j : ℕ) (x : SelectPart) → select_part v i ≡ Some (x, j) → SelectClause v i j x
  unfolding select_part
  part-sound i j x h =
      if_either (has v k.Organization i) _ _ (Some (x, j)) (SelectClause v i j x) h
      (λ is read.
      let end = sequential-sound p.Organization x (past_is v (i + 1)) j read in
      subst (λ (y : SelectPart). SelectClause v i j y) end.0 (organization (record {
        middle = i + 1;
        first = has-sound v k.Organization i is;
        second = record { middle = past_is v (i + 1); first = past-is-sound v (i + 1); second = end.1 };
      })))
      (λ _ rest. if_either (has v k.Access i) _ _ (Some (x, j)) (SelectClause v i j x) rest
      (λ is read.
      let end = sequential-sound p.Access x (past_is v (past v k.Mode (i + 1))) j read in
      subst (λ (y : SelectPart). SelectClause v i j y) end.0 (access (record {
        middle = i + 1;
        first = has-sound v k.Access i is;
        second = record {
          middle = past_is v (past v k.Mode (i + 1));
          first = record { middle = past v k.Mode (i + 1); first = past-sound v k.Mode (i + 1); second = past-is-sound v (past v k.Mode (i + 1)) };
          second = end.1;
        };
      })))
      (λ _ read. status-sound i (past v k.File i) j x (past-sound v k.File i) read))

  next-sound : (ps : SelectParts) (i j : ℕ) (x : SelectPart) → next_select_part v ps i ≡ Some (x, j) → SelectClause v i j x × (has_part ps x ≡ false)
  unfolding next_select_part
  next-sound ps i j x h =
      let step = then_some (select_part v i) (unless_there v ps) (x, j) h in
      let free = if_not (has_part ps step.part) (Some (step.part, step.end)) (x, j) step.rest in
      let same = found step.part x step.end j free.1 in
      let read = part-sound i step.end step.part step.read in (
        subst (λ (l : ℕ). SelectClause v i l x) same.1 (subst (λ (y : SelectPart). SelectClause v i step.end y) same.0 read),
        subst (λ (y : SelectPart). has_part ps y ≡ false) same.0 free.0,
      )

  parts-sound : (ps : SelectParts) (i : ℕ)
      → Clauses has_part with_part (SelectClause v) ps i (more_select_parts v ps i).1 (more_select_parts v ps i).0
  unfolding more_select_parts
  parts-sound ps i = clauses-sound has_part with_part (next_select_part v) (SelectClause v) next-sound 3 ps i

  external-sound : (i j : ℕ) (x : List ℕ) → external v i ≡ Some (x, j) → External v i j x
  unfolding external
  external-sound i j x h =
      if_either (sees v.text s.Literal i) _ _ (Some (x, j)) (External v i j x) h
      (λ is read.
      let same = found (spelling v.text i) x (i + 1) j read in
      subst (λ (y : List ℕ). External v i j y) same.0 (of_literal (subst (λ (m : ℕ). S v s.Literal i m) same.1 (sees-sound v s.Literal i is))))
      (λ _ read. of_name (name-sound v i j x read))

  pub record Assigned (i j : ℕ) (x : List ℕ) : Type 0 where
    pub middle : ℕ
    pub head : Then (A v k.Assign) (Maybe (S v s.To)) i middle
    pub external : External v middle j x

  assigned-sound : (i j : ℕ) (x : List ℕ) → assigned v i ≡ Some (x, j) → Assigned i j x
  unfolding assigned
  assigned-sound i j x h =
      let parts = if_some (has v k.Assign i) _ (x, j) h in
      let word = has-sound v k.Assign i parts.0 in
      if_either (sees v.text s.To (i + 1)) _ _ (Some (x, j)) (Assigned i j x) parts.1
      (λ is read. record {
        middle = i + 2;
        head = record { middle = i + 1; first = word; second = given (let e : i + 1 + 1 ≡ i + 2 = omega arith in subst (λ (m : ℕ). S v s.To (i + 1) m) e (sees-sound v s.To (i + 1) is)) };
        external = external-sound (i + 2) j x read;
      })
      (λ _ read. record {
        middle = i + 1;
        head = record { middle = i + 1; first = word; second = absent };
        external = external-sound (i + 1) j x read;
      })

  pub select-sound : (i j : ℕ) (x : Select) → select v i ≡ Some (x, j) → IsSelect v i j x
  unfolding select select_rest
  select-sound i j x h =
      let parts = if_some (has v k.Select i) _ (x, j) h in
      let first = then_some (name v.text (i + 1)) (λ n l. and_then (assigned v l) (λ e m. select_rest v n e i m)) (x, j) parts.1 in
      let second = then_some (assigned v first.end) (λ e m. select_rest v (first.part) e i m) (x, j) first.rest in
      let all = more_select_parts v no_parts second.end in
      let end = closed-some (record { name = first.part; external = second.part; status = all.0.status; at = i }) x (ended v all.1) j second.rest in
      let assign = assigned-sound first.end second.end second.part second.read in
      record {
        at_name = i + 1;
        at_assign = first.end;
        at_external = assign.middle;
        at_clauses = second.end;
        at_period = all.1;
        n = first.part;
        e = second.part;
        ps = all.0;
        select = has-sound v k.Select i parts.0;
        name = name-sound v (i + 1) first.end first.part first.read;
        assign = assign.head;
        external = assign.external;
        clauses = parts-sound no_parts second.end;
        period = ended-sound v all.1 j end.1;
        is = sym end.0;
      }
