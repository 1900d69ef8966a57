-- Sentences are read as the grammar says.
use Rattle.std.proofs.Common.{◌≡◌, ℕ, zero, suc, ◌+◌, ◌-◌, Bool, true, false, ◌<◌, ◌⊎◌, inl, inr, List, [], ◌∷◌, ◌++◌, length, Option, Some, None, refl, ap, sym, subst, ◌∙◌, arith, if◌then◌else◌}
use Rattle.std.specs.Prelude.{nat_lt}
use Rattle.cobol_syntax.specs.declared.cond.Condition.{Condition}
use Rattle.cobol_syntax.specs.declared.expr.Expr.{Expr}
use Rattle.cobol_syntax.specs.declared.statement.Branch.{Branch}
use Rattle.cobol_syntax.specs.declared.statement.Form.{Form}
use Rattle.cobol_syntax.specs.declared.statement.Form.TheVariants as form
use Rattle.cobol_syntax.specs.declared.statement.Statement.{Statement}
use Rattle.cobol_syntax.specs.declared.program.Sentence.{Sentence}
use Rattle.cond_reader.specs.declared.symbol.Symbol.TheVariants as symbol
use Rattle.cond_reader.specs.Text.{sees}
use Rattle.cond_reader.specs.Grammar.{Is, Name}
use Rattle.cond_reader.proofs.Words.{sees-is}
use Rattle.cond_reader.specs.Reads.{with_last}
use Rattle.cond_reader.specs.Conds.{condition_at}
use Rattle.cond_reader.proofs.Seen.{above_zero}
use Rattle.proc_reader.specs.declared.arithmetic.Computing.{Computing}
use Rattle.proc_reader.specs.declared.evaluate.Group.{Group}
use Rattle.proc_reader.specs.declared.keyword.Keyword.{Keyword}
use Rattle.proc_reader.specs.declared.keyword.Keyword.TheVariants as k
use Rattle.proc_reader.specs.declared.simple.Class.{Class}
use Rattle.proc_reader.specs.declared.simple.Class.TheVariants as class
use Rattle.proc_reader.specs.declared.spot.Spot.{Spot}
use Rattle.proc_reader.specs.Source.{Source, keyword, has, skip, after, after_symbol}
use Rattle.proc_reader.specs.Classes.{class_of, begins}
use Rattle.proc_reader.specs.Reading.{and_then, word_then, spot, Turn, over, goes_on, unread, after_turn, repeated}
use Rattle.proc_reader.specs.Trees.{statement, branch, numbered}
use Rattle.proc_reader.specs.Arithmetic.{computing, number_after_all, statements as computed_statements, end_word, end_of}
use Rattle.proc_reader.specs.Files.{file_name, destination}
use Rattle.proc_reader.specs.Performs.{control, is_inline}
use Rattle.proc_reader.specs.Simple.{simple, simple_statements}
use Rattle.proc_reader.specs.Nested.{Lists, phrase, size_phrase, on_size, not_on_size, at_end, not_at_end, made, body, other, if_statement, sizes, arithmetic_statements, ends, read_statement, inline_statement}
use Rattle.proc_reader.specs.Evaluates.{subject, heads, group, taken, group_by, groups_turn, more_groups, when_other, evaluate_statement, tied}
use Rattle.proc_reader.specs.Sentences.{nested_statement, perform_statement, statement_by, statement_at, longer, statements_turn, more_statements, statements_by, inside, statements, sentence}
use Rattle.proc_reader.specs.Grammar.{Word, MaybeWord, Simple}
use Rattle.proc_reader.specs.SentenceGrammar.{OnSize, AtEnd, Not, Body, Other, If, Phrase, Read, Inline, GroupAt, Groups, WhenOther, Evaluate, Nested, Compute, StatementAt, More, StatementsAt, Inside, IsSentence}
use Rattle.proc_reader.specs.SentenceGrammar.Body.{next_sentence, listed}
use Rattle.proc_reader.specs.SentenceGrammar.Other.{no_other, other as some_other}
use Rattle.proc_reader.specs.SentenceGrammar.Phrase.{no_phrase, phrase as some_phrase}
use Rattle.proc_reader.specs.SentenceGrammar.Groups.{no_more, one_more}
use Rattle.proc_reader.specs.SentenceGrammar.WhenOther.{no_when, when as some_when}
use Rattle.proc_reader.specs.SentenceGrammar.Nested.{if_read, evaluate, read, perform}
use Rattle.proc_reader.specs.SentenceGrammar.StatementAt.{simple as simple_read, compute, nested}
use Rattle.proc_reader.specs.SentenceGrammar.More.{no_statement, one_statement}
use Rattle.proc_reader.proofs.Steps.{part_of, word_of, if_cases, some_same, both_same, never}
use Rattle.proc_reader.proofs.WordLaws.{word-here, has-is, lacks, after-sound, skip-sound, skip-best, has-false, has-true, mark-here, after-mark-sound}
use Rattle.proc_reader.proofs.Exact.{exact-name, exact-condition}
use Rattle.proc_reader.proofs.FileLaws.{destination-sound}
use Rattle.proc_reader.proofs.PerformLaws.{control-sound}
use Rattle.proc_reader.proofs.ArithmeticLaws.{computing-sound}
use Rattle.proc_reader.proofs.SimpleLaws.{simple-sound}
use Rattle.proc_reader.proofs.WhenLaws.{subject-sound, heads-sound, no-heads}

-- what is read and where reading goes on, as other names of them
landed : {A : Type 0} (P : Spot → Spot → A → Type 0) (s m last : Spot) (x y : A) → P s m x → ◌≡◌ {A = Option (A × Spot)} (Some (x, m)) (Some (y, last)) → P s last y
landed {A = A} P s m last x y w h =
    let same = both_same x y m last h in
    subst (λ (z : A). P s last z) same.0 (subst (λ (n : Spot). P s n x) same.1 w)

module _ (t : Source) where
  on-size-sound : (i j : ℕ) → on_size t i ≡ Some j → OnSize t i j
  unfolding on_size
  on-size-sound i j h =
      let m = skip t k.On i in
      elim (if_cases (has t k.Size m) _ _ _ h) [
        | inl a ↦ elim (if_cases (has t k.Error (m + 1)) _ _ _ a.1) [
          | inl b ↦ record {
            size_at = m;
            error_at = m + 1;
            on_word = skip-sound t k.On i;
            size_word = word-here t k.Size m a.0;
            error_word = record { is_word = has-true t k.Error (m + 1) b.0; next_is = sym (some_same (m + 1 + 1) j b.1) };
          }
          | inr b ↦ let none = b.1 in cc
        ]
        | inr a ↦ let none = a.1 in cc
      ]

  on-size-best : (i j : ℕ) → OnSize t i j → on_size t i ≡ Some j
  unfolding on_size
  on-size-best i j w =
      let next = w.size_word.next_is in
      let last = w.error_word.next_is in
      ap (λ (m : ℕ). if has t k.Size m then (if has t k.Error (m + 1) then Some (m + 1 + 1) else None) else None) (skip-best t k.On i w.size_at w.on_word)
      ∙ ap (λ (b : Bool). if b then (if has t k.Error (w.size_at + 1) then Some (w.size_at + 1 + 1) else None) else None) (has-is t k.Size w.size_at w.size_word.is_word)
      ∙ ap (λ (m : ℕ). if has t k.Error m then Some (m + 1) else None) (sym next)
      ∙ ap (λ (b : Bool). if b then Some (w.error_at + 1) else None) (has-is t k.Error w.error_at w.error_word.is_word)
      ∙ ap (λ (m : ℕ). Some m) (sym last)

  at-end-sound : (i j : ℕ) → at_end t i ≡ Some j → AtEnd t i j
  unfolding at_end
  at-end-sound i j h =
      let m = skip t k.At i in
      elim (if_cases (has t k.End m) _ _ _ h) [
        | inl a ↦ record {
          end_at = m;
          at_word = skip-sound t k.At i;
          end_word = record { is_word = has-true t k.End m a.0; next_is = sym (some_same (m + 1) j a.1) };
        }
        | inr a ↦ let none = a.1 in cc
      ]

  at-end-best : (i j : ℕ) → AtEnd t i j → at_end t i ≡ Some j
  unfolding at_end
  at-end-best i j w =
      ap (λ (m : ℕ). if has t k.End m then Some (m + 1) else None) (skip-best t k.At i w.end_at w.at_word)
      ∙ ap (λ (b : Bool). if b then Some (w.end_at + 1) else None) (has-is t k.End w.end_at w.end_word.is_word)
      ∙ ap (λ (m : ℕ). Some m) (sym w.end_word.next_is)

  -- NOT before a head
  module _ (head : ℕ → Option ℕ) (Head : ℕ → ℕ → Type 0) (head-sound : (i j : ℕ) → head i ≡ Some j → Head i j) (head-best : (i j : ℕ) → Head i j → head i ≡ Some j) where
    abbrev not_head : ℕ → Option ℕ
    not_head i = if sees t.text symbol.Not i then head (i + 1) else None

    not-sound : (i j : ℕ) → not_head i ≡ Some j → Not t Head i j
    not-sound i j h =
        elim (if_cases (sees t.text symbol.Not i) _ _ _ h) [
          | inl a ↦ record { head_at = i + 1; not_word = mark-here t symbol.Not i a.0; head = head-sound (i + 1) j a.1 }
          | inr a ↦ let none = a.1 in cc
        ]

    not-best : (i j : ℕ) → Not t Head i j → not_head i ≡ Some j
    not-best i j w =
        ap (λ (b : Bool). if b then head (i + 1) else None) (sees-is t.text symbol.Not i w.not_word.kind_is)
        ∙ ap (λ (m : ℕ). head m) (sym w.not_word.next_is) ∙ head-best w.head_at j w.head

  not-size-sound : (i j : ℕ) → not_on_size t i ≡ Some j → Not t (OnSize t) i j
  unfolding not_on_size
  not-size-sound i j h = not-sound (on_size t) (OnSize t) on-size-sound on-size-best i j h

  not-size-best : (i j : ℕ) → Not t (OnSize t) i j → not_on_size t i ≡ Some j
  unfolding not_on_size
  not-size-best i j w = not-best (on_size t) (OnSize t) on-size-sound on-size-best i j w

  not-end-sound : (i j : ℕ) → not_at_end t i ≡ Some j → Not t (AtEnd t) i j
  unfolding not_at_end
  not-end-sound i j h = not-sound (at_end t) (AtEnd t) at-end-sound at-end-best i j h

  not-end-best : (i j : ℕ) → Not t (AtEnd t) i j → not_at_end t i ≡ Some j
  unfolding not_at_end
  not-end-best i j w = not-best (at_end t) (AtEnd t) at-end-sound at-end-best i j w

  -- over lists that are read as they are related
  module _ (lists : Lists) (L : Spot → Spot → List Statement → Type 0) (lists-sound : (s last : Spot) (list : List Statement) → lists s ≡ Some (list, last) → L s last list) where
    body-sound : (s last : Spot) (list : List Statement) → body t lists s ≡ Some (list, last) → Body t L s last list
    unfolding body made
    body-sound s last list h =
        elim (if_cases (has t k.Next s.at) _ _ _ h) [
          | inl a ↦ let b = word_of _ _ _ a.1 in
              landed (Body t L) s (spot b.end (s.number + 1)) last (statement t.program s.number s.at b.end form.NextSentence ∷ []) list
              (next_sentence (word-here t k.Next s.at a.0) (after-sound t k.Sentence (s.at + 1) b.end b.read)) b.rest
          | inr a ↦ listed (lists-sound s last list a.1)
        ]

    other-sound : (s last : Spot) (list : List Statement) → other t lists s ≡ Some (list, last) → Other t L s last list
    unfolding other
    other-sound s last list h =
        elim (if_cases (has t k.Else s.at) _ _ _ h) [
          | inl a ↦ some_other (word-here t k.Else s.at a.0) (body-sound (spot (s.at + 1) s.number) last list a.1)
          | inr a ↦ landed (Other t L) s s last [] list (no_other (has-false t k.Else s.at a.0)) a.1
        ]

    if-sound : (level : ℕ) (s last : Spot) (list : List Statement) → if_statement t level lists s ≡ Some (list, last) → If t L level s last list
    unfolding if_statement made
    if-sound level s last list h =
        let a = word_of _ _ _ h in
        let b = part_of _ _ _ a.rest in
        let c = part_of _ _ _ b.rest in
        let d = part_of _ _ _ c.rest in
        let end = skip t k.EndIf d.end.at in
        let w : If t L level s (spot end d.end.number) (statement t.program s.number s.at end (form.If b.value c.value d.value) ∷ []) = record {
          test_at = a.end;
          then_at = b.end;
          body_at = skip t k.Then b.end;
          other_spot = c.end;
          end_spot = d.end;
          test = b.value;
          first = c.value;
          second = d.value;
          verb = after-sound t k.If s.at a.end a.read;
          test_read = (exact-condition t.text level).sound a.end b.end b.value b.read;
          then_word = skip-sound t k.Then b.end;
          first_read = body-sound (spot (skip t k.Then b.end) (s.number + 1)) c.end c.value c.read;
          second_read = other-sound c.end d.end d.value d.read;
          end_word = skip-sound t k.EndIf d.end.at;
          number_is = refl;
          is = refl;
        } in
        landed (If t L level) s (spot end d.end.number) last (statement t.program s.number s.at end (form.If b.value c.value d.value) ∷ []) list w d.rest

    -- a phrase after a head
    phrase-by : (head : ℕ → Option ℕ) (Head : ℕ → ℕ → Type 0) (sound : (i j : ℕ) → head i ≡ Some j → Head i j) (best : (i j : ℕ) → Head i j → head i ≡ Some j)
        (s last : Spot) (x : Option (List Statement)) (r : Option ℕ) → head s.at ≡ r → phrase lists r s ≡ Some (x, last) → Phrase t L Head s last x
    unfolding phrase
    phrase-by head Head sound best s last x None e h = landed (Phrase t L Head) s s last None x (no_phrase (λ j w. let is = best s.at j w in cc)) h
    phrase-by head Head sound best s last x (Some m) e h =
        let a = part_of _ _ _ h in
        landed (Phrase t L Head) s a.end last (Some a.value) x (some_phrase (sound s.at m e) (lists-sound (spot m s.number) a.end a.value a.read)) a.rest

    read-sound : (level : ℕ) (s last : Spot) (list : List Statement) → read_statement t level lists s ≡ Some (list, last) → Read t L level s last list
    unfolding read_statement file_name ends made
    read-sound level s last list h =
        let a = word_of _ _ _ h in
        let b = part_of _ _ _ a.rest in
        let n = part_of _ _ _ b.read in
        let named = both_same n.value b.value (skip t k.Record (skip t k.Next n.end)) b.end n.rest in
        let c = part_of _ _ _ b.rest in
        let d = part_of _ _ _ c.rest in
        let f = part_of _ _ _ d.read in
        let g = part_of _ _ _ f.rest in
        let ended = both_same (branch f.value g.value) d.value g.end d.end g.rest in
        let end = skip t k.EndRead d.end.at in
        let w : Read t L level s (spot end d.end.number) (statement t.program s.number s.at end (form.Read b.value c.value d.value) ∷ []) = record {
          name_at = a.end;
          next_at = n.end;
          record_at = skip t k.Next n.end;
          into_at = b.end;
          phrase_at = c.end;
          not_spot = f.end;
          end_spot = d.end;
          name = b.value;
          into = c.value;
          first = f.value;
          second = g.value;
          verb = after-sound t k.Read s.at a.end a.read;
          name_read = subst (λ (y : List ℕ). Name t.text a.end n.end y) named.0 ((exact-name t.text).sound a.end n.end n.value n.read);
          next_word = skip-sound t k.Next n.end;
          record_word = subst (λ (y : ℕ). MaybeWord t k.Record (skip t k.Next n.end) y) named.1 (skip-sound t k.Record (skip t k.Next n.end));
          into_read = destination-sound t level b.end c.end c.value c.read;
          first_read = phrase-by (at_end t) (AtEnd t) at-end-sound at-end-best (spot c.end (s.number + 1)) f.end f.value (at_end t c.end) refl f.read;
          second_read = subst (λ (y : Spot). Phrase t L (Not t (AtEnd t)) f.end y g.value) ended.1
              (phrase-by (not_at_end t) (Not t (AtEnd t)) not-end-sound not-end-best f.end g.end g.value (not_at_end t f.end.at) refl g.read);
          end_word = skip-sound t k.EndRead d.end.at;
          number_is = refl;
          is = ap (λ (y : Option Branch). statement t.program s.number s.at end (form.Read b.value c.value y) ∷ []) (sym ended.0);
        } in
        landed (Read t L level) s (spot end d.end.number) last (statement t.program s.number s.at end (form.Read b.value c.value d.value) ∷ []) list w d.rest

    inline-sound : (level : ℕ) (s last : Spot) (list : List Statement) → inline_statement t level lists s ≡ Some (list, last) → Inline t L level s last list
    unfolding inline_statement made
    inline-sound level s last list h =
        let a = word_of _ _ _ h in
        let b = part_of _ _ _ a.rest in
        let c = part_of _ _ _ b.rest in
        let d = word_of _ _ _ c.rest in
        let w : Inline t L level s (spot d.end c.end.number) (statement t.program s.number s.at d.end (form.Perform None c.value b.value) ∷ []) = record {
          control_at = a.end;
          body_at = b.end;
          end_spot = c.end;
          control = b.value;
          body = c.value;
          verb = after-sound t k.Perform s.at a.end a.read;
          control_read = control-sound t level a.end b.end b.value b.read;
          body_read = lists-sound (spot b.end (s.number + 1)) c.end c.value c.read;
          end_word = after-sound t k.EndPerform c.end.at d.end d.read;
          number_is = refl;
          is = refl;
        } in
        landed (Inline t L level) s (spot d.end c.end.number) last (statement t.program s.number s.at d.end (form.Perform None c.value b.value) ∷ []) list w d.rest

    group-sound : (level : ℕ) (x : Option Expr) (start m : ℕ) (test : Condition) (s last : Spot) (g : Group) → heads t level x s.at ≡ Some (test, m)
        → group t lists start test (spot m s.number) ≡ Some (g, last) → GroupAt t L level x start s last g
    unfolding group
    group-sound level x start m test s last g head h =
        let a = part_of _ _ _ h in
        let made_group : Group = record { test = test; at = start; number = s.number; body = a.value } in
        let w : GroupAt t L level x start s a.end made_group = record {
          body_at = m;
          whens_read = heads-sound t level x s.at m test head;
          body_read = body-sound (spot m (s.number + 1)) a.end a.value a.read;
          at_is = refl;
          number_is = refl;
        } in
        landed (GroupAt t L level x start) s a.end last made_group g w a.rest

    groups-none : (level : ℕ) (x : Option Expr) (gs : List Group) (s : Spot) → repeated (groups_turn t level lists x) 0 gs s ≡ None
    unfolding repeated
    groups-none level x gs s = refl

    groups-turn : (level : ℕ) (x : Option Expr) (n : ℕ) (gs : List Group) (s : Spot)
        → repeated (groups_turn t level lists x) (suc n) gs s ≡ after_turn (repeated (groups_turn t level lists x) n) gs s (group_by t lists gs s (heads t level x s.at))
    unfolding repeated groups_turn
    groups-turn level x n gs s = refl

    groups-sound : (level : ℕ) (x : Option Expr) (n : ℕ) (gs all : List Group) (s last : Spot) → repeated (groups_turn t level lists x) n gs s ≡ Some (all, last)
        → Groups t L level x gs s last all
    groups-sound level x zero gs all s last h = let none = groups-none level x gs s in cc
    groups-sound level x (suc n) gs all s last h =
        elim (heads t level x s.at) as (λ (r : Option (Condition × ℕ)). heads t level x s.at ≡ r
        → after_turn (repeated (groups_turn t level lists x) n) gs s (group_by t lists gs s r) ≡ Some (all, last) → Groups t L level x gs s last all) [
          | None ↦ λ e turn. landed (Groups t L level x gs) s s last gs all (no_more (no-heads t level x s.at e)) turn
          | Some r ↦ λ e. elim (group t lists s.at r.0 (spot r.1 s.number)) as (λ (g : Option (Group × Spot)). group t lists s.at r.0 (spot r.1 s.number) ≡ g
              → after_turn (repeated (groups_turn t level lists x) n) gs s (taken t gs g) ≡ Some (all, last) → Groups t L level x gs s last all) [
                | None ↦ λ is turn. absurd (never turn)
                | Some g ↦ λ is turn. one_more (group-sound level x s.at r.1 r.0 s g.1 g.0 e is) (groups-sound level x n (with_last gs g.0) all g.1 last turn)
              ] refl
        ] refl (sym (groups-turn level x n gs s) ∙ h)

    when-other-sound : (s last : Spot) (list : List Statement) → when_other t lists s ≡ Some (list, last) → WhenOther t L s last list
    unfolding when_other
    when-other-sound s last list h =
        elim (if_cases (has t k.When s.at) _ _ _ h) [
          | inl a ↦ elim (if_cases (has t k.Other (s.at + 1)) _ _ _ a.1) [
            | inl b ↦ some_when (word-here t k.When s.at a.0) (word-here t k.Other (s.at + 1) b.0) (body-sound (spot (s.at + 1 + 1) s.number) last list b.1)
            | inr b ↦ landed (WhenOther t L) s s last [] list (no_when (λ m j w v. has-false t k.Other (s.at + 1) b.0 (ap (λ n. keyword t n) (sym w.next_is) ∙ v.is_word))) b.1
          ]
          | inr a ↦ landed (WhenOther t L) s s last [] list (no_when (λ m j w v. has-false t k.When s.at a.0 w.is_word)) a.1
        ]

    evaluate-sound : (level : ℕ) (s last : Spot) (list : List Statement) → evaluate_statement t level lists s ≡ Some (list, last) → Evaluate t L level s last list
    unfolding evaluate_statement more_groups
    evaluate-sound level s last list h =
        let a = word_of _ _ _ h in
        let b = part_of _ _ _ a.rest in
        let c = part_of _ _ _ b.rest in
        let d = part_of _ _ _ c.rest in
        let f = part_of _ _ _ d.rest in
        let g = part_of _ _ _ f.rest in
        let end = skip t k.EndEvaluate g.end.at in
        let w : Evaluate t L level s (spot end g.end.number) (tied t.program end f.value g.value) = record {
          subject_at = a.end;
          when_at = b.end;
          more_spot = d.end;
          other_spot = f.end;
          end_spot = g.end;
          x = b.value;
          first = d.value;
          groups = f.value;
          other = g.value;
          verb = after-sound t k.Evaluate s.at a.end a.read;
          subject_read = subject-sound t level a.end b.end b.value b.read;
          first_read = group-sound level b.value s.at c.end c.value (spot b.end s.number) d.end d.value c.read d.read;
          groups_read = groups-sound level b.value (length t.text.kinds + 1) (d.value ∷ []) f.value d.end f.end f.read;
          other_read = when-other-sound f.end g.end g.value g.read;
          end_word = skip-sound t k.EndEvaluate g.end.at;
          number_is = refl;
          is = refl;
        } in
        landed (Evaluate t L level) s (spot end g.end.number) last (tied t.program end f.value g.value) list w g.rest

    nested-sound : (level : ℕ) (s last : Spot) (list : List Statement) → nested_statement t level lists s ≡ Some (list, last) → Nested t L level s last list
    unfolding nested_statement
    nested-sound level s last list h =
        elim (if_cases (has t k.If s.at) _ _ _ h) [
          | inl a ↦ if_read (if-sound level s last list a.1)
          | inr a ↦ elim (if_cases (has t k.Evaluate s.at) _ _ _ a.1) [
            | inl b ↦ evaluate (evaluate-sound level s last list b.1)
            | inr b ↦ read (read-sound level s last list b.1)
          ]
        ]

    -- a size phrase is a phrase, in a level that is left
    size-phrase-by : (level : ℕ) (r : Option ℕ) (s last : Spot) (x : Option (List Statement)) → size_phrase level lists r s ≡ Some (x, last) → phrase lists r s ≡ Some (x, last)
    unfolding size_phrase phrase
    size-phrase-by level None s last x h = h
    size-phrase-by level (Some m) s last x h =
        elim (if_cases (nat_lt 0 level) _ _ _ h) [
          | inl a ↦ a.1
          | inr a ↦ let none = a.1 in cc
        ]

    compute-sound : (level : ℕ) (s last : Spot) (list : List Statement) → arithmetic_statements t level lists s ≡ Some (list, last) → Compute t L level s last list
    unfolding arithmetic_statements sizes end_of
    compute-sound level s last list h =
        let a = part_of _ _ _ h in
        let b = part_of _ _ _ a.rest in
        let first_spot : Spot = spot a.end (number_after_all a.value s.number) in
        let f = part_of _ _ _ b.read in
        let g = part_of _ _ _ f.rest in
        let ended = both_same (branch f.value g.value) b.value g.end b.end g.rest in
        let end = skip t (end_word t s.at) b.end.at in
        let all = computed_statements t.program s.at end s.number a.value b.value in
        let w : Compute t L level s (spot end b.end.number) all = record {
          size_at = a.end;
          not_spot = f.end;
          end_spot = b.end;
          computing = a.value;
          first = f.value;
          second = g.value;
          computing_read = computing-sound t level s.at a.end a.value a.read;
          first_read = phrase-by (on_size t) (OnSize t) on-size-sound on-size-best first_spot f.end f.value (on_size t a.end) refl
              (size-phrase-by level (on_size t a.end) first_spot f.end f.value f.read);
          second_read = subst (λ (y : Spot). Phrase t L (Not t (OnSize t)) f.end y g.value) ended.1
              (phrase-by (not_on_size t) (Not t (OnSize t)) not-size-sound not-size-best f.end g.end g.value (not_on_size t f.end.at) refl
              (size-phrase-by level (not_on_size t f.end.at) f.end g.end g.value g.read));
          end_words = skip-sound t (end_word t s.at) b.end.at;
          number_is = refl;
          is = ap (λ (y : Option Branch). computed_statements t.program s.at end s.number a.value y) (sym ended.0);
        } in
        landed (Compute t L level) s (spot end b.end.number) last all list w b.rest

    simple-statements-sound : (level : ℕ) (s last : Spot) (list : List Statement) → simple_statements t level s ≡ Some (list, last) → StatementAt t L level s last list
    unfolding simple_statements
    simple-statements-sound level s last list h =
        let a = part_of _ _ _ h in
        landed (StatementAt t L level) s (spot a.end (s.number + length a.value)) last (numbered t.program s.at a.end s.number a.value) list
        (simple_read (simple-sound t level s.at a.end a.value a.read)) a.rest

    perform-sound : (level : ℕ) (s last : Spot) (list : List Statement) → perform_statement t level lists s ≡ Some (list, last) → StatementAt t L level s last list
    unfolding perform_statement
    perform-sound level s last list h =
        let inner : Option (List Statement × Spot) = if nat_lt 0 level then inline_statement t (level - 1) lists s else None in
        let outer : ℕ → Option (List Statement × Spot) = λ j. if is_inline t level j then (if nat_lt 0 level then inline_statement t (level - 1) lists s else None) else simple_statements t level s in
        let a = word_of (after t k.Perform s.at) outer (list, last) h in
        elim (if_cases (is_inline t level a.end) inner (simple_statements t level s) (Some (list, last)) a.rest) [
          | inl b ↦ elim (if_cases (nat_lt 0 level) (inline_statement t (level - 1) lists s) None (Some (list, last)) b.1) [
            | inl c ↦ nested (above_zero level c.0) (perform (inline-sound (level - 1) s last list c.1))
            | inr c ↦ absurd (never c.1)
          ]
          | inr b ↦ simple-statements-sound level s last list b.1
        ]

    statement-by : (c : Class) (level : ℕ) (s last : Spot) (list : List Statement) → statement_by t c level lists s ≡ Some (list, last) → StatementAt t L level s last list
    statement-by class.Simple level s last list h = simple-statements-sound level s last list h
    statement-by class.Arithmetic level s last list h = compute (compute-sound level s last list h)
    statement-by class.Nested level s last list h =
        elim (if_cases (nat_lt 0 level) _ _ _ h) [
          | inl a ↦ nested (above_zero level a.0) (nested-sound (level - 1) s last list a.1)
          | inr a ↦ let none = a.1 in cc
        ]
    statement-by class.Perform level s last list h = perform-sound level s last list h
    statement-by class.Inner level s last list h = absurd (never h)

    statement-sound : (level : ℕ) (s last : Spot) (list : List Statement) → statement_at t level lists s ≡ Some (list, last) → StatementAt t L level s last list
    unfolding statement_at
    statement-sound level s last list h = statement-by (class_of (keyword t s.at)) level s last list h

    more-none : (level : ℕ) (list : List Statement) (s : Spot) → repeated (statements_turn t level lists) 0 list s ≡ None
    unfolding repeated
    more-none level list s = refl

    more-turn : (level : ℕ) (n : ℕ) (list : List Statement) (s : Spot)
        → repeated (statements_turn t level lists) (suc n) list s
        ≡ after_turn (repeated (statements_turn t level lists) n) list s (if begins t s.at then longer t list (statement_at t level lists s) else over)
    unfolding repeated statements_turn
    more-turn level n list s = refl

    more-sound : (level : ℕ) (n : ℕ) (list all : List Statement) (s last : Spot) → repeated (statements_turn t level lists) n list s ≡ Some (all, last)
        → More t L level list s last all
    more-sound level zero list all s last h = let none = more-none level list s in cc
    more-sound level (suc n) list all s last h =
        elim (begins t s.at) as (λ (b : Bool). begins t s.at ≡ b
        → after_turn (repeated (statements_turn t level lists) n) list s (if b then longer t list (statement_at t level lists s) else over) ≡ Some (all, last)
        → More t L level list s last all) [
          | false ↦ λ e turn. landed (More t L level list) s s last list all (no_statement e) turn
          | true ↦ λ e. elim (statement_at t level lists s) as (λ (r : Option (List Statement × Spot)). statement_at t level lists s ≡ r
              → after_turn (repeated (statements_turn t level lists) n) list s (longer t list r) ≡ Some (all, last) → More t L level list s last all) [
                | None ↦ λ is turn. absurd (never turn)
                | Some r ↦ λ is turn. one_statement (statement-sound level s r.1 r.0 is) (more-sound level n (list ++ r.0) all r.1 last turn)
              ] refl
        ] refl (sym (more-turn level n list s) ∙ h)

    list-sound : (level : ℕ) (s last : Spot) (list : List Statement) → statements_by t level lists s ≡ Some (list, last) → StatementsAt t L level s last list
    unfolding statements_by more_statements
    list-sound level s last list h =
        let a = part_of _ _ _ h in
        record {
          more_spot = a.end;
          first = a.value;
          first_read = statement-sound level s a.end a.value a.read;
          more_read = more-sound level (length t.text.kinds + 1) a.value list a.end last a.rest;
        }

  inside-zero : (s : Spot) → inside t 0 s ≡ None
  unfolding inside
  inside-zero s = refl

  inside-suc : (level : ℕ) (s : Spot) → inside t (suc level) s ≡ statements_by t level (inside t level) s
  unfolding inside
  inside-suc level s = refl

  inside-sound : (level : ℕ) (s last : Spot) (list : List Statement) → inside t level s ≡ Some (list, last) → Inside t level s last list
  inside-sound zero s last list h = let none = inside-zero s in cc
  inside-sound (suc level) s last list h = list-sound (inside t level) (Inside t level) (inside-sound level) level s last list (sym (inside-suc level s) ∙ h)

  statements-sound : (level : ℕ) (s last : Spot) (list : List Statement) → statements t level s ≡ Some (list, last) → StatementsAt t (Inside t level) level s last list
  unfolding statements
  statements-sound level s last list h = list-sound (inside t level) (Inside t level) (inside-sound level) level s last list h

  -- what is read as a sentence is one
  pub sentence-sound : (level : ℕ) (s last : Spot) (x : Sentence) → sentence t level s ≡ Some (x, last) → IsSentence t level s last x
  unfolding sentence
  sentence-sound level s last x h =
      let a = part_of _ _ _ h in
      let b = word_of _ _ _ a.rest in
      let all : Sentence = record { statements = a.value } in
      let w : IsSentence t level s (spot b.end a.end.number) all = record {
        period_spot = a.end;
        statements_read = statements-sound level s a.end a.value a.read;
        period = after-mark-sound t symbol.Period a.end.at b.end b.read;
        number_is = refl;
      } in
      landed (IsSentence t level) s (spot b.end a.end.number) last all x w b.rest
