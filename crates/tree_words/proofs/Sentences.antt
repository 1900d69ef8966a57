-- What holds of the statements of a sentence.
use Rattle.std.proofs.Common.{ℕ, zero, suc, ◌+◌, ◌-◌, ◌<◌, ◌≤◌, nat_lt, nat_le, ◌≡◌, refl, ap, ◌∙◌, Bool, true, ◌&&◌, List, [], ◌∷◌, ◌++◌, map, Option, Some, None, arith}
use Rattle.std.proofs.lemmas.Bool.{and_from, and_parts, le-leb, lt-ltb}
use Rattle.cobol_syntax.specs.declared.place.Place.{Place}
use Rattle.cobol_syntax.specs.declared.expr.Operand.{Operand}
use Rattle.cobol_syntax.specs.declared.expr.Operand.TheVariants as operand
use Rattle.cobol_syntax.specs.declared.expr.Expr.{Expr}
use Rattle.cobol_syntax.specs.declared.expr.Expr.TheVariants as e
use Rattle.cobol_syntax.specs.declared.cond.Condition.{Condition, out-Condition}
use Rattle.cobol_syntax.specs.declared.cond.Rel.TheVariants as rel
use Rattle.cobol_syntax.specs.declared.cond.CondForm.TheVariants as condition
use Rattle.cobol_syntax.specs.declared.statement.Branch.{Branch}
use Rattle.cobol_syntax.specs.declared.statement.Form.{Form}
use Rattle.cobol_syntax.specs.declared.statement.Form.TheVariants as form
use Rattle.cobol_syntax.specs.declared.statement.Statement.{Statement}
use Rattle.cobol_syntax.specs.declared.program.Sentence.{Sentence}
use Rattle.cond_reader.specs.Reads.{with_last}
use Rattle.proc_reader.specs.declared.arithmetic.Receiver.{Receiver}
use Rattle.proc_reader.specs.declared.arithmetic.Computing.{Computing}
use Rattle.proc_reader.specs.declared.evaluate.Group.{Group}
use Rattle.proc_reader.specs.declared.spot.Spot.{Spot}
use Rattle.proc_reader.specs.declared.tree.Joining.{Joining}
use Rattle.proc_reader.specs.Source.{Source}
use Rattle.proc_reader.specs.Reading.{spot}
use Rattle.proc_reader.specs.Trees.{joined, statement, branch, list_of, both_lists, numbered, equality, either}
use Rattle.proc_reader.specs.Arithmetic.{computed, each_computed, statements, number_after_all}
use Rattle.proc_reader.specs.Evaluates.{if_of, tied}
use Rattle.proc_reader.specs.Grammar.{Many, stop, more}
use Rattle.proc_reader.specs.SentenceGrammar.{one, OnSize, AtEnd, Not, SubjectAt, WhenAt, WhensAt, Body, Other, If, Phrase, Read, Inline, GroupAt, Groups, WhenOther, Evaluate, Nested, Compute, StatementAt, More, StatementsAt, Inside, IsSentence}
use Rattle.proc_reader.specs.SentenceGrammar as grammar
use Rattle.tree_words.specs.Fits.{all_true, if_any, is_part, place_fits, operand_fits, expr_fits, condition_fits, control_fits, form_fits, branch_fits, statement_fits, list_fits, sentence_fits}
use Rattle.tree_words.proofs.Folds.{fits-One, fits-Relation, fits-Or, fits-rolled}
use Rattle.tree_words.proofs.StatementFolds as folds
use Rattle.tree_words.proofs.Parts.{Taken, Passed, TakenBy, and_3, all-last, all-one, all-joined, part-taken}
use Rattle.tree_words.proofs.Exprs.{name-taken}
use Rattle.tree_words.proofs.Conds.{spanned}
use Rattle.tree_words.proofs.Simple.{maybe-word-grows, operand-at, condition-at, maybe-place-passed, control-passed, simple-taken}
use Rattle.tree_words.proofs.Arithmetic.{receiver_fits, receivers_fit, computing_fits, joined-fits, computing-taken}

-- ---- items one after the other, if what stands before them fits
module _ (words : ℕ) {A B : Type 0} {Item : A → ℕ → ℕ → B → Type 0} {add : A → B → A} (before : Bool) (fits_all : A → Bool) (fits_one : B → Bool)
    (item : (a : A) (i j : ℕ) (b : B) → Item a i j b → TakenBy words i j before (fits_one b))
    (added : (a : A) (b : B) → fits_all a ≡ true → fits_one b ≡ true → fits_all (add a b) ≡ true)
  where
    many-grows : {a c : A} {i j : ℕ} → Many Item add a i j c → i ≤ j
    many-grows (stop none) = omega arith
    many-grows (more {a = a} {i = i} {m = m} {b = b} first others) = omega (arith, (item a i m b first).grows, many-grows others)

    many-fits : {a c : A} {i j : ℕ} → Many Item add a i j c → j ≤ words → before ≡ true → fits_all a ≡ true → fits_all c ≡ true
    many-fits (stop none) within given fit = fit
    many-fits (more {a = a} {i = i} {m = m} {b = b} first others) within given fit =
        many-fits others within given (added a b fit ((item a i m b first).fit (omega (arith, many-grows others, within)) given))

module _ (words : ℕ) where
  -- ---- how statements are built

  built : (program number i j : ℕ) (f : Form) → is_part words i j ≡ true → form_fits words f ≡ true → statement_fits words (statement program number i j f) ≡ true
  unfolding statement
  built program number i j f part fit =
      folds.fits-statement words (record { program = program; number = number }) i j f ∙ and_from (is_part words i j) (form_fits words f) part fit

  numbered-built : (program i j number : ℕ) (fs : List Form) → is_part words i j ≡ true → all_true (map (form_fits words) fs) ≡ true → list_fits words (numbered program i j number fs) ≡ true
  numbered-built program i j number [] part fit = refl
  numbered-built program i j number (f ∷ fs) part fit =
      let (first, others) = and_parts (form_fits words f) (all_true (map (form_fits words) fs)) fit in
      and_from (statement_fits words (statement program number i j f)) (list_fits words (numbered program i j (number + 1) fs))
      (built program number i j f part first) (numbered-built program i j (number + 1) fs part others)

  list-of-fits : (x : Option (List Statement)) → if_any (list_fits words) x ≡ true → list_fits words (list_of x) ≡ true
  list-of-fits None fit = refl
  list-of-fits (Some list) fit = fit

  both-lists-fit : (first second : Option (List Statement)) → if_any (list_fits words) first ≡ true → if_any (list_fits words) second ≡ true
      → branch_fits words (both_lists first second) ≡ true
  both-lists-fit first second one other =
      folds.fits-branch words (list_of first) (list_of second)
      ∙ and_from (list_fits words (list_of first)) (list_fits words (list_of second)) (list-of-fits first one) (list-of-fits second other)

  branch-built : (first second : Option (List Statement)) → if_any (list_fits words) first ≡ true → if_any (list_fits words) second ≡ true
      → if_any (branch_fits words) (branch first second) ≡ true
  unfolding branch
  branch-built None None one other = refl
  branch-built None (Some second) one other = both-lists-fit None (Some second) one other
  branch-built (Some first) second one other = both-lists-fit (Some first) second one other

  equality-built : (x : Expr) (y : Operand) (i j : ℕ) → is_part words i j ≡ true → expr_fits words x ≡ true → operand_fits words y ≡ true → condition_fits words (equality x y i j) ≡ true
  unfolding equality
  equality-built x y i j part left right =
      fits-rolled words i j (condition.Relation x rel.Equal (e.One y))
      ∙ and_from _ _ part (fits-Relation words x rel.Equal (e.One y) ∙ and_from (expr_fits words x) (expr_fits words (e.One y)) left (fits-One words y ∙ right))

  either-built : (a b : Condition) → condition_fits words a ≡ true → condition_fits words b ≡ true → condition_fits words (either a b) ≡ true
  unfolding either
  either-built a b left right =
      fits-rolled words ((out-Condition a).at) ((out-Condition b).end) (condition.Or a b)
      ∙ and_from _ _ (spanned words a b left right) (fits-Or words a b ∙ and_from (condition_fits words a) (condition_fits words b) left right)

  abbrev group_fits : Group → Bool
  group_fits g = nat_lt g.at words && (condition_fits words g.test && list_fits words g.body)

  if-built : (program end : ℕ) (g : Group) (other : List Statement) → nat_le end words ≡ true → group_fits g ≡ true → list_fits words other ≡ true
      → statement_fits words (if_of program end g other) ≡ true
  unfolding if_of
  if-built program end g other ends fit others =
      let (begins, inner) = and_parts (nat_lt g.at words) (condition_fits words g.test && list_fits words g.body) fit in
      let (test, body) = and_parts (condition_fits words g.test) (list_fits words g.body) inner in
      built program g.number g.at end (form.If g.test g.body other) (and_from (nat_lt g.at words) (nat_le end words) begins ends)
      (folds.fits-If words g.test g.body other ∙ and_3 (condition_fits words g.test) (list_fits words g.body) (list_fits words other) test body others)

  tied-built : (program end : ℕ) (gs : List Group) (other : List Statement) → nat_le end words ≡ true → all_true (map group_fits gs) ≡ true → list_fits words other ≡ true
      → list_fits words (tied program end gs other) ≡ true
  tied-built program end [] other ends fit others = others
  tied-built program end (g ∷ gs) other ends fit others =
      let (first, behind) = and_parts (group_fits g) (all_true (map group_fits gs)) fit in
      all-one (statement_fits words) (if_of program end g (tied program end gs other)) (if-built program end g (tied program end gs other) ends first (tied-built program end gs other ends behind others))

  -- ---- arithmetic

  computed-built : (joining : Joining) (value : Expr) (rest : Option Place) (size : Option Branch) (r : Receiver)
      → expr_fits words value ≡ true → if_any (place_fits words) rest ≡ true → if_any (branch_fits words) size ≡ true → receiver_fits words r ≡ true
      → form_fits words (computed joining value rest size r) ≡ true
  unfolding computed
  computed-built joining value rest size r fit left phrases place =
      let sum = joined joining value (operand.Place r.place) in
      folds.fits-Compute words r.place r.rounded sum rest size
      ∙ and_from (place_fits words r.place) _ place (and_3 (expr_fits words sum) _ _ (joined-fits words joining value (operand.Place r.place) fit place) left phrases)

  each-built : (joining : Joining) (value : Expr) (rs : List Receiver) → expr_fits words value ≡ true → all_true (map (receiver_fits words) rs) ≡ true
      → all_true (map (form_fits words) (each_computed joining value rs)) ≡ true
  each-built joining value [] fit places = refl
  each-built joining value (r ∷ rs) fit places =
      let (first, others) = and_parts (receiver_fits words r) (all_true (map (receiver_fits words) rs)) places in
      and_from (form_fits words (computed joining value None None r)) (all_true (map (form_fits words) (each_computed joining value rs)))
      (computed-built joining value None None r fit refl refl first) (each-built joining value rs fit others)

  statements-built : (program i j number : ℕ) (c : Computing) (size : Option Branch) → is_part words i j ≡ true → computing_fits words c ≡ true → if_any (branch_fits words) size ≡ true
      → list_fits words (statements program i j number c size) ≡ true
  unfolding statements
  statements-built program i j number c size part fit phrases =
      let (value, others) = and_parts (expr_fits words c.value) (receivers_fit words c.receivers && if_any (place_fits words) c.rest) fit in
      let (all, rest) = and_parts (receivers_fit words c.receivers) (if_any (place_fits words) c.rest) others in
      let (before, last) = and_parts (all_true (map (receiver_fits words) c.receivers.before)) (receiver_fits words c.receivers.last) all in
      all-joined (statement_fits words) (numbered program i j number (each_computed c.joining c.value c.receivers.before)) _
      (numbered-built program i j number (each_computed c.joining c.value c.receivers.before) part (each-built c.joining c.value c.receivers.before value before))
      (all-one (statement_fits words) _ (built program _ i j (computed c.joining c.value c.rest size c.receivers.last) part (computed-built c.joining c.value c.rest size c.receivers.last value rest phrases last)))

module _ (words : ℕ) (t : Source) where
  one-built : (s : Spot) (end : ℕ) (f : Form) → s.at < end → end ≤ words → form_fits words f ≡ true → list_fits words (one t s end f) ≡ true
  one-built s end f grows within fit =
      all-one (statement_fits words) (statement t.program s.number s.at end f) (built words t.program s.number s.at end f (part-taken words s.at end grows within) fit)

  on-size-grows : (i j : ℕ) → OnSize t i j → i ≤ j
  on-size-grows i j w = omega (arith, maybe-word-grows words t i w.size_at w.on_word, w.size_word.next_is, w.error_word.next_is)

  at-end-grows : (i j : ℕ) → AtEnd t i j → i ≤ j
  at-end-grows i j w = omega (arith, maybe-word-grows words t i w.end_at w.at_word, w.end_word.next_is)

  not-grows : {Head : ℕ → ℕ → Type 0} → ((i j : ℕ) → Head i j → i ≤ j) → (i j : ℕ) → Not t Head i j → i ≤ j
  not-grows head i j w = omega (arith, w.not_word.next_is, head w.head_at j w.head)

  subject-taken : (level i j : ℕ) (x : Option Expr) → SubjectAt t level i j x → Taken words i j (if_any (expr_fits words) x)
  subject-taken level i j x (grammar.truth w) = record { grows = omega (arith, w.next_is); fit = λ within. refl }
  subject-taken level i j x (grammar.subject {x = y} w) =
      let taken = operand-at words t level i j y w in
      record { grows = taken.grows; fit = λ within. fits-One words y ∙ taken.fit within }

  when-taken : (level : ℕ) (x : Option Expr) (i j : ℕ) (c : Condition) → WhenAt t level x i j c → TakenBy words i j (if_any (expr_fits words) x) (condition_fits words c)
  when-taken level x i j c (WhenAt.condition {m = m} word read) =
      let taken = condition-at words t level m j c read in
      record { grows = omega (arith, word.next_is, taken.grows); fit = λ within given. taken.fit within }
  when-taken level x i j c (WhenAt.operand {m = m} {x = z} {y = y} word read) =
      let taken = operand-at words t level m j y read in
      record {
        grows = omega (arith, word.next_is, taken.grows);
        fit = λ within given. equality-built words z y m j (part-taken words m j taken.grows within) given (taken.fit within);
      }

  whens-taken : (level : ℕ) (x : Option Expr) (i j : ℕ) (c : Condition) → WhensAt t level x i j c → TakenBy words i j (if_any (expr_fits words) x) (condition_fits words c)
  whens-taken level x i j c w =
      let first = when-taken level x i w.more_at w.first w.first_read in
      let item = λ (a : Condition) (i j : ℕ) (b : Condition) (read : WhenAt t level x i j b). when-taken level x i j b read in
      let before = if_any (expr_fits words) x in
      let later : w.more_at ≤ j = many-grows words before (condition_fits words) (condition_fits words) item (either-built words) w.more_read in
      record {
        grows = omega (arith, first.grows, later);
        fit = λ within given.
            many-fits words before (condition_fits words) (condition_fits words) item (either-built words) w.more_read within given
            (first.fit (omega (arith, later, within)) given);
      }

  -- ---- over what reads as a list of statements

  module _ (Lists : Spot → Spot → List Statement → Type 0)
      (lists : (s last : Spot) (list : List Statement) → Lists s last list → Taken words s.at last.at (list_fits words list))
    where
      body-taken : (s last : Spot) (list : List Statement) → Body t Lists s last list → Taken words s.at last.at (list_fits words list)
      body-taken s last list (Body.next_sentence {m = m} {j = j} first second) =
          let grows : s.at < j = omega (arith, first.next_is, second.next_is) in
          record { grows = grows; fit = λ within. one-built s j form.NextSentence grows within (folds.fits-NextSentence words) }
      body-taken s last list (Body.listed w) = lists s last list w

      other-passed : (s last : Spot) (list : List Statement) → Other t Lists s last list → Passed words s.at last.at (list_fits words list)
      other-passed s last list (Other.no_other none) = record { grows = omega arith; fit = λ within. refl }
      other-passed s last list (Other.other {m = m} word body) =
          let taken = body-taken (spot m s.number) last list body in
          record { grows = omega (arith, word.next_is, taken.grows); fit = taken.fit }

      if-taken : (level : ℕ) (s last : Spot) (list : List Statement) → If t Lists level s last list → Taken words s.at last.at (list_fits words list)
      if-taken level s last list w =
          let test = condition-at words t level w.test_at w.then_at w.test w.test_read in
          let then = maybe-word-grows words t w.then_at w.body_at w.then_word in
          let first = body-taken (spot w.body_at (s.number + 1)) w.other_spot w.first w.first_read in
          let second = other-passed w.other_spot w.end_spot w.second w.second_read in
          let end = maybe-word-grows words t w.end_spot.at last.at w.end_word in
          let grows : s.at < last.at = omega (arith, w.verb.next_is, test.grows, then, first.grows, second.grows, end) in
          record {
            grows = grows;
            fit = λ within.
                ap (list_fits words) w.is
                ∙ one-built s last.at (form.If w.test w.first w.second) grows within
                (folds.fits-If words w.test w.first w.second
                ∙ and_3 (condition_fits words w.test) (list_fits words w.first) (list_fits words w.second)
                (test.fit (omega (arith, then, first.grows, second.grows, end, within)))
                (first.fit (omega (arith, second.grows, end, within)))
                (second.fit (omega (arith, end, within))));
          }

      phrase-passed : {Head : ℕ → ℕ → Type 0} → ((i j : ℕ) → Head i j → i ≤ j) → (s last : Spot) (x : Option (List Statement)) → Phrase t Lists Head s last x
          → Passed words s.at last.at (if_any (list_fits words) x)
      phrase-passed head s last x (Phrase.no_phrase none) = record { grows = omega arith; fit = λ within. refl }
      phrase-passed head s last x (Phrase.phrase {m = m} {list = list} word read) =
          let taken = lists (spot m s.number) last list read in
          record { grows = omega (arith, head s.at m word, taken.grows); fit = taken.fit }

      read-taken : (level : ℕ) (s last : Spot) (list : List Statement) → Read t Lists level s last list → Taken words s.at last.at (list_fits words list)
      read-taken level s last list w =
          let name = name-taken words t.text w.name_at w.next_at w.name w.name_read in
          let next = maybe-word-grows words t w.next_at w.record_at w.next_word in
          let record_word = maybe-word-grows words t w.record_at w.into_at w.record_word in
          let into = maybe-place-passed words t level _ w.into_at w.phrase_at w.into w.into_read in
          let first = phrase-passed at-end-grows (spot w.phrase_at (s.number + 1)) w.not_spot w.first w.first_read in
          let second = phrase-passed (not-grows at-end-grows) w.not_spot w.end_spot w.second w.second_read in
          let end = maybe-word-grows words t w.end_spot.at last.at w.end_word in
          let grows : s.at < last.at = omega (arith, w.verb.next_is, name.grows, next, record_word, into.grows, first.grows, second.grows, end) in
          record {
            grows = grows;
            fit = λ within.
                ap (list_fits words) w.is
                ∙ one-built s last.at (form.Read w.name w.into (branch w.first w.second)) grows within
                (folds.fits-Read words w.name w.into (branch w.first w.second)
                ∙ and_from (if_any (place_fits words) w.into) (if_any (branch_fits words) (branch w.first w.second))
                (into.fit (omega (arith, first.grows, second.grows, end, within)))
                (branch-built words w.first w.second (first.fit (omega (arith, second.grows, end, within))) (second.fit (omega (arith, end, within)))));
          }

      inline-taken : (level : ℕ) (s last : Spot) (list : List Statement) → Inline t Lists level s last list → Taken words s.at last.at (list_fits words list)
      inline-taken level s last list w =
          let control = control-passed words t level w.control_at w.body_at w.control w.control_read in
          let body = lists (spot w.body_at (s.number + 1)) w.end_spot w.body w.body_read in
          let grows : s.at < last.at = omega (arith, w.verb.next_is, control.grows, body.grows, w.end_word.next_is) in
          record {
            grows = grows;
            fit = λ within.
                ap (list_fits words) w.is
                ∙ one-built s last.at (form.Perform None w.body w.control) grows within
                (folds.fits-Perform words None w.body w.control
                ∙ and_from (list_fits words w.body) (control_fits words w.control)
                (body.fit (omega (arith, w.end_word.next_is, within)))
                (control.fit (omega (arith, body.grows, w.end_word.next_is, within))));
          }

      group-taken : (level : ℕ) (x : Option Expr) (start : ℕ) (s last : Spot) (g : Group) → start ≤ s.at → GroupAt t Lists level x start s last g
          → TakenBy words s.at last.at (if_any (expr_fits words) x) (group_fits words g)
      group-taken level x start s last g begins w =
          let tests = whens-taken level x s.at w.body_at g.test w.whens_read in
          let body = body-taken (spot w.body_at (s.number + 1)) last g.body w.body_read in
          record {
            grows = omega (arith, tests.grows, body.grows);
            fit = λ within given.
                and_3 (nat_lt g.at words) (condition_fits words g.test) (list_fits words g.body)
                (lt-ltb g.at words (omega (arith, w.at_is, begins, tests.grows, body.grows, within)))
                (tests.fit (omega (arith, body.grows, within)) given)
                (body.fit within);
          }

      groups-grow : (level : ℕ) (x : Option Expr) (gs : List Group) (s last : Spot) (all : List Group) → Groups t Lists level x gs s last all → s.at ≤ last.at
      groups-grow level x gs s last all (Groups.no_more none) = omega arith
      groups-grow level x gs s last all (Groups.one_more {m = m} {g = g} first others) =
          omega (arith, (group-taken level x s.at s m g (omega arith) first).grows, groups-grow level x (with_last gs g) m last all others)

      groups-fit : (level : ℕ) (x : Option Expr) (gs : List Group) (s last : Spot) (all : List Group) → Groups t Lists level x gs s last all
          → last.at ≤ words → if_any (expr_fits words) x ≡ true → all_true (map (group_fits words) gs) ≡ true → all_true (map (group_fits words) all) ≡ true
      groups-fit level x gs s last all (Groups.no_more none) within given fit = fit
      groups-fit level x gs s last all (Groups.one_more {m = m} {g = g} first others) within given fit =
          groups-fit level x (with_last gs g) m last all others within given
          (all-last (group_fits words) gs g fit
          ((group-taken level x s.at s m g (omega arith) first).fit (omega (arith, groups-grow level x (with_last gs g) m last all others, within)) given))

      when-other-passed : (s last : Spot) (list : List Statement) → WhenOther t Lists s last list → Passed words s.at last.at (list_fits words list)
      when-other-passed s last list (WhenOther.no_when none) = record { grows = omega arith; fit = λ within. refl }
      when-other-passed s last list (WhenOther.when {j = j} first second body) =
          let taken = body-taken (spot j s.number) last list body in
          record { grows = omega (arith, first.next_is, second.next_is, taken.grows); fit = taken.fit }

      evaluate-taken : (level : ℕ) (s last : Spot) (list : List Statement) → Evaluate t Lists level s last list → Taken words s.at last.at (list_fits words list)
      evaluate-taken level s last list w =
          let subject = subject-taken level w.subject_at w.when_at w.x w.subject_read in
          let first = group-taken level w.x s.at (spot w.when_at s.number) w.more_spot w.first (omega (arith, w.verb.next_is, subject.grows)) w.first_read in
          let others = groups-grow level w.x (w.first ∷ []) w.more_spot w.other_spot w.groups w.groups_read in
          let other = when-other-passed w.other_spot w.end_spot w.other w.other_read in
          let end = maybe-word-grows words t w.end_spot.at last.at w.end_word in
          record {
            grows = omega (arith, w.verb.next_is, subject.grows, first.grows, others, other.grows, end);
            fit = λ within.
                (let given = subject.fit (omega (arith, first.grows, others, other.grows, end, within)) in
                ap (list_fits words) w.is
                ∙ tied-built words t.program last.at w.groups w.other (le-leb last.at words within)
                (groups-fit level w.x (w.first ∷ []) w.more_spot w.other_spot w.groups w.groups_read (omega (arith, other.grows, end, within)) given
                (all-one (group_fits words) w.first (first.fit (omega (arith, others, other.grows, end, within)) given)))
                (other.fit (omega (arith, end, within))));
          }

      nested-taken : (level : ℕ) (s last : Spot) (list : List Statement) → Nested t Lists level s last list → Taken words s.at last.at (list_fits words list)
      nested-taken level s last list (Nested.if_read w) = if-taken level s last list w
      nested-taken level s last list (Nested.evaluate w) = evaluate-taken level s last list w
      nested-taken level s last list (Nested.read w) = read-taken level s last list w
      nested-taken level s last list (Nested.perform w) = inline-taken level s last list w

      compute-taken : (level : ℕ) (s last : Spot) (list : List Statement) → Compute t Lists level s last list → Taken words s.at last.at (list_fits words list)
      compute-taken level s last list w =
          let computing = computing-taken words t level s.at w.size_at w.computing w.computing_read in
          let first = phrase-passed on-size-grows (spot w.size_at (number_after_all w.computing s.number)) w.not_spot w.first w.first_read in
          let second = phrase-passed (not-grows on-size-grows) w.not_spot w.end_spot w.second w.second_read in
          let end = maybe-word-grows words t w.end_spot.at last.at w.end_words in
          let grows : s.at < last.at = omega (arith, computing.grows, first.grows, second.grows, end) in
          record {
            grows = grows;
            fit = λ within.
                ap (list_fits words) w.is
                ∙ statements-built words t.program s.at last.at s.number w.computing (branch w.first w.second) (part-taken words s.at last.at grows within)
                (computing.fit (omega (arith, first.grows, second.grows, end, within)))
                (branch-built words w.first w.second (first.fit (omega (arith, second.grows, end, within))) (second.fit (omega (arith, end, within))));
          }

      statement-taken : (level : ℕ) (s last : Spot) (list : List Statement) → StatementAt t Lists level s last list → Taken words s.at last.at (list_fits words list)
      statement-taken level s last list (StatementAt.simple {j = j} {fs = fs} w) =
          let taken = simple-taken words t level s.at j fs w in
          record {
            grows = taken.grows;
            fit = λ within. numbered-built words t.program s.at j s.number fs (part-taken words s.at j taken.grows within) (taken.fit within);
          }
      statement-taken level s last list (StatementAt.compute w) = compute-taken level s last list w
      statement-taken level s last list (StatementAt.nested some w) = nested-taken (level - 1) s last list w

      more-grows : (level : ℕ) (list : List Statement) (s last : Spot) (all : List Statement) → More t Lists level list s last all → s.at ≤ last.at
      more-grows level list s last all (More.no_statement none) = omega arith
      more-grows level list s last all (More.one_statement {read = read} {m = m} first others) =
          omega (arith, (statement-taken level s m read first).grows, more-grows level (list ++ read) m last all others)

      more-fits : (level : ℕ) (list : List Statement) (s last : Spot) (all : List Statement) → More t Lists level list s last all
          → last.at ≤ words → list_fits words list ≡ true → list_fits words all ≡ true
      more-fits level list s last all (More.no_statement none) within fit = fit
      more-fits level list s last all (More.one_statement {read = read} {m = m} first others) within fit =
          more-fits level (list ++ read) m last all others within
          (all-joined (statement_fits words) list read fit
          ((statement-taken level s m read first).fit (omega (arith, more-grows level (list ++ read) m last all others, within))))

      statements-taken : (level : ℕ) (s last : Spot) (list : List Statement) → StatementsAt t Lists level s last list → Taken words s.at last.at (list_fits words list)
      statements-taken level s last list w =
          let first = statement-taken level s w.more_spot w.first w.first_read in
          let later = more-grows level w.first w.more_spot last list w.more_read in
          record {
            grows = omega (arith, first.grows, later);
            fit = λ within. more-fits level w.first w.more_spot last list w.more_read within (first.fit (omega (arith, later, within)));
          }

  inside-taken : (level : ℕ) (s last : Spot) (list : List Statement) → Inside t level s last list → Taken words s.at last.at (list_fits words list)
  inside-taken zero s last list w = absurd w
  inside-taken (suc level) s last list w = statements-taken (Inside t level) (inside-taken level) level s last list w

  pub sentence-taken : (level : ℕ) (s last : Spot) (x : Sentence) → IsSentence t level s last x → Taken words s.at last.at (sentence_fits words x)
  sentence-taken level s last x w =
      let taken = statements-taken (Inside t level) (inside-taken level) level s w.period_spot x.statements w.statements_read in
      record {
        grows = omega (arith, taken.grows, w.period.next_is);
        fit = λ within. taken.fit (omega (arith, w.period.next_is, within));
      }
