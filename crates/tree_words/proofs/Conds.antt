-- What holds of conditions that are read.
use Rattle.std.proofs.Common.{ℕ, zero, suc, ◌<◌, ◌≤◌, nat_lt, nat_le, ◌≡◌, refl, sym, ap, ◌∙◌, Bool, true, false, ◌&&◌, map, Option, Some, None, arith}
use Rattle.std.proofs.lemmas.Bool.{and_from, and_parts}
use Rattle.cobol_syntax.specs.declared.place.Place.{Place}
use Rattle.cobol_syntax.specs.declared.expr.Expr.{Expr}
use Rattle.cobol_syntax.specs.declared.cond.Condition.{Condition, out-Condition}
use Rattle.cobol_syntax.specs.declared.cond.CondForm.{CondForm}
use Rattle.cobol_syntax.specs.declared.cond.CondForm.TheVariants as form
use Rattle.cond_reader.specs.declared.symbol.Symbol.{Symbol}
use Rattle.cond_reader.specs.declared.relation.Comparison.{Comparison}
use Rattle.cond_reader.specs.declared.relation.Last.{Last}
use Rattle.cond_reader.specs.declared.relation.Piece.{Piece}
use Rattle.cond_reader.specs.declared.relation.Predicate.{Predicate}
use Rattle.cond_reader.specs.declared.relation.Predicate.TheVariants as predicate
use Rattle.cond_reader.specs.Text.{Text}
use Rattle.cond_reader.specs.Relations.{condition, begin_of, end_of, negated_if, compared, related, asked, said, or_else, both, either, enclosed, denied}
use Rattle.cond_reader.specs.CondGrammar.{Then, Run, stop, more, Series, with_not, with_meaning, with_right, in_class, Maybe, MaybeNot, Lead, MaybeOrEqual, Operator, Rel, OneOf, Phrase, IsPredicate, IsNamed, Plain, MaybeRel, ShortenedBy, Shortened, Enclosed, Simple, Negation, Part, NextAnd, Conjunction, NextOr, Disjunction, Inside, IsPiece, IsCondition}
use Rattle.cond_reader.specs.CondGrammar as grammar
use Rattle.tree_words.specs.Fits.{all_true, if_any, is_part, sub_fits, expr_fits, question_fits, condition_fits}
use Rattle.tree_words.proofs.Folds.{fits-Relation, fits-Class, fits-Sign, fits-Named, fits-Not, fits-And, fits-Or, condition_out, fits-rolled}
use Rattle.tree_words.proofs.Parts.{Taken, TakenBy, and_3, part-taken}
use Rattle.tree_words.proofs.Exprs.{names-taken, subscripts-passed, place-taken, expr-taken}

module _ (words : ℕ) where
  abbrev last_fits : Option Last → Bool
  last_fits = if_any (λ (last : Last). expr_fits words last.subject)

  abbrev piece_fits : Piece → Bool
  piece_fits p = condition_fits words p.condition && last_fits p.last

  abbrev predicate_fits : Predicate → Bool
  predicate_fits (predicate.Related c right) = expr_fits words right
  predicate_fits (predicate.Signed is_negated z) = true

  -- ---- how conditions are built

  built : (i j : ℕ) (f : CondForm) → is_part words i j ≡ true → question_fits words f ≡ true → condition_fits words (condition i j f) ≡ true
  unfolding condition
  built i j f part fit = fits-rolled words i j f ∙ and_from (is_part words i j) (question_fits words f) part fit

  -- its part and its question
  taken_apart : (c : Condition) → condition_fits words c ≡ true → (is_part words (begin_of c) (end_of c) ≡ true) × (question_fits words (out-Condition c).form ≡ true)
  taken_apart c fit = and_parts (is_part words (begin_of c) (end_of c)) (question_fits words (out-Condition c).form) (sym (condition_out words c) ∙ fit)

  negated-built : (b : Bool) (i j : ℕ) (c : Condition) → is_part words i j ≡ true → condition_fits words c ≡ true → condition_fits words (negated_if b i j c) ≡ true
  unfolding negated_if
  negated-built false i j c part fit = fit
  negated-built true i j c part fit = built i j (form.Not c) part (fits-Not words c ∙ fit)

  compared-built : (i j : ℕ) (left : Expr) (c : Comparison) (right : Expr) → is_part words i j ≡ true → expr_fits words left ≡ true → expr_fits words right ≡ true
      → condition_fits words (compared i j left c right) ≡ true
  unfolding compared
  compared-built i j left c right part one other =
      negated-built c.is_negated i j _ part
      (negated-built c.is_opposite i j _ part
      (built i j (form.Relation left c.rel right) part (fits-Relation words left c.rel right ∙ and_from (expr_fits words left) (expr_fits words right) one other)))

  related-built : (i j : ℕ) (left : Expr) (c : Comparison) (right : Expr) → is_part words i j ≡ true → expr_fits words left ≡ true → expr_fits words right ≡ true
      → piece_fits (related i j left c right) ≡ true
  unfolding related
  related-built i j left c right part one other =
      and_from (condition_fits words (compared i j left c right)) (expr_fits words left) (compared-built i j left c right part one other) one

  asked-built : (i j : ℕ) (b : Bool) (f : CondForm) → is_part words i j ≡ true → question_fits words f ≡ true → piece_fits (asked i j b f) ≡ true
  unfolding asked
  asked-built i j b f part fit =
      and_from (condition_fits words (negated_if b i j (condition i j f))) true (negated-built b i j (condition i j f) part (built i j f part fit)) refl

  said-built : (i j : ℕ) (x : Expr) (p : Predicate) → is_part words i j ≡ true → expr_fits words x ≡ true → predicate_fits p ≡ true → piece_fits (said i j x p) ≡ true
  unfolding said
  said-built i j x (predicate.Related c right) part one other = related-built i j x c right part one other
  said-built i j x (predicate.Signed is_negated z) part one other = asked-built i j is_negated (form.Sign x z) part (fits-Sign words x z ∙ one)

  kept : (x y : Option Last) → last_fits x ≡ true → last_fits y ≡ true → last_fits (or_else x y) ≡ true
  kept None y one other = other
  kept (Some x) y one other = one

  -- from the begin of the one to the end of the other
  pub spanned : (a b : Condition) → condition_fits words a ≡ true → condition_fits words b ≡ true → is_part words (begin_of a) (end_of b) ≡ true
  spanned a b one other =
      let (first, _) = taken_apart a one in
      let (last, _) = taken_apart b other in
      let (begins, _) = and_parts (nat_lt (begin_of a) words) (nat_le (end_of a) words) first in
      let (_, ends) = and_parts (nat_lt (begin_of b) words) (nat_le (end_of b) words) last in
      and_from (nat_lt (begin_of a) words) (nat_le (end_of b) words) begins ends

  both-built : (a b : Piece) → piece_fits a ≡ true → piece_fits b ≡ true → piece_fits (both a b) ≡ true
  unfolding both
  both-built a b one other =
      let (first, left) = and_parts (condition_fits words a.condition) (last_fits a.last) one in
      let (second, right) = and_parts (condition_fits words b.condition) (last_fits b.last) other in
      let asks = fits-And words a.condition b.condition ∙ and_from (condition_fits words a.condition) (condition_fits words b.condition) first second in
      and_from (condition_fits words (condition (begin_of a.condition) (end_of b.condition) (form.And a.condition b.condition))) (last_fits (or_else b.last a.last))
      (built (begin_of a.condition) (end_of b.condition) (form.And a.condition b.condition) (spanned a.condition b.condition first second) asks)
      (kept b.last a.last right left)

  either-built : (a b : Piece) → piece_fits a ≡ true → piece_fits b ≡ true → piece_fits (either a b) ≡ true
  unfolding either
  either-built a b one other =
      let (first, left) = and_parts (condition_fits words a.condition) (last_fits a.last) one in
      let (second, right) = and_parts (condition_fits words b.condition) (last_fits b.last) other in
      let asks = fits-Or words a.condition b.condition ∙ and_from (condition_fits words a.condition) (condition_fits words b.condition) first second in
      and_from (condition_fits words (condition (begin_of a.condition) (end_of b.condition) (form.Or a.condition b.condition))) (last_fits (or_else b.last a.last))
      (built (begin_of a.condition) (end_of b.condition) (form.Or a.condition b.condition) (spanned a.condition b.condition first second) asks)
      (kept b.last a.last right left)

  enclosed-built : (i j : ℕ) (p : Piece) → is_part words i j ≡ true → piece_fits p ≡ true → piece_fits (enclosed i j p) ≡ true
  unfolding enclosed
  enclosed-built i j p part fit =
      let (asks, last) = and_parts (condition_fits words p.condition) (last_fits p.last) fit in
      let (_, question) = taken_apart p.condition asks in
      and_from (condition_fits words (condition i j (out-Condition p.condition).form)) (last_fits p.last) (built i j (out-Condition p.condition).form part question) last

  denied-built : (i j : ℕ) (p : Piece) → is_part words i j ≡ true → piece_fits p ≡ true → piece_fits (denied i j p) ≡ true
  unfolding denied
  denied-built i j p part fit =
      let (asks, last) = and_parts (condition_fits words p.condition) (last_fits p.last) fit in
      and_from (condition_fits words (condition i j (form.Not p.condition))) (last_fits p.last) (built i j (form.Not p.condition) part (fits-Not words p.condition ∙ asks)) last

-- ---- items one after the other, each as what stands before it allows

module _ (words : ℕ) {A B : Type 0} {Item : A → ℕ → ℕ → B → Type 0} {add : A → B → A} (fits_all : A → Bool) (fits_one : B → Bool)
    (item : (a : A) (i j : ℕ) (b : B) → Item a i j b → TakenBy words i j (fits_all a) (fits_one b))
    (added : (a : A) (b : B) → fits_all a ≡ true → fits_one b ≡ true → fits_all (add a b) ≡ true)
  where
    run-grows : {a c : A} {i j : ℕ} → Run Item add a i j c → i ≤ j
    run-grows stop = omega arith
    run-grows (more {a = a} {i = i} {k = k} {b = b} one others) = omega (arith, (item a i k b one).grows, run-grows others)

    run-fits : {a c : A} {i j : ℕ} → Run Item add a i j c → j ≤ words → fits_all a ≡ true → fits_all c ≡ true
    run-fits stop within fit = fit
    run-fits (more {a = a} {i = i} {k = k} {b = b} one others) within fit =
        run-fits others within (added a b fit ((item a i k b one).fit (omega (arith, run-grows others, within)) fit))

    series-taken : {First : ℕ → ℕ → A → Type 0} (before : Bool)
        → ((i j : ℕ) (x : A) → First i j x → TakenBy words i j before (fits_all x))
        → (i j : ℕ) (a : A) → Series First Item add i j a → TakenBy words i j before (fits_all a)
    series-taken before first i j a w =
        let taken = first i w.middle w.first w.one in
        record {
          grows = omega (arith, taken.grows, run-grows w.others);
          fit = λ within given. run-fits w.others within (taken.fit (omega (arith, run-grows w.others, within)) given);
        }

-- ---- words of relations

module _ (t : Text) where
  maybe-grows : {k : Symbol} (i j : ℕ) → Maybe t k i j → i ≤ j
  maybe-grows i j grammar.absent = omega arith
  maybe-grows i j (grammar.given w) = omega (arith, w.next_is)

  not-grows : (i j : ℕ) (b : Bool) → MaybeNot t i j b → i ≤ j
  not-grows i j b grammar.without = omega arith
  not-grows i j b (grammar.marked w) = omega (arith, w.next_is)

  lead-grows : (i j : ℕ) (b : Bool) → Lead t i j b → i ≤ j
  lead-grows i j b w = omega (arith, maybe-grows i w.middle w.is, not-grows w.middle j b w.not)

  equal-grows : (i j : ℕ) (b : Bool) → MaybeOrEqual t i j b → i ≤ j
  equal-grows i j b grammar.strict = omega arith
  equal-grows i j b (grammar.or_equal {k = k} {m = m} one other to) = omega (arith, one.next_is, other.next_is, maybe-grows m j to)

  operator-grows : (i j : ℕ) (c : Comparison) → Operator t i j c → i < j
  operator-grows i j c (grammar.mark means next) = omega (arith, next)
  operator-grows i j c (grammar.equal {k = k} word to) = omega (arith, word.next_is, maybe-grows k j to)
  operator-grows i j c (grammar.greater {k = k} {m = m} {b = b} word than or) = omega (arith, word.next_is, maybe-grows k m than, equal-grows m j b or)
  operator-grows i j c (grammar.less {k = k} {m = m} {b = b} word than or) = omega (arith, word.next_is, maybe-grows k m than, equal-grows m j b or)

  rel-grows : (i j : ℕ) (c : Comparison) → Rel t i j c → i < j
  rel-grows i j c w = omega (arith, lead-grows i w.middle w.first w.one, operator-grows w.middle j w.second w.other)

  phrase-grows : {A : Type 0} {meaning : Symbol → Option A} (i j : ℕ) (x : Bool × A) → Phrase t meaning i j x → i < j
  phrase-grows i j x w = omega (arith, lead-grows i w.middle w.first w.one, w.other.next_is)

  maybe-rel-grows : (before : Comparison) (i j : ℕ) (c : Comparison) → MaybeRel t before i j c → i ≤ j
  maybe-rel-grows before i j c grammar.left_out = omega arith
  maybe-rel-grows before i j c (grammar.written w) = omega (arith, rel-grows i j c w)

-- ---- conditions

module _ (words : ℕ) (t : Text) where
  predicate-taken : (level i j : ℕ) (p : Predicate) → IsPredicate t level i j p → Taken words i j (predicate_fits words p)
  predicate-taken level i j p (grammar.relation w) =
      let right = expr-taken words t level w.middle j w.second w.other in
      record {
        grows = omega (arith, rel-grows t i w.middle w.first w.one, right.grows);
        fit = λ within. ap (predicate_fits words) w.is ∙ right.fit within;
      }
  predicate-taken level i j p (grammar.sign_of {z = z} w) = record { grows = phrase-grows t i j z w; fit = λ within. refl }

  named-taken : (level i j : ℕ) (p : Piece) → IsNamed t level i j p → Taken words i j (piece_fits words p)
  named-taken level i j p w =
      let ns = names-taken words t i w.after_names w.ns w.names in
      let subs = subscripts-passed words t level w.after_names j w.xs w.subs in
      let grows : i < j = omega (arith, ns.grows, subs.grows) in
      let place : Place = record { names = w.ns; subs = w.xs; cut = None; at = i; end = j } in
      record {
        grows = grows;
        fit = λ within.
            let part = part-taken words i j grows within in
            ap (piece_fits words) w.is
            ∙ asked-built words i j false (form.Named place) part
            (fits-Named words place ∙ and_3 (is_part words i j) (all_true (map (sub_fits words) w.xs)) true part (subs.fit within) refl);
      }

  plain-taken : (level i j : ℕ) (p : Piece) → Plain t level i j p → Taken words i j (piece_fits words p)
  plain-taken level i j p (grammar.class_test w) =
      let place = place-taken words t level i w.middle w.first w.one in
      let later = phrase-grows t w.middle j w.second w.other in
      let grows : i < j = omega (arith, place.grows, later) in
      record {
        grows = grows;
        fit = λ within.
            ap (piece_fits words) w.is
            ∙ asked-built words i j (w.second.0) (form.Class w.first (w.second.1)) (part-taken words i j grows within)
            (fits-Class words w.first (w.second.1) ∙ place.fit (omega (arith, later, within)));
      }
  plain-taken level i j p (grammar.test w) =
      let left = expr-taken words t level i w.middle w.first w.one in
      let later = predicate-taken level w.middle j w.second w.other in
      let grows : i < j = omega (arith, left.grows, later.grows) in
      record {
        grows = grows;
        fit = λ within.
            ap (piece_fits words) w.is
            ∙ said-built words i j w.first w.second (part-taken words i j grows within) (left.fit (omega (arith, later.grows, within))) (later.fit within);
      }
  plain-taken level i j p (grammar.named w) = named-taken level i j p w

  shortened-taken : (level : ℕ) (last : Option Last) (i j : ℕ) (p : Piece) → Shortened t level last i j p → TakenBy words i j (last_fits words last) (piece_fits words p)
  shortened-taken level None i j p w = absurd w
  shortened-taken level (Some last) i j p w =
      let earlier = maybe-rel-grows t last.comparison i w.middle w.comparison w.rel in
      let right = expr-taken words t level w.middle j w.right w.expr in
      let grows : i < j = omega (arith, earlier, right.grows) in
      record {
        grows = grows;
        fit = λ within given.
            ap (piece_fits words) w.is ∙ related-built words i j last.subject w.comparison w.right (part-taken words i j grows within) given (right.fit within);
      }

  module _ (level : ℕ) (Inner : Option Last → ℕ → ℕ → Piece → Type 0)
      (inner : (last : Option Last) (i j : ℕ) (p : Piece) → Inner last i j p → TakenBy words i j (last_fits words last) (piece_fits words p))
    where
      enclosed-taken : (last : Option Last) (i j : ℕ) (p : Piece) → Enclosed t level Inner last i j p → TakenBy words i j (last_fits words last) (piece_fits words p)
      enclosed-taken last i j p w =
          let taken = inner last w.between.start w.between.end w.inner w.between.inner in
          let grows : i < j = omega (arith, w.between.open_mark.next_is, taken.grows, w.between.close_mark.next_is) in
          record {
            grows = grows;
            fit = λ within given.
                ap (piece_fits words) w.is
                ∙ enclosed-built words i j w.inner (part-taken words i j grows within) (taken.fit (omega (arith, w.between.close_mark.next_is, within)) given);
          }

      simple-taken : (last : Option Last) (i j : ℕ) (p : Piece) → Simple t level Inner last i j p → TakenBy words i j (last_fits words last) (piece_fits words p)
      simple-taken last i j p (grammar.plain w) =
          let taken = plain-taken level i j p w in
          record { grows = taken.grows; fit = λ within given. taken.fit within }
      simple-taken last i j p (grammar.parenthesized w) = enclosed-taken last i j p w

      negation-taken : (last : Option Last) (i j : ℕ) (p : Piece) → Negation t level Inner last i j p → TakenBy words i j (last_fits words last) (piece_fits words p)
      negation-taken last i j p (grammar.affirmed w) = simple-taken last i j p w
      negation-taken last i j p (grammar.denial {k = k} {p = q} word w) =
          let taken = simple-taken last k j q w in
          let grows : i < j = omega (arith, word.next_is, taken.grows) in
          record { grows = grows; fit = λ within given. denied-built words i j q (part-taken words i j grows within) (taken.fit within given) }

      part-read : (follows : Bool) (last : Option Last) (i j : ℕ) (p : Piece) → Part t level Inner follows last i j p → TakenBy words i j (last_fits words last) (piece_fits words p)
      part-read follows last i j p (grammar.full w) = negation-taken last i j p w
      part-read follows last i j p (grammar.shortened is w) = shortened-taken level last i j p w

      -- with what stands before all
      abbrev all_fit : Option Last → Piece → Bool
      all_fit last p = piece_fits words p && last_fits words last

      with-last : (last : Option Last) (i j : ℕ) (p : Piece) → TakenBy words i j (last_fits words last) (piece_fits words p) → TakenBy words i j (last_fits words last) (all_fit last p)
      with-last last i j p taken = record {
        grows = taken.grows;
        fit = λ within given. and_from (piece_fits words p) (last_fits words last) (taken.fit within given) given;
      }

      without-last : (last : Option Last) (i j : ℕ) (p : Piece) → TakenBy words i j (last_fits words last) (all_fit last p) → TakenBy words i j (last_fits words last) (piece_fits words p)
      without-last last i j p taken = record {
        grows = taken.grows;
        fit = λ within given. (and_parts (piece_fits words p) (last_fits words last) (taken.fit within given)).0;
      }

      newest : (last : Option Last) (p : Piece) → all_fit last p ≡ true → last_fits words (or_else p.last last) ≡ true
      newest last p fit =
          let (piece, given) = and_parts (piece_fits words p) (last_fits words last) fit in
          let (_, own) = and_parts (condition_fits words p.condition) (last_fits words p.last) piece in
          kept words p.last last own given

      joined-by : (last : Option Last) (make : Piece → Piece → Piece) → ((a b : Piece) → piece_fits words a ≡ true → piece_fits words b ≡ true → piece_fits words (make a b) ≡ true)
          → (a b : Piece) → all_fit last a ≡ true → piece_fits words b ≡ true → all_fit last (make a b) ≡ true
      joined-by last make made a b one other =
          let (piece, given) = and_parts (piece_fits words a) (last_fits words last) one in
          and_from (piece_fits words (make a b)) (last_fits words last) (made a b piece other) given

      next-and : (last : Option Last) (a : Piece) (i j : ℕ) (b : Piece) → NextAnd t level Inner (or_else a.last last) i j b → TakenBy words i j (all_fit last a) (piece_fits words b)
      next-and last a i j b w =
          let taken = part-read true (or_else a.last last) w.middle j b w.part in
          record { grows = omega (arith, w.word.next_is, taken.grows); fit = λ within given. taken.fit within (newest last a given) }

      conjunction-taken : (follows : Bool) (last : Option Last) (i j : ℕ) (p : Piece) → Conjunction t level Inner follows last i j p → TakenBy words i j (last_fits words last) (piece_fits words p)
      conjunction-taken follows last i j p w =
          without-last last i j p
          (series-taken words (all_fit last) (piece_fits words) (next-and last) (joined-by last both (both-built words)) (last_fits words last)
          (λ i j x one. with-last last i j x (part-read follows last i j x one)) i j p w)

      next-or : (last : Option Last) (a : Piece) (i j : ℕ) (b : Piece) → NextOr t level Inner (or_else a.last last) i j b → TakenBy words i j (all_fit last a) (piece_fits words b)
      next-or last a i j b w =
          let taken = conjunction-taken true (or_else a.last last) w.middle j b w.part in
          record { grows = omega (arith, w.word.next_is, taken.grows); fit = λ within given. taken.fit within (newest last a given) }

      disjunction-taken : (last : Option Last) (i j : ℕ) (p : Piece) → Disjunction t level Inner last i j p → TakenBy words i j (last_fits words last) (piece_fits words p)
      disjunction-taken last i j p w =
          without-last last i j p
          (series-taken words (all_fit last) (piece_fits words) (next-or last) (joined-by last either (either-built words)) (last_fits words last)
          (λ i j x one. with-last last i j x (conjunction-taken false last i j x one)) i j p w)

  inside-taken : (level : ℕ) (last : Option Last) (i j : ℕ) (p : Piece) → Inside t level last i j p → TakenBy words i j (last_fits words last) (piece_fits words p)
  inside-taken zero last i j p w = absurd w
  inside-taken (suc level) last i j p w = disjunction-taken level (Inside t level) (inside-taken level) last i j p w

  pub condition-taken : (level i j : ℕ) (c : Condition) → IsCondition t level i j c → Taken words i j (condition_fits words c)
  condition-taken level i j c w =
      let p : Piece = record { condition = c; last = w.last } in
      let taken = disjunction-taken level (Inside t level) (inside-taken level) None i j p w.reads in
      record { grows = taken.grows; fit = λ within. (and_parts (condition_fits words c) (last_fits words w.last) (taken.fit within refl)).0 }
