-- What holds of the statements inside which no statement stands.
use Rattle.std.proofs.Common.{ℕ, ◌+◌, ◌<◌, ◌≤◌, ◌≡◌, refl, ap, ◌∙◌, Bool, true, List, [], ◌∷◌, map, Option, Some, arith}
use Rattle.std.proofs.lemmas.Bool.{and_from, and_parts}
use Rattle.cobol_syntax.specs.declared.place.Place.{Place}
use Rattle.cobol_syntax.specs.declared.expr.Operand.{Operand}
use Rattle.cobol_syntax.specs.declared.expr.Expr.{Expr}
use Rattle.cobol_syntax.specs.declared.cond.Condition.{Condition}
use Rattle.cobol_syntax.specs.declared.statement.Control.{Control}
use Rattle.cobol_syntax.specs.declared.statement.Form.{Form}
use Rattle.cobol_syntax.specs.declared.statement.Form.TheVariants as form
use Rattle.cobol_syntax.specs.declared.statement.Mode.{Mode}
use Rattle.cobol_syntax.specs.declared.statement.NamePair.{NamePair}
use Rattle.cobol_syntax.specs.declared.statement.Register.{Register}
use Rattle.cobol_syntax.specs.declared.statement.Vary.{Vary}
use Rattle.cond_reader.specs.declared.symbol.Symbol.{Symbol}
use Rattle.cond_reader.specs.Grammar.{Name}
use Rattle.proc_reader.specs.declared.files.Opened.{Opened}
use Rattle.proc_reader.specs.declared.keyword.Keyword.{Keyword}
use Rattle.proc_reader.specs.Source.{Source}
use Rattle.proc_reader.specs.Files as files
use Rattle.proc_reader.specs.Grammar.{Many, stop, more, Word, MaybeWord, MaybeMark, PlaceAt, OperandAt, ExprAt, ConditionAt, Move, Show, RegisterAt, Accept, GoTo, FileAt, Open, Close, MaybeOperand, MaybePlace, LinesAt, AdvanceAt, Write, RangeAt, SideAt, TestAt, VaryAt, TimesAt, ControlAt, Perform, Single, Simple}
use Rattle.proc_reader.specs.Grammar as grammar
use Rattle.tree_words.specs.Fits.{all_true, if_any, place_fits, operand_fits, expr_fits, condition_fits, vary_fits, control_fits, form_fits}
use Rattle.tree_words.proofs.Parts.{Taken, Passed, and_3, all-last, all-one}
use Rattle.tree_words.proofs.Exprs.{name-taken, place-taken, operand-taken, expr-taken}
use Rattle.tree_words.proofs.Conds.{condition-taken}
use Rattle.tree_words.proofs.StatementFolds as folds

-- as many items as there are
module _ (words : ℕ) {A B : Type 0} {Item : A → ℕ → ℕ → B → Type 0} {add : A → B → A} (fits_all : A → Bool) (fits_one : B → Bool)
    (item : (a : A) (i j : ℕ) (b : B) → Item a i j b → Taken words i j (fits_one b))
    (added : (a : A) (b : B) → fits_all a ≡ true → fits_one b ≡ true → fits_all (add a b) ≡ true)
  where
    pub many-grows : {a c : A} {i j : ℕ} → Many Item add a i j c → i ≤ j
    many-grows (stop none) = omega arith
    many-grows (more {a = a} {i = i} {m = m} {b = b} one others) = omega (arith, (item a i m b one).grows, many-grows others)

    pub many-fits : {a c : A} {i j : ℕ} → Many Item add a i j c → j ≤ words → fits_all a ≡ true → fits_all c ≡ true
    many-fits (stop none) within fit = fit
    many-fits (more {a = a} {i = i} {m = m} {b = b} one others) within fit =
        many-fits others within (added a b fit ((item a i m b one).fit (omega (arith, many-grows others, within))))

abbrev any : {A : Type 0} → A → Bool
any x = true

module _ (words : ℕ) (t : Source) where
  abbrev forms_fit : List Form → Bool
  forms_fit fs = all_true (map (form_fits words) fs)

  pub maybe-word-grows : {k : Keyword} (i j : ℕ) → MaybeWord t k i j → i ≤ j
  maybe-word-grows i j (grammar.given w) = omega (arith, w.next_is)
  maybe-word-grows i j (grammar.absent none) = omega arith

  maybe-mark-grows : {k : Symbol} (i j : ℕ) → MaybeMark t k i j → i ≤ j
  maybe-mark-grows i j (grammar.marked w) = omega (arith, w.next_is)
  maybe-mark-grows i j (grammar.unmarked none) = omega arith

  pub place-at : (level i j : ℕ) (p : Place) → PlaceAt t level i j p → Taken words i j (place_fits words p)
  place-at level i j p w = place-taken words t.text level i j p w.0

  pub operand-at : (level i j : ℕ) (x : Operand) → OperandAt t level i j x → Taken words i j (operand_fits words x)
  operand-at level i j x w = operand-taken words t.text level i j x w.0

  pub expr-at : (level i j : ℕ) (x : Expr) → ExprAt t level i j x → Taken words i j (expr_fits words x)
  expr-at level i j x w = expr-taken words t.text level i j x w.0

  pub condition-at : (level i j : ℕ) (c : Condition) → ConditionAt t level i j c → Taken words i j (condition_fits words c)
  condition-at level i j c w = condition-taken words t.text level i j c w.0

  moves-fit : (from : Operand) (places : List Place) → operand_fits words from ≡ true → all_true (map (place_fits words) places) ≡ true
      → forms_fit (map (form.Move from) places) ≡ true
  moves-fit from [] sender receivers = refl
  moves-fit from (p ∷ ps) sender receivers =
      let (first, others) = and_parts (place_fits words p) (all_true (map (place_fits words) ps)) receivers in
      and_from (form_fits words (form.Move from p)) (forms_fit (map (form.Move from) ps))
      (folds.fits-Move words from p ∙ and_from (operand_fits words from) (place_fits words p) sender first)
      (moves-fit from ps sender others)

  move-taken : (level i j : ℕ) (fs : List Form) → Move t level i j fs → Taken words i j (forms_fit fs)
  move-taken level i j fs w =
      let from = operand-at level w.from_at w.to_at w.from w.from_read in
      let first = place-at level w.first_at w.more_at w.first w.first_read in
      let fits_places = λ (ps : List Place). all_true (map (place_fits words) ps) in
      let item = λ (a : List Place) (i j : ℕ) (p : Place) (one : PlaceAt t level i j p). place-at level i j p one in
      let later : w.more_at ≤ j = many-grows words fits_places (place_fits words) item (all-last (place_fits words)) w.more_read in
      record {
        grows = omega (arith, w.verb.next_is, from.grows, w.to_word.next_is, first.grows, later);
        fit = λ within.
            ap forms_fit w.is
            ∙ moves-fit w.from w.places (from.fit (omega (arith, w.to_word.next_is, first.grows, later, within)))
            (many-fits words fits_places (place_fits words) item (all-last (place_fits words)) w.more_read within
            (all-one (place_fits words) w.first (first.fit (omega (arith, later, within)))));
      }

  show-taken : (level i j : ℕ) (f : Form) → Show t level i j f → Taken words i j (form_fits words f)
  show-taken level i j f w =
      let first = operand-at level w.first_at w.more_at w.first w.first_read in
      let fits_all = λ (xs : List Operand). all_true (map (operand_fits words) xs) in
      let item = λ (a : List Operand) (i j : ℕ) (x : Operand) (one : OperandAt t level i j x). operand-at level i j x one in
      let later : w.more_at ≤ j = many-grows words fits_all (operand_fits words) item (all-last (operand_fits words)) w.more_read in
      record {
        grows = omega (arith, w.verb.next_is, first.grows, later);
        fit = λ within.
            ap (form_fits words) w.is
            ∙ (folds.fits-Show words w.operands
            ∙ many-fits words fits_all (operand_fits words) item (all-last (operand_fits words)) w.more_read within
            (all-one (operand_fits words) w.first (first.fit (omega (arith, later, within)))));
      }

  register-grows : (i j : ℕ) (r : Register) → RegisterAt t i j r → i < j
  register-grows i j r (grammar.date w) = omega (arith, w.next_is)
  register-grows i j r (grammar.day w) = omega (arith, w.next_is)
  register-grows i j r (grammar.time w) = omega (arith, w.next_is)

  accept-taken : (level i j : ℕ) (f : Form) → Accept t level i j f → Taken words i j (form_fits words f)
  accept-taken level i j f w =
      let to = place-at level w.to_at w.from_at w.to w.to_read in
      let later = register-grows w.register_at j w.from w.from_read in
      record {
        grows = omega (arith, w.verb.next_is, to.grows, w.from_word.next_is, later);
        fit = λ within. ap (form_fits words) w.is ∙ (folds.fits-Accept words w.to w.from ∙ to.fit (omega (arith, w.from_word.next_is, later, within)));
      }

  go-to-taken : (i j : ℕ) (f : Form) → GoTo t i j f → Taken words i j (form_fits words f)
  go-to-taken i j f w =
      let name = name-taken words t.text w.name_at j w.name w.name_read in
      record {
        grows = omega (arith, w.verb.next_is, maybe-mark-grows w.to_at w.name_at w.to_word, name.grows);
        fit = λ within. ap (form_fits words) w.is ∙ folds.fits-GoTo words w.name;
      }

  -- ---- files

  file-taken : (m : Mode) (i j : ℕ) (x : Mode × List ℕ) → FileAt t m i j x → Taken words i j true
  file-taken m i j x (grammar.same {n = n} none name) = name-taken words t.text i j n name
  file-taken m i j x (grammar.another {n = n} mode name) =
      let taken = name-taken words t.text (i + 1) j n name in
      record { grows = omega (arith, taken.grows); fit = taken.fit }

  abbrev opened_fits : Opened → Bool
  opened_fits all = forms_fit all.forms

  opened-more : (all : Opened) (x : Mode × List ℕ) → opened_fits all ≡ true → true ≡ true → opened_fits (files.one_more all x) ≡ true
  unfolding files.one_more
  opened-more all x fit one = all-last (form_fits words) all.forms (form.Open (x.0) (x.1)) fit (folds.fits-Open words (x.0) (x.1))

  open-taken : (i j : ℕ) (fs : List Form) → Open t i j fs → Taken words i j (forms_fit fs)
  open-taken i j fs w =
      let first = name-taken words t.text (w.mode_at + 1) w.more_at w.first w.first_read in
      let item = λ (all : Opened) (i j : ℕ) (x : Mode × List ℕ) (one : FileAt t all.mode i j x). file-taken all.mode i j x one in
      let later : w.more_at ≤ j = many-grows words opened_fits any item opened-more w.more_read in
      record {
        grows = omega (arith, w.verb.next_is, first.grows, later);
        fit = λ within.
            ap forms_fit w.is
            ∙ many-fits words opened_fits any item opened-more w.more_read within (opened-more (record { mode = w.first_mode; forms = [] }) (w.first_mode, w.first) refl refl);
      }

  closes-fit : (names : List (List ℕ)) → forms_fit (map form.Close names) ≡ true
  closes-fit [] = refl
  closes-fit (n ∷ ns) = and_from (form_fits words (form.Close n)) (forms_fit (map form.Close ns)) (folds.fits-Close words n) (closes-fit ns)

  close-taken : (i j : ℕ) (fs : List Form) → Close t i j fs → Taken words i j (forms_fit fs)
  close-taken i j fs w =
      let first = name-taken words t.text w.first_at w.more_at w.first w.first_read in
      let item = λ (a : List (List ℕ)) (i j : ℕ) (n : List ℕ) (one : Name t.text i j n). name-taken words t.text i j n one in
      let later : w.more_at ≤ j = many-grows words any any item (λ a b x y. refl) w.more_read in
      record {
        grows = omega (arith, w.verb.next_is, first.grows, later);
        fit = λ within. ap forms_fit w.is ∙ closes-fit w.names;
      }

  maybe-operand-passed : (level : ℕ) (k : Keyword) (i j : ℕ) (x : Option Operand) → MaybeOperand t level k i j x → Passed words i j (if_any (operand_fits words) x)
  maybe-operand-passed level k i j x (grammar.no_operand none) = record { grows = omega arith; fit = λ within. refl }
  maybe-operand-passed level k i j x (grammar.operand {m = m} {x = y} word one) =
      let taken = operand-at level m j y one in
      record { grows = omega (arith, word.next_is, taken.grows); fit = taken.fit }

  pub maybe-place-passed : (level : ℕ) (k : Keyword) (i j : ℕ) (x : Option Place) → MaybePlace t level k i j x → Passed words i j (if_any (place_fits words) x)
  maybe-place-passed level k i j x (grammar.no_place none) = record { grows = omega arith; fit = λ within. refl }
  maybe-place-passed level k i j x (grammar.place {m = m} {x = y} word one) =
      let taken = place-at level m j y one in
      record { grows = omega (arith, word.next_is, taken.grows); fit = taken.fit }

  lines-taken : (level i j : ℕ) (x : Option Operand) → LinesAt t level i j x → Taken words i j (if_any (operand_fits words) x)
  lines-taken level i j x (grammar.page w) = record { grows = omega (arith, w.next_is); fit = λ within. refl }
  lines-taken level i j x (grammar.lines {m = m} {x = y} one word) =
      let taken = operand-at level i m y one in
      let later = maybe-word-grows m j word in
      record { grows = omega (arith, taken.grows, later); fit = λ within. taken.fit (omega (arith, later, within)) }

  advance-passed : (level i j : ℕ) (x : Option Operand) → AdvanceAt t level i j x → Passed words i j (if_any (operand_fits words) x)
  advance-passed level i j x (grammar.no_advance one other) = record { grows = omega arith; fit = λ within. refl }
  advance-passed level i j x (grammar.before {m = m} {n = n} word advancing read) =
      let taken = lines-taken level n j x read in
      record { grows = omega (arith, word.next_is, maybe-word-grows m n advancing, taken.grows); fit = taken.fit }
  advance-passed level i j x (grammar.after {m = m} {n = n} word advancing read) =
      let taken = lines-taken level n j x read in
      record { grows = omega (arith, word.next_is, maybe-word-grows m n advancing, taken.grows); fit = taken.fit }

  write-taken : (level i j : ℕ) (f : Form) → Write t level i j f → Taken words i j (form_fits words f)
  write-taken level i j f w =
      let name = name-taken words t.text w.name_at w.from_at w.name w.name_read in
      let from = maybe-operand-passed level _ w.from_at w.advance_at w.from w.from_read in
      let advance = advance-passed level w.advance_at w.end_at w.advance w.advance_read in
      let later = maybe-word-grows w.end_at j w.end_word in
      record {
        grows = omega (arith, w.verb.next_is, name.grows, from.grows, advance.grows, later);
        fit = λ within.
            ap (form_fits words) w.is
            ∙ (folds.fits-Write words w.name w.from w.advance
            ∙ and_from (if_any (operand_fits words) w.from) (if_any (operand_fits words) w.advance)
            (from.fit (omega (arith, advance.grows, later, within))) (advance.fit (omega (arith, later, within))));
      }

  -- ---- PERFORM

  range-grows : (i j : ℕ) (x : NamePair) → RangeAt t i j x → i < j
  range-grows i j x (grammar.single {n = n} name none) = (name-taken words t.text i j n name).grows
  range-grows i j x (grammar.thru {m = m} {l = l} {n = n} {p = p} first word last) =
      omega (arith, (name-taken words t.text i m n first).grows, word.next_is, (name-taken words t.text l j p last).grows)

  side-grows : (i j : ℕ) (b : Bool) → SideAt t i j b → i < j
  side-grows i j b (grammar.test_before w) = omega (arith, w.next_is)
  side-grows i j b (grammar.test_after w) = omega (arith, w.next_is)

  test-grows : (i j : ℕ) (b : Bool) → TestAt t i j b → i ≤ j
  test-grows i j b (grammar.no_test one other) = omega arith
  test-grows i j b (grammar.test {m = m} {n = n} with word side) = omega (arith, maybe-word-grows i m with, word.next_is, side-grows n j b side)

  vary-passed : (level i j : ℕ) (x : Option Vary) → VaryAt t level i j x → Passed words i j (if_any (vary_fits words) x)
  vary-passed level i j x (grammar.no_vary none) = record { grows = omega arith; fit = λ within. refl }
  vary-passed level i j x (grammar.vary {a = a} {b = b} {c = c} {d = d} {e = e} {item = item} {from = from} {by = by} word item_read from_word from_read by_word by_read) =
      let first = place-at level a b item item_read in
      let second = operand-at level c d from from_read in
      let third = operand-at level e j by by_read in
      record {
        grows = omega (arith, word.next_is, first.grows, from_word.next_is, second.grows, by_word.next_is, third.grows);
        fit = λ within.
            and_3 (place_fits words item) (operand_fits words from) (operand_fits words by)
            (first.fit (omega (arith, from_word.next_is, second.grows, by_word.next_is, third.grows, within)))
            (second.fit (omega (arith, by_word.next_is, third.grows, within)))
            (third.fit within);
      }

  times-taken : (level i j : ℕ) (x : Operand) → TimesAt t level i j x → Taken words i j (operand_fits words x)
  times-taken level i j x w =
      let taken = operand-at level i w.times_at x w.count in
      record { grows = omega (arith, taken.grows, w.times_word.next_is); fit = λ within. taken.fit (omega (arith, w.times_word.next_is, within)) }

  pub control-passed : (level i j : ℕ) (c : Control) → ControlAt t level i j c → Passed words i j (control_fits words c)
  control-passed level i j c (grammar.once none) = record { grows = omega arith; fit = λ within. refl }
  control-passed level i j c (grammar.counted {x = x} times) =
      let taken = times-taken level i j x times in
      record { grows = omega (arith, taken.grows); fit = taken.fit }
  control-passed level i j c (grammar.until {m = m} {n = n} {l = l} {is_after = is_after} {vary = vary} {c = test} side varying word condition) =
      let first = vary-passed level m n vary varying in
      let second = condition-at level l j test condition in
      record {
        grows = omega (arith, test-grows i m is_after side, first.grows, word.next_is, second.grows);
        fit = λ within.
            and_from (condition_fits words test) (if_any (vary_fits words) vary) (second.fit within) (first.fit (omega (arith, word.next_is, second.grows, within)));
      }

  perform-taken : (level i j : ℕ) (f : Form) → Perform t level i j f → Taken words i j (form_fits words f)
  perform-taken level i j f w =
      let earlier = range-grows w.range_at w.control_at w.range w.range_read in
      let control = control-passed level w.control_at j w.control w.control_read in
      record {
        grows = omega (arith, w.verb.next_is, earlier, control.grows);
        fit = λ within.
            ap (form_fits words) w.is
            ∙ (folds.fits-Perform words (Some w.range) [] w.control ∙ and_from true (control_fits words w.control) refl (control.fit within));
      }

  single-taken : (level i j : ℕ) (f : Form) → Single t level i j f → Taken words i j (form_fits words f)
  single-taken level i j f (grammar.perform w) = perform-taken level i j f w
  single-taken level i j f (grammar.go_to w) = go-to-taken i j f w
  single-taken level i j f (grammar.write w) = write-taken level i j f w
  single-taken level i j f (grammar.accept w) = accept-taken level i j f w
  single-taken level i j f (grammar.show w) = show-taken level i j f w
  single-taken level i j f (grammar.stop_run one other) = record { grows = omega (arith, one.next_is, other.next_is); fit = λ within. folds.fits-Stop words }
  single-taken level i j f (grammar.exit w) = record { grows = omega (arith, w.next_is); fit = λ within. folds.fits-Nothing words }
  single-taken level i j f (grammar.continue w) = record { grows = omega (arith, w.next_is); fit = λ within. folds.fits-Nothing words }

  pub simple-taken : (level i j : ℕ) (fs : List Form) → Simple t level i j fs → Taken words i j (forms_fit fs)
  simple-taken level i j fs (grammar.move w) = move-taken level i j fs w
  simple-taken level i j fs (grammar.open_files w) = open-taken i j fs w
  simple-taken level i j fs (grammar.close_files w) = close-taken i j fs w
  simple-taken level i j fs (grammar.single {f = f} w) =
      let taken = single-taken level i j f w in
      record { grows = taken.grows; fit = λ within. all-one (form_fits words) f (taken.fit within) }
