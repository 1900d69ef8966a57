-- What holds of places, operands and expressions that are read.
use Rattle.std.proofs.Common.{ℕ, zero, suc, ◌+◌, ◌<◌, nat_lt, ◌≡◌, refl, ap, ◌∙◌, Bool, true, List, map, Option, arith}
use Rattle.std.proofs.lemmas.Bool.{and_from}
use Rattle.cobol_syntax.specs.declared.place.Sub.{Sub}
use Rattle.cobol_syntax.specs.declared.place.Part.{Part}
use Rattle.cobol_syntax.specs.declared.place.Place.{Place}
use Rattle.cobol_syntax.specs.declared.expr.Operand.{Operand}
use Rattle.cobol_syntax.specs.declared.expr.Expr.{Expr}
use Rattle.cond_reader.specs.declared.symbol.Symbol.{Symbol}
use Rattle.cond_reader.specs.declared.expr.Operator.{Operator}
use Rattle.cond_reader.specs.declared.expr.Operator.TheVariants as op
use Rattle.cond_reader.specs.Text.{Text, spelling}
use Rattle.cond_reader.specs.Exprs.{operation, joined}
use Rattle.cond_reader.specs.Grammar.{Name, Names, Qualifier, IsSub, number, names, SubList, Between, MaybeSub, absent, given, StartAndLength, MaybeSubscripts, plain, subscripts, MaybeReference, uncut, cut, IsPlace}
use Rattle.cond_reader.specs.ExprGrammar.{After, Parenthesized, Atom, Factor, Term, Sum, Inside, IsExpr, IsOperand, itself}
use Rattle.cond_reader.specs.ExprGrammar as grammar
use Rattle.tree_words.specs.Fits.{all_true, if_any, is_part, is_numeral, sub_fits, cut_fits, place_fits, operand_fits, expr_fits}
use Rattle.tree_words.proofs.Folds.{fits-One, fits-Minus, fits-Add, fits-Sub, fits-Mul, fits-Div}
use Rattle.tree_words.proofs.Numerals.{numeral-fits}
use Rattle.tree_words.proofs.Parts.{Taken, Passed, and_3, all-last, all-one, part-taken, word-taken, chain-taken}

abbrev any : {A : Type 0} → A → Bool
any x = true

module _ (words : ℕ) (t : Text) where
  pub name-taken : (i j : ℕ) (n : List ℕ) → Name t i j n → Taken words i j true
  name-taken i j n w = record { grows = omega (arith, w.word.next_is); fit = λ within. refl }

  qualifier-taken : (i j : ℕ) (n : List ℕ) → Qualifier t i j n → Taken words i j true
  qualifier-taken i j n w = record {
    grows = omega (arith, w.of.next_is, (name-taken w.middle j n w.name).grows);
    fit = λ within. refl;
  }

  pub names-taken : (i j : ℕ) (ns : List (List ℕ)) → Names t i j ns → Taken words i j true
  names-taken = chain-taken words any any qualifier-taken (λ a b one other. refl) any name-taken (λ x fit. refl)

  pub sub-taken : (i j : ℕ) (x : Sub) → IsSub t i j x → Taken words i j (sub_fits words x)
  sub-taken i j x (number word value) =
      let grows : i < j = omega (arith, word.next_is) in
      record { grows = grows; fit = word-taken words i j grows }
  sub-taken i j x (names ns) = record { grows = (names-taken i j _ ns).grows; fit = λ within. refl }

  sub-list-taken : (i j : ℕ) (xs : List Sub) → SubList t i j xs → Taken words i j (all_true (map (sub_fits words) xs))
  sub-list-taken = chain-taken words (λ (xs : List Sub). all_true (map (sub_fits words) xs)) (sub_fits words) sub-taken
      (all-last (sub_fits words)) (sub_fits words) sub-taken (all-one (sub_fits words))

  pub between-taken : {A : Type 0} {level : ℕ} {Inner : ℕ → ℕ → A → Type 0} (fits : A → Bool)
      → ((i j : ℕ) (x : A) → Inner i j x → Taken words i j (fits x))
      → (i j : ℕ) (x : A) → Between t level Inner i j x → Taken words i j (fits x)
  between-taken fits inner i j x w = record {
    grows = omega (arith, w.open_mark.next_is, (inner w.start w.end x w.inner).grows, w.close_mark.next_is);
    fit = λ within. (inner w.start w.end x w.inner).fit (omega (arith, w.close_mark.next_is, within));
  }

  maybe-sub-passed : (i j : ℕ) (x : Option Sub) → MaybeSub t i j x → Passed words i j (if_any (sub_fits words) x)
  maybe-sub-passed i j x absent = record { grows = omega arith; fit = λ within. refl }
  maybe-sub-passed i j x (given {x = y} one) =
      let taken = sub-taken i j y one in
      record { grows = omega (arith, taken.grows); fit = taken.fit }

  reference-taken : (i j : ℕ) (p : Part) → StartAndLength t i j p → Taken words i j (cut_fits words p)
  reference-taken i j p w =
      let start = sub-taken i w.colon p.start w.start in
      let length = maybe-sub-passed w.middle j p.length w.length in
      record {
        grows = omega (arith, start.grows, w.mark.next_is, length.grows);
        fit = λ within. and_from (sub_fits words p.start) (if_any (sub_fits words) p.length) (start.fit (omega (arith, w.mark.next_is, length.grows, within))) (length.fit within);
      }

  pub subscripts-passed : (level i j : ℕ) (xs : List Sub) → MaybeSubscripts t level i j xs → Passed words i j (all_true (map (sub_fits words) xs))
  subscripts-passed level i j xs plain = record { grows = omega arith; fit = λ within. refl }
  subscripts-passed level i j xs (subscripts some) =
      let taken = between-taken (λ (xs : List Sub). all_true (map (sub_fits words) xs)) sub-list-taken i j xs some in
      record { grows = omega (arith, taken.grows); fit = taken.fit }

  cut-passed : (level i j : ℕ) (c : Option Part) → MaybeReference t level i j c → Passed words i j (if_any (cut_fits words) c)
  cut-passed level i j c uncut = record { grows = omega arith; fit = λ within. refl }
  cut-passed level i j c (cut {p = p} one) =
      let taken = between-taken (cut_fits words) reference-taken i j p one in
      record { grows = omega (arith, taken.grows); fit = taken.fit }

  pub place-taken : (level i j : ℕ) (p : Place) → IsPlace t level i j p → Taken words i j (place_fits words p)
  place-taken level i j p w =
      let ns = names-taken i w.after_names w.ns w.names in
      let subs = subscripts-passed level w.after_names w.after_subs w.xs w.subs in
      let reference = cut-passed level w.after_subs j w.c w.reference in
      let grows : i < j = omega (arith, ns.grows, subs.grows, reference.grows) in
      record {
        grows = grows;
        fit = λ within.
            ap (place_fits words) w.is
            ∙ and_3 (is_part words i j) (all_true (map (sub_fits words) w.xs)) (if_any (cut_fits words) w.c)
            (part-taken words i j grows within)
            (subs.fit (omega (arith, reference.grows, within)))
            (reference.fit within);
      }

  pub operand-taken : (level i j : ℕ) (x : Operand) → IsOperand t level i j x → Taken words i j (operand_fits words x)
  operand-taken level i j x (grammar.place {p = p} one) = place-taken level i j p one
  operand-taken level i j x (grammar.number {n = n} word value) =
      let grows : i < j = omega (arith, word.next_is) in
      record {
        grows = grows;
        fit = λ within. and_from (nat_lt i words) (is_numeral (n.0) (n.1)) (word-taken words i j grows within) (numeral-fits (spelling t i) n value);
      }
  operand-taken level i j x (grammar.literal word) =
      let grows : i < j = omega (arith, word.next_is) in
      record { grows = grows; fit = word-taken words i j grows }
  operand-taken level i j x (grammar.figurative byte next) =
      let grows : i < j = omega (arith, next) in
      record { grows = grows; fit = word-taken words i j grows }

-- ---- expressions

module _ (words : ℕ) where
  pub operation-fits : (operator : Operator) (a b : Expr) → expr_fits words a ≡ true → expr_fits words b ≡ true → expr_fits words (operation operator a b) ≡ true
  operation-fits op.Add a b one other = fits-Add words a b ∙ and_from (expr_fits words a) (expr_fits words b) one other
  operation-fits op.Sub a b one other = fits-Sub words a b ∙ and_from (expr_fits words a) (expr_fits words b) one other
  operation-fits op.Mul a b one other = fits-Mul words a b ∙ and_from (expr_fits words a) (expr_fits words b) one other
  operation-fits op.Div a b one other = fits-Div words a b ∙ and_from (expr_fits words a) (expr_fits words b) one other

  abbrev part_fits : Operator × Expr → Bool
  part_fits p = expr_fits words p.1

  joined-fits : (a : Expr) (p : Operator × Expr) → expr_fits words a ≡ true → part_fits p ≡ true → expr_fits words (joined a p) ≡ true
  joined-fits a p one other = operation-fits p.0 a p.1 one other

  module _ (t : Text) where
    after-taken : {operator : Symbol → Option Operator} {Part : ℕ → ℕ → Expr → Type 0}
        → ((i j : ℕ) (x : Expr) → Part i j x → Taken words i j (expr_fits words x))
        → (i j : ℕ) (p : Operator × Expr) → After t operator Part i j p → Taken words i j (part_fits p)
    after-taken part i j p w =
        let taken = part (i + 1) j (p.1) w.part in
        record { grows = omega (arith, taken.grows); fit = taken.fit }

    module _ (level : ℕ) (Inner : ℕ → ℕ → Expr → Type 0) (inner : (i j : ℕ) (x : Expr) → Inner i j x → Taken words i j (expr_fits words x)) where
      atom-taken : (i j : ℕ) (x : Expr) → Atom t (IsOperand t) level Inner i j x → Taken words i j (expr_fits words x)
      atom-taken i j x (grammar.operand {o = o} one) =
          let taken = operand-taken words t level i j o one in
          record { grows = taken.grows; fit = λ within. fits-One words o ∙ taken.fit within }
      atom-taken i j x (grammar.parenthesized w) =
          let taken = inner w.start w.end x w.within in
          record {
            grows = omega (arith, w.open_mark.next_is, taken.grows, w.close_mark.next_is);
            fit = λ within. taken.fit (omega (arith, w.close_mark.next_is, within));
          }

      factor-taken : (i j : ℕ) (x : Expr) → Factor t (IsOperand t) level Inner i j x → Taken words i j (expr_fits words x)
      factor-taken i j x (grammar.plus {k = k} sign one) =
          let taken = atom-taken k j x one in
          record { grows = omega (arith, sign.next_is, taken.grows); fit = taken.fit }
      factor-taken i j x (grammar.minus {k = k} {x = y} sign one) =
          let taken = atom-taken k j y one in
          record { grows = omega (arith, sign.next_is, taken.grows); fit = λ within. fits-Minus words y ∙ taken.fit within }
      factor-taken i j x (grammar.plain one) = atom-taken i j x one

      term-taken : (i j : ℕ) (x : Expr) → Term t (IsOperand t) level Inner i j x → Taken words i j (expr_fits words x)
      term-taken = chain-taken words (expr_fits words) part_fits (after-taken factor-taken) joined-fits (expr_fits words) factor-taken (λ x fit. fit)

      sum-taken : (i j : ℕ) (x : Expr) → Sum t (IsOperand t) level Inner i j x → Taken words i j (expr_fits words x)
      sum-taken = chain-taken words (expr_fits words) part_fits (after-taken term-taken) joined-fits (expr_fits words) term-taken (λ x fit. fit)

    inside-taken : (level i j : ℕ) (x : Expr) → Inside t (IsOperand t) level i j x → Taken words i j (expr_fits words x)
    inside-taken zero i j x w = absurd w
    inside-taken (suc level) i j x w = sum-taken level (Inside t (IsOperand t) level) (inside-taken level) i j x w

    pub expr-taken : (level i j : ℕ) (x : Expr) → IsExpr t (IsOperand t) level i j x → Taken words i j (expr_fits words x)
    expr-taken level = sum-taken level (Inside t (IsOperand t) level) (inside-taken level)
