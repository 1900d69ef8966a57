-- What holds of arithmetic statements up to their size phrases.
use Rattle.std.proofs.Common.{ℕ, ◌≤◌, ◌≡◌, refl, ap, ◌∙◌, Bool, true, ◌&&◌, [], ◌∷◌, ◌++◌, map, arith}
use Rattle.std.proofs.lemmas.Bool.{and_from, and_parts}
use Rattle.cobol_syntax.specs.declared.expr.Operand.{Operand}
use Rattle.cobol_syntax.specs.declared.expr.Expr.{Expr}
use Rattle.cobol_syntax.specs.declared.expr.Expr.TheVariants as e
use Rattle.proc_reader.specs.declared.arithmetic.Receiver.{Receiver}
use Rattle.proc_reader.specs.declared.arithmetic.Receivers.{Receivers}
use Rattle.proc_reader.specs.declared.arithmetic.Computing.{Computing}
use Rattle.proc_reader.specs.declared.tree.Joining.{Joining}
use Rattle.proc_reader.specs.declared.tree.Joining.TheVariants as by
use Rattle.proc_reader.specs.Source.{Source}
use Rattle.proc_reader.specs.Trees.{joined, joined_expr}
use Rattle.proc_reader.specs.Arithmetic.{one_more, computing_of}
use Rattle.proc_reader.specs.Grammar.{OperandAt}
use Rattle.proc_reader.specs.ArithmeticGrammar.{RoundedAt, ReceiverAt, ReceiversAt, SumAt, GivingAt, SecondAt, TargetAt, RemainderAt, QuotientAt, ComputingAt}
use Rattle.proc_reader.specs.ArithmeticGrammar as grammar
use Rattle.tree_words.specs.Fits.{all_true, if_any, place_fits, operand_fits, expr_fits}
use Rattle.tree_words.proofs.Folds.{fits-One, fits-Add, fits-Sub, fits-Mul, fits-Div}
use Rattle.tree_words.proofs.Parts.{Taken, TakenBy, PassedBy, and_3, all-last}
use Rattle.tree_words.proofs.Simple.{many-grows, many-fits, place-at, operand-at, expr-at}

module _ (words : ℕ) where
  abbrev pub receiver_fits : Receiver → Bool
  receiver_fits r = place_fits words r.place

  abbrev pub receivers_fit : Receivers → Bool
  receivers_fit all = all_true (map receiver_fits all.before) && receiver_fits all.last

  abbrev pub computing_fits : Computing → Bool
  computing_fits c = expr_fits words c.value && (receivers_fit c.receivers && if_any (place_fits words) c.rest)

  joined-expr-fits : (joining : Joining) (a b : Expr) → expr_fits words a ≡ true → expr_fits words b ≡ true → expr_fits words (joined_expr joining a b) ≡ true
  joined-expr-fits by.Alone a b one other = one
  joined-expr-fits by.Add a b one other = fits-Add words a b ∙ and_from (expr_fits words a) (expr_fits words b) one other
  joined-expr-fits by.Subtract a b one other = fits-Sub words b a ∙ and_from (expr_fits words b) (expr_fits words a) other one
  joined-expr-fits by.Multiply a b one other = fits-Mul words a b ∙ and_from (expr_fits words a) (expr_fits words b) one other
  joined-expr-fits by.Divide a b one other = fits-Div words b a ∙ and_from (expr_fits words b) (expr_fits words a) other one
  joined-expr-fits by.DivideBy a b one other = fits-Div words a b ∙ and_from (expr_fits words a) (expr_fits words b) one other

  pub joined-fits : (joining : Joining) (value : Expr) (x : Operand) → expr_fits words value ≡ true → operand_fits words x ≡ true → expr_fits words (joined joining value x) ≡ true
  unfolding joined
  joined-fits joining value x one other = joined-expr-fits joining value (e.One x) one (fits-One words x ∙ other)

  one-more-fits : (all : Receivers) (r : Receiver) → receivers_fit all ≡ true → receiver_fits r ≡ true → receivers_fit (one_more all r) ≡ true
  unfolding one_more
  one-more-fits all r fit last =
      let (before, own) = and_parts (all_true (map receiver_fits all.before)) (receiver_fits all.last) fit in
      and_from (all_true (map receiver_fits (all.before ++ all.last ∷ []))) (receiver_fits r) (all-last receiver_fits all.before all.last before own) last

  computing-fits : (joining : Joining) (value : Expr) (all : Receivers) → expr_fits words value ≡ true → receivers_fit all ≡ true → computing_fits (computing_of joining value all) ≡ true
  computing-fits joining value all one other = and_3 (expr_fits words value) (receivers_fit all) true one other refl

  module _ (t : Source) where
    rounded-grows : (i j : ℕ) (b : Bool) → RoundedAt t i j b → i ≤ j
    rounded-grows i j b (grammar.rounded w) = omega (arith, w.next_is)
    rounded-grows i j b (grammar.cut none) = omega arith

    receiver-taken : (level i j : ℕ) (r : Receiver) → ReceiverAt t level i j r → Taken words i j (receiver_fits r)
    receiver-taken level i j r w =
        let place = place-at words t level i w.rounded_at r.place w.place_read in
        let later = rounded-grows w.rounded_at j r.rounded w.rounded_read in
        record { grows = omega (arith, place.grows, later); fit = λ within. place.fit (omega (arith, later, within)) }

    receivers-taken : (level i j : ℕ) (all : Receivers) → ReceiversAt t level i j all → Taken words i j (receivers_fit all)
    receivers-taken level i j all w =
        let first = receiver-taken level i w.more_at w.first w.first_read in
        let item = λ (a : Receivers) (i j : ℕ) (r : Receiver) (one : ReceiverAt t level i j r). receiver-taken level i j r one in
        let later : w.more_at ≤ j = many-grows words receivers_fit receiver_fits item one-more-fits w.more_read in
        record {
          grows = omega (arith, first.grows, later);
          fit = λ within.
              many-fits words receivers_fit receiver_fits item one-more-fits w.more_read within
              (and_from true (receiver_fits w.first) refl (first.fit (omega (arith, later, within))));
        }

    sum-taken : (level i j : ℕ) (sum : Expr) → SumAt t level i j sum → Taken words i j (expr_fits words sum)
    sum-taken level i j sum w =
        let first = operand-at words t level i w.more_at w.first w.first_read in
        let item = λ (a : Expr) (i j : ℕ) (x : Operand) (one : OperandAt t level i j x). operand-at words t level i j x one in
        let later : w.more_at ≤ j = many-grows words (expr_fits words) (operand_fits words) item (joined-fits by.Add) w.more_read in
        record {
          grows = omega (arith, first.grows, later);
          fit = λ within.
              many-fits words (expr_fits words) (operand_fits words) item (joined-fits by.Add) w.more_read within
              (fits-One words w.first ∙ first.fit (omega (arith, later, within)));
        }

    giving-taken : (level : ℕ) (value : Expr) (i j : ℕ) (c : Computing) → GivingAt t level value i j c → TakenBy words i j (expr_fits words value) (computing_fits c)
    giving-taken level value i j c w =
        let all = receivers-taken level w.receivers_at j w.all w.all_read in
        record {
          grows = omega (arith, w.giving_word.next_is, all.grows);
          fit = λ within given. ap computing_fits w.is ∙ computing-fits by.Alone value w.all given (all.fit within);
        }

    second-taken : (level i j : ℕ) (x : Operand) → SecondAt t level i j x → Taken words i j (operand_fits words x)
    second-taken level i j x w = operand-at words t level i j x w.operand_read

    target-taken : (level : ℕ) (joining : Joining) (value : Expr) (i j : ℕ) (c : Computing) → TargetAt t level joining value i j c → TakenBy words i j (expr_fits words value) (computing_fits c)
    target-taken level joining value i j c (TargetAt.entering {all = all} none read) =
        let taken = receivers-taken level i j all read in
        record { grows = taken.grows; fit = λ within given. computing-fits joining value all given (taken.fit within) }
    target-taken level joining value i j c (TargetAt.given {m = m} {x = x} second giving) =
        let first = second-taken level i m x second in
        let taken = giving-taken level (joined joining value x) m j c giving in
        record {
          grows = omega (arith, first.grows, taken.grows);
          fit = λ within given. taken.fit within (joined-fits joining value x given (first.fit (omega (arith, taken.grows, within))));
        }

    remainder-passed : (level : ℕ) (c : Computing) (i j : ℕ) (d : Computing) → RemainderAt t level c i j d → PassedBy words i j (computing_fits c) (computing_fits d)
    remainder-passed level c i j d (grammar.no_remainder none) = record { grows = omega arith; fit = λ within given. given }
    remainder-passed level c i j d (grammar.remainder {m = m} {p = p} word single place) =
        let taken = place-at words t level m j p place in
        record {
          grows = omega (arith, word.next_is, taken.grows);
          fit = λ within given.
              (let (value, others) = and_parts (expr_fits words c.value) (receivers_fit c.receivers && if_any (place_fits words) c.rest) given in
              let (all, _) = and_parts (receivers_fit c.receivers) (if_any (place_fits words) c.rest) others in
              and_3 (expr_fits words c.value) (receivers_fit c.receivers) (place_fits words p) value all (taken.fit within));
        }

    quotient-taken : (level : ℕ) (value : Expr) (i j : ℕ) (c : Computing) → QuotientAt t level value i j c → TakenBy words i j (expr_fits words value) (computing_fits c)
    quotient-taken level value i j c (QuotientAt.entering {all = all} none read) =
        let taken = receivers-taken level i j all read in
        record { grows = taken.grows; fit = λ within given. computing-fits by.Divide value all given (taken.fit within) }
    quotient-taken level value i j c (QuotientAt.given {m = m} {n = n} {x = x} {c = q} second giving left) =
        let first = second-taken level i m x second in
        let taken = giving-taken level (joined by.Divide value x) m n q giving in
        let rest = remainder-passed level q n j c left in
        record {
          grows = omega (arith, first.grows, taken.grows, rest.grows);
          fit = λ within given.
              rest.fit within
              (taken.fit (omega (arith, rest.grows, within))
              (joined-fits by.Divide value x given (first.fit (omega (arith, taken.grows, rest.grows, within)))));
        }

    pub computing-taken : (level i j : ℕ) (c : Computing) → ComputingAt t level i j c → Taken words i j (computing_fits c)
    computing-taken level i j c (grammar.add_giving {a = a} {b = b} {sum = sum} verb operands giving) =
        let first = sum-taken level a b sum operands in
        let taken = giving-taken level sum b j c giving in
        record {
          grows = omega (arith, verb.next_is, first.grows, taken.grows);
          fit = λ within. taken.fit within (first.fit (omega (arith, taken.grows, within)));
        }
    computing-taken level i j c (grammar.add_to {a = a} {b = b} {d = d} {sum = sum} verb operands word target) =
        let first = sum-taken level a b sum operands in
        let taken = target-taken level by.Add sum d j c target in
        record {
          grows = omega (arith, verb.next_is, first.grows, word.next_is, taken.grows);
          fit = λ within. taken.fit within (first.fit (omega (arith, word.next_is, taken.grows, within)));
        }
    computing-taken level i j c (grammar.subtract {a = a} {b = b} {d = d} {sum = sum} verb operands word target) =
        let first = sum-taken level a b sum operands in
        let taken = target-taken level by.Subtract sum d j c target in
        record {
          grows = omega (arith, verb.next_is, first.grows, word.next_is, taken.grows);
          fit = λ within. taken.fit within (first.fit (omega (arith, word.next_is, taken.grows, within)));
        }
    computing-taken level i j c (grammar.multiply {a = a} {b = b} {d = d} {x = x} verb operand word target) =
        let first = operand-at words t level a b x operand in
        let taken = target-taken level by.Multiply (e.One x) d j c target in
        record {
          grows = omega (arith, verb.next_is, first.grows, word.next_is, taken.grows);
          fit = λ within. taken.fit within (fits-One words x ∙ first.fit (omega (arith, word.next_is, taken.grows, within)));
        }
    computing-taken level i j c (grammar.divide_into {a = a} {b = b} {d = d} {x = x} verb operand word quotient) =
        let first = operand-at words t level a b x operand in
        let taken = quotient-taken level (e.One x) d j c quotient in
        record {
          grows = omega (arith, verb.next_is, first.grows, word.next_is, taken.grows);
          fit = λ within. taken.fit within (fits-One words x ∙ first.fit (omega (arith, word.next_is, taken.grows, within)));
        }
    computing-taken level i j c (grammar.divide_by {a = a} {b = b} {d = d} {m = m} {n = n} {x = x} {y = y} {q = q} verb operand word divisor giving left) =
        let first = operand-at words t level a b x operand in
        let second = operand-at words t level d m y divisor in
        let taken = giving-taken level (joined by.DivideBy (e.One x) y) m n q giving in
        let rest = remainder-passed level q n j c left in
        record {
          grows = omega (arith, verb.next_is, first.grows, word.next_is, second.grows, taken.grows, rest.grows);
          fit = λ within.
              rest.fit within
              (taken.fit (omega (arith, rest.grows, within))
              (joined-fits by.DivideBy (e.One x) y
              (fits-One words x ∙ first.fit (omega (arith, word.next_is, second.grows, taken.grows, rest.grows, within)))
              (second.fit (omega (arith, taken.grows, rest.grows, within)))));
        }
    computing-taken level i j c (grammar.compute {a = a} {b = b} {d = d} {all = all} {x = x} verb receivers word value) =
        let first = receivers-taken level a b all receivers in
        let taken = expr-at words t level d j x value in
        record {
          grows = omega (arith, verb.next_is, first.grows, word.next_is, taken.grows);
          fit = λ within. computing-fits by.Alone x all (taken.fit within) (first.fit (omega (arith, word.next_is, taken.grows, within)));
        }
