-- Arithmetic statements are read as the grammar says, up to their size phrases.
use Rattle.std.proofs.Common.{◌≡◌, ℕ, ◌+◌, Bool, true, false, ◌<◌, ◌≤◌, ◌⊎◌, inl, inr, List, [], ◌∷◌, length, Option, Some, None, refl, ap, sym, subst, ◌∙◌, arith, if◌then◌else◌}
use Rattle.std.specs.Prelude.{◌&&◌}
use Rattle.cobol_syntax.specs.declared.place.Place.{Place}
use Rattle.cobol_syntax.specs.declared.expr.Operand.{Operand}
use Rattle.cobol_syntax.specs.declared.expr.Expr.{Expr}
use Rattle.cobol_syntax.specs.declared.expr.Expr.TheVariants as e
use Rattle.cond_reader.specs.declared.symbol.Symbol.TheVariants as s
use Rattle.cond_reader.specs.Places.{place}
use Rattle.cond_reader.specs.Exprs.{operand_at, expr}
use Rattle.cond_reader.proofs.Seen.{both_true}
use Rattle.proc_reader.specs.declared.arithmetic.Receiver.{Receiver}
use Rattle.proc_reader.specs.declared.arithmetic.Receivers.{Receivers}
use Rattle.proc_reader.specs.declared.arithmetic.Computing.{Computing}
use Rattle.proc_reader.specs.declared.keyword.Keyword.TheVariants as k
use Rattle.proc_reader.specs.declared.tree.Joining.{Joining}
use Rattle.proc_reader.specs.declared.tree.Joining.TheVariants as by
use Rattle.proc_reader.specs.Source.{Source, keyword, has, skip, after, after_symbol}
use Rattle.proc_reader.specs.Reading.{and_then}
use Rattle.proc_reader.specs.Trees.{joined}
use Rattle.proc_reader.specs.Arithmetic.{one_more, computing_of, is_single, receiver, more_receivers, receivers, more_summands, summed, giving, second, target, target_by, added, subtracted, multiplied, remainder, divided_by, into_by, divided_into, divided, set_to, computing}
use Rattle.proc_reader.specs.Grammar.{Many, Word, MaybeWord, PlaceAt, OperandAt, ExprAt}
use Rattle.proc_reader.specs.ArithmeticGrammar.{RoundedAt, ReceiverAt, ReceiversAt, SumAt, GivingAt, SecondAt, TargetAt, RemainderAt, QuotientAt, ComputingAt}
use Rattle.proc_reader.specs.ArithmeticGrammar.RoundedAt.{rounded, cut}
use Rattle.proc_reader.specs.ArithmeticGrammar.TargetAt.{entering, given}
use Rattle.proc_reader.specs.ArithmeticGrammar.RemainderAt.{no_remainder, remainder as some_remainder}
use Rattle.proc_reader.specs.ArithmeticGrammar.QuotientAt.{entering as entering_quotient, given as given_quotient}
use Rattle.proc_reader.specs.ArithmeticGrammar.ComputingAt.{add_giving, add_to, subtract, multiply, divide_into, divide_by, compute}
use Rattle.proc_reader.proofs.Steps.{part_of, word_of, if_cases, some_same, both_same, moved_to}
use Rattle.proc_reader.proofs.WordLaws.{word-here, has-is, has-true, after-sound, after-mark-sound, has-false, lacks}
use Rattle.proc_reader.proofs.Exact.{Exact, exact-place, exact-operand, exact-expr, many}

module _ (t : Source) where
  abbrev size : ℕ
  size = length t.text.kinds

  rounded-sound : (i : ℕ) → RoundedAt t i (skip t k.Rounded i) (has t k.Rounded i)
  unfolding skip
  rounded-sound i =
      elim (has t k.Rounded i) as (λ (b : Bool). has t k.Rounded i ≡ b → RoundedAt t i (if b then i + 1 else i) b) [
        | true ↦ λ e. rounded (word-here t k.Rounded i e)
        | false ↦ λ e. cut (has-false t k.Rounded i e)
      ] refl

  rounded-best : (i j : ℕ) (b : Bool) → RoundedAt t i j b → (has t k.Rounded i ≡ b) × (skip t k.Rounded i ≡ j)
  unfolding skip
  rounded-best i j _ (rounded w) =
      let is = has-is t k.Rounded i w.is_word in (is, ap (λ (b : Bool). if b then i + 1 else i) is ∙ sym w.next_is)
  rounded-best i _ _ (cut different) = let is = lacks t k.Rounded i different in (is, ap (λ (b : Bool). if b then i + 1 else i) is)

  rounded-grows : (i j : ℕ) (b : Bool) → RoundedAt t i j b → i ≤ j
  rounded-grows i j _ (rounded w) = omega (arith, w.next_is)
  rounded-grows i _ _ (cut different) = omega arith

  receiver-sound : (level i j : ℕ) (r : Receiver) → receiver t level i ≡ Some (r, j) → ReceiverAt t level i j r
  unfolding receiver
  receiver-sound level i j r h =
      let a = part_of _ _ _ h in
      let w : ReceiverAt t level i (skip t k.Rounded a.end) (record { place = a.value; rounded = has t k.Rounded a.end }) = record {
        rounded_at = a.end;
        place_read = (exact-place t.text level).sound i a.end a.value a.read;
        rounded_read = rounded-sound a.end;
      } in
      moved_to (ReceiverAt t level) i (skip t k.Rounded a.end) j (record { place = a.value; rounded = has t k.Rounded a.end }) r w a.rest

  receiver-best : (level i j : ℕ) (r : Receiver) → ReceiverAt t level i j r → receiver t level i ≡ Some (r, j)
  unfolding receiver
  receiver-best level i j r w =
      let b = rounded-best w.rounded_at j r.rounded w.rounded_read in
      ap (λ o. and_then o (λ (p : Place) (next : ℕ). Some (record { place = p; rounded = has t k.Rounded next }, skip t k.Rounded next))) ((exact-place t.text level).best i w.rounded_at r.place w.place_read)
      ∙ ap (λ (x : Bool). Some (record { place = r.place; rounded = x }, skip t k.Rounded w.rounded_at)) b.0
      ∙ ap (λ (n : ℕ). Some (r, n)) b.1

  receiver-moves : (level i j : ℕ) (r : Receiver) → ReceiverAt t level i j r → (i < j) × (i < size)
  receiver-moves level i j r w =
      let forth = (exact-place t.text level).moves i w.rounded_at r.place w.place_read in
      let less : i < j = omega (arith, forth, rounded-grows w.rounded_at j r.rounded w.rounded_read) in
      (less, forth.1)

  exact-receiver : (level : ℕ) → Exact size (receiver t level) (ReceiverAt t level)
  exact-receiver level = record { sound = receiver-sound level; best = receiver-best level; moves = receiver-moves level }

  receivers-many : (level : ℕ) (first : Receivers) (i : ℕ)
      → Many (λ _. ReceiverAt t level) one_more first i (more_receivers t level first i).1 (more_receivers t level first i).0
  unfolding more_receivers
  receivers-many level first i = many size (λ _. receiver t level) (λ _. ReceiverAt t level) one_more (λ _. exact-receiver level) size first i (omega arith)

  receivers-sound : (level i j : ℕ) (all : Receivers) → receivers t level i ≡ Some (all, j) → ReceiversAt t level i j all
  unfolding receivers
  receivers-sound level i j all h =
      let a = part_of _ _ _ h in
      let first : Receivers = record { before = []; last = a.value } in
      let more = more_receivers t level first a.end in
      let w : ReceiversAt t level i more.1 more.0 = record {
        more_at = a.end;
        first = a.value;
        first_read = receiver-sound level i a.end a.value a.read;
        more_read = receivers-many level first a.end;
      } in
      moved_to (ReceiversAt t level) i more.1 j more.0 all w a.rest

  sum-many : (level : ℕ) (first : Expr) (i : ℕ)
      → Many (λ _. OperandAt t level) (joined by.Add) first i (more_summands t level first i).1 (more_summands t level first i).0
  unfolding more_summands
  sum-many level first i =
      many size (λ _. operand_at t.text level) (λ _. OperandAt t level) (joined by.Add) (λ _. exact-operand t.text level) size first i (omega arith)

  sum-sound : (level i j : ℕ) (x : Expr) → summed t level i ≡ Some (x, j) → SumAt t level i j x
  unfolding summed
  sum-sound level i j x h =
      let a = part_of _ _ _ h in
      let more = more_summands t level (e.One a.value) a.end in
      let w : SumAt t level i more.1 more.0 = record {
        more_at = a.end;
        first = a.value;
        first_read = (exact-operand t.text level).sound i a.end a.value a.read;
        more_read = sum-many level (e.One a.value) a.end;
      } in
      moved_to (SumAt t level) i more.1 j more.0 x w a.rest

  giving-sound : (level : ℕ) (value : Expr) (i j : ℕ) (c : Computing) → giving t level value i ≡ Some (c, j) → GivingAt t level value i j c
  unfolding giving
  giving-sound level value i j c h =
      let a = word_of _ _ _ h in
      let b = part_of _ _ _ a.rest in
      let w : GivingAt t level value i b.end (computing_of by.Alone value b.value) = record {
        receivers_at = a.end;
        all = b.value;
        giving_word = after-sound t k.Giving i a.end a.read;
        all_read = receivers-sound level a.end b.end b.value b.read;
        is = refl;
      } in
      moved_to (GivingAt t level value) i b.end j (computing_of by.Alone value b.value) c w b.rest

  second-sound : (level i j : ℕ) (x : Operand) → second t level i ≡ Some (x, j) → SecondAt t level i j x
  unfolding second
  second-sound level i j x h =
      let a = part_of (operand_at t.text level i) (λ (y : Operand) (next : ℕ). if has t k.Giving next then Some (y, next) else None) (x, j) h in
      elim (if_cases (has t k.Giving a.end) (Some (a.value, a.end)) None (Some (x, j)) a.rest) [
        | inl b ↦
            let w : SecondAt t level i a.end a.value = record {
              operand_read = (exact-operand t.text level).sound i a.end a.value a.read;
              giving_next = has-true t k.Giving a.end b.0;
            } in
            moved_to (SecondAt t level) i a.end j a.value x w b.1
        | inr b ↦ let none = b.1 in cc
      ]

  second-best : (level i j : ℕ) (x : Operand) → SecondAt t level i j x → second t level i ≡ Some (x, j)
  unfolding second
  second-best level i j x w =
      ap (λ o. and_then o (λ (y : Operand) (next : ℕ). if has t k.Giving next then Some (y, next) else None)) ((exact-operand t.text level).best i j x w.operand_read)
      ∙ ap (λ (b : Bool). if b then Some (x, j) else None) (has-is t k.Giving j w.giving_next)

  no-second : (level i : ℕ) → second t level i ≡ None → (m : ℕ) (x : Operand) → SecondAt t level i m x → ⊥
  no-second level i none m x w = let read = second-best level i m x w in cc

  target-by : (level : ℕ) (joining : Joining) (value : Expr) (i j : ℕ) (c : Computing) (r : Option (Operand × ℕ)) → second t level i ≡ r
      → target_by t level joining value i r ≡ Some (c, j) → TargetAt t level joining value i j c
  target-by level joining value i j c None none h =
      let a = part_of _ _ _ h in
      moved_to (TargetAt t level joining value) i a.end j (computing_of joining value a.value) c
      (entering (no-second level i none) (receivers-sound level i a.end a.value a.read)) a.rest
  target-by level joining value i j c (Some r) is h = given (second-sound level i r.1 r.0 is) (giving-sound level (joined joining value r.0) r.1 j c h)

  target-sound : (level : ℕ) (joining : Joining) (value : Expr) (i j : ℕ) (c : Computing) → target t level joining value i ≡ Some (c, j)
      → TargetAt t level joining value i j c
  unfolding target
  target-sound level joining value i j c h = target-by level joining value i j c (second t level i) refl h

  single-empty : (rs : List Receiver) → is_single rs ≡ true → rs ≡ []
  single-empty [] h = refl
  single-empty (r ∷ rs) h = cc

  empty-single : (rs : List Receiver) → rs ≡ [] → is_single rs ≡ true
  empty-single rs e = ap is_single e

  remainder-sound : (level : ℕ) (c : Computing) (i j : ℕ) (d : Computing) → remainder t level c i ≡ Some (d, j) → RemainderAt t level c i j d
  unfolding remainder
  remainder-sound level c i j d h =
      elim (if_cases (has t k.Remainder i && is_single c.receivers.before) _ _ _ h) [
        | inl a ↦
            let both = both_true (has t k.Remainder i) (is_single c.receivers.before) a.0 in
            let b = part_of _ _ _ a.1 in
            moved_to (RemainderAt t level c) i b.end j (record c { rest = Some b.value }) d
            (some_remainder (word-here t k.Remainder i both.0) (single-empty c.receivers.before both.1) ((exact-place t.text level).sound (i + 1) b.end b.value b.read)) b.rest
        | inr a ↦
            moved_to (RemainderAt t level c) i i j c d
            (no_remainder (λ is one. let both : (has t k.Remainder i && is_single c.receivers.before) ≡ true = ap (λ (b : Bool). b && is_single c.receivers.before) (has-is t k.Remainder i is) ∙ empty-single c.receivers.before one in let never = a.0 in cc)) a.1
      ]

  quotient-by : (level : ℕ) (value : Expr) (i j : ℕ) (c : Computing) (r : Option (Operand × ℕ)) → second t level i ≡ r
      → into_by t level value i r ≡ Some (c, j) → QuotientAt t level value i j c
  quotient-by level value i j c None none h =
      let a = part_of _ _ _ h in
      moved_to (QuotientAt t level value) i a.end j (computing_of by.Divide value a.value) c
      (entering_quotient (no-second level i none) (receivers-sound level i a.end a.value a.read)) a.rest
  quotient-by level value i j c (Some r) is h =
      let a = part_of _ _ _ h in
      given_quotient (second-sound level i r.1 r.0 is) (giving-sound level (joined by.Divide value r.0) r.1 a.end a.value a.read) (remainder-sound level a.value a.end j c a.rest)

  quotient-sound : (level : ℕ) (value : Expr) (i j : ℕ) (c : Computing) → divided_into t level value i ≡ Some (c, j) → QuotientAt t level value i j c
  unfolding divided_into
  quotient-sound level value i j c h = quotient-by level value i j c (second t level i) refl h

  added-sound : (level i m j : ℕ) (c : Computing) → Word t k.Add i m → added t level m ≡ Some (c, j) → ComputingAt t level i j c
  unfolding added
  added-sound level i m j c verb h =
      let a = part_of _ _ _ h in
      let sum = sum-sound level m a.end a.value a.read in
      elim (if_cases (has t k.Giving a.end) _ _ _ a.rest) [
        | inl b ↦ add_giving verb sum (giving-sound level a.value a.end j c b.1)
        | inr b ↦ let d = word_of _ _ _ b.1 in
            add_to verb sum (after-mark-sound t s.To a.end d.end d.read) (target-sound level by.Add a.value d.end j c d.rest)
      ]

  subtracted-sound : (level i m j : ℕ) (c : Computing) → Word t k.Subtract i m → subtracted t level m ≡ Some (c, j) → ComputingAt t level i j c
  unfolding subtracted
  subtracted-sound level i m j c verb h =
      let a = part_of _ _ _ h in
      let d = word_of _ _ _ a.rest in
      subtract verb (sum-sound level m a.end a.value a.read) (after-sound t k.From a.end d.end d.read) (target-sound level by.Subtract a.value d.end j c d.rest)

  multiplied-sound : (level i m j : ℕ) (c : Computing) → Word t k.Multiply i m → multiplied t level m ≡ Some (c, j) → ComputingAt t level i j c
  unfolding multiplied
  multiplied-sound level i m j c verb h =
      let a = part_of _ _ _ h in
      let d = word_of _ _ _ a.rest in
      multiply verb ((exact-operand t.text level).sound m a.end a.value a.read) (after-sound t k.By a.end d.end d.read) (target-sound level by.Multiply (e.One a.value) d.end j c d.rest)

  divided-sound : (level i m j : ℕ) (c : Computing) → Word t k.Divide i m → divided t level m ≡ Some (c, j) → ComputingAt t level i j c
  unfolding divided divided_by
  divided-sound level i m j c verb h =
      let a = part_of _ _ _ h in
      let first = (exact-operand t.text level).sound m a.end a.value a.read in
      elim (if_cases (has t k.Into a.end) _ _ _ a.rest) [
        | inl b ↦ divide_into verb first (word-here t k.Into a.end b.0) (quotient-sound level (e.One a.value) (a.end + 1) j c b.1)
        | inr b ↦
            let d = word_of _ _ _ b.1 in
            let f = part_of _ _ _ d.rest in
            let g = part_of _ _ _ f.rest in
            divide_by verb first (after-sound t k.By a.end d.end d.read) ((exact-operand t.text level).sound d.end f.end f.value f.read)
            (giving-sound level (joined by.DivideBy (e.One a.value) f.value) f.end g.end g.value g.read) (remainder-sound level g.value g.end j c g.rest)
      ]

  set-sound : (level i m j : ℕ) (c : Computing) → Word t k.Compute i m → set_to t level m ≡ Some (c, j) → ComputingAt t level i j c
  unfolding set_to
  set-sound level i m j c verb h =
      let a = part_of _ _ _ h in
      let b = word_of _ _ _ a.rest in
      let d = part_of _ _ _ b.rest in
      moved_to (ComputingAt t level) i d.end j (computing_of by.Alone d.value a.value) c
      (compute verb (receivers-sound level m a.end a.value a.read) (after-mark-sound t s.EqualSign a.end b.end b.read) ((exact-expr t.text level).sound b.end d.end d.value d.read)) d.rest

  pub computing-sound : (level i j : ℕ) (c : Computing) → computing t level i ≡ Some (c, j) → ComputingAt t level i j c
  unfolding computing
  computing-sound level i j c h =
      elim (if_cases (has t k.Add i) _ _ _ h) [
        | inl a ↦ added-sound level i (i + 1) j c (word-here t k.Add i a.0) a.1
        | inr a ↦ elim (if_cases (has t k.Subtract i) _ _ _ a.1) [
          | inl b ↦ subtracted-sound level i (i + 1) j c (word-here t k.Subtract i b.0) b.1
          | inr b ↦ elim (if_cases (has t k.Multiply i) _ _ _ b.1) [
            | inl d ↦ multiplied-sound level i (i + 1) j c (word-here t k.Multiply i d.0) d.1
            | inr d ↦ elim (if_cases (has t k.Divide i) _ _ _ d.1) [
              | inl f ↦ divided-sound level i (i + 1) j c (word-here t k.Divide i f.0) f.1
              | inr f ↦ let g = word_of _ _ _ f.1 in set-sound level i g.end j c (after-sound t k.Compute i g.end g.read) g.rest
            ]
          ]
        ]
      ]
