-- Pairs one after the other.
use Rattle.std.proofs.Common.{◌≡◌, ◌<◌, Bool, true, false, Option, Some, None, List, [], ◌∷◌, ◌++◌, length, refl, ap, sym, ◌∙◌, if◌then◌else◌}
use Rattle.std.specs.List.{AllByRecursion}
use Rattle.y2k_base.specs.declared.word.Word.{Word}
use Rattle.copy_origins.specs.declared.sign.Sign.TheVariants as s
use Rattle.copy_origins.specs.Signs.{is}
use Rattle.copy_origins.specs.declared.pairs.Pair.{Pair}
use Rattle.copy_origins.specs.Statement.{side_text, Exchange, exchange_then, IsExchange, exchanges_then, pairs_of, pair_of}
use Rattle.copy_origins.specs.Reads.{pair_at, IsFront, IsRun, IsPairs, HasNoPairs, ending_at}
use Rattle.y2k_base.proofs.Each.{each-more}
use Rattle.copy_origins.proofs.Signs.{some-eq}
use Rattle.copy_origins.proofs.Sides.{pair-takes, pair-found, PairCut, period-no-pair, exchange-longer}

then-more : (xs : List Exchange) (x : Exchange) (more : List Word) → exchanges_then (xs ++ x ∷ []) more ≡ exchanges_then xs (exchange_then x more)
then-more [] x more = refl
then-more (y ∷ ys) x more = ap (exchange_then y) (then-more ys x more)

pairs-more : (xs : List Exchange) (x : Exchange) → pairs_of (xs ++ x ∷ []) ≡ pairs_of xs ++ pair_of x ∷ []
pairs-more [] x = refl
pairs-more (y ∷ ys) x = ap (λ ps. pair_of y ∷ ps) (pairs-more ys x)

pair-is : (x : Exchange) (old new : List Word) → side_text x.old ≡ old → side_text x.new ≡ new → pair_of x ≡ record { old = old; new = new }
pair-is x old new e f =
    ap (λ (o : List Word). let p : Pair = record { old = o; new = side_text x.new } in p) e
    ∙ ap (λ (n : List Word). let p : Pair = record { old = old; new = n } in p) f

pub front-none : (words : List Word) → IsFront words [] words
front-none words = record { trees = []; formed = tt; spelled = refl; told = refl }

pub front-more : (words : List Word) (list : List Pair) (rest old new more : List Word) → IsFront words list rest → pair_at rest ≡ Some (old, new, more)
    → IsFront words (list ++ record { old = old; new = new } ∷ []) more
front-more words list rest old new more front found =
    let cut : PairCut rest old new more = pair-found rest (old, new, more) found in
    record {
      trees = front.trees ++ cut.tree ∷ [];
      formed = each-more IsExchange front.trees cut.tree front.formed cut.formed;
      spelled = front.spelled ∙ ap (exchanges_then front.trees) cut.spelled ∙ sym (then-more front.trees cut.tree more);
      told =
          ap (λ (ps : List Pair). ps ++ record { old = old; new = new } ∷ []) front.told
          ∙ ap (λ (p : Pair). pairs_of front.trees ++ p ∷ []) (sym (pair-is cut.tree old new cut.old_is cut.new_is))
          ∙ sym (pairs-more front.trees cut.tree);
    }

pub pair-shorter : (rest old new more : List Word) → pair_at rest ≡ Some (old, new, more) → length more < length rest
pair-shorter rest old new more found =
    let cut : PairCut rest old new more = pair-found rest (old, new, more) found in
    rw cut.spelled (exchange-longer cut.tree more)

pub not-both : {A : Type 0} {o : Option A} {x : A} → o ≡ None → o ≡ Some x → ⊥
not-both e f = cc

pub exchanges-unique : (xs ys : List Exchange) (a b : List Word) → AllByRecursion IsExchange xs → AllByRecursion IsExchange ys → pair_at a ≡ None → pair_at b ≡ None
    → exchanges_then xs a ≡ exchanges_then ys b → (pairs_of xs ≡ pairs_of ys) × (a ≡ b)
exchanges-unique [] [] a b f g m n h = (refl, h)
exchanges-unique [] (y ∷ ys) a b f g m n h = absurd (not-both m (ap pair_at h ∙ pair-takes y (exchanges_then ys b) g.0))
exchanges-unique (x ∷ xs) [] a b f g m n h = absurd (not-both n (ap pair_at (sym h) ∙ pair-takes x (exchanges_then xs a) f.0))
exchanges-unique (x ∷ xs) (y ∷ ys) a b f g m n h =
    let same = some-eq (sym (pair-takes x (exchanges_then xs a) f.0) ∙ ap pair_at h ∙ pair-takes y (exchanges_then ys b) g.0) in
    let old : side_text x.old ≡ side_text y.old = ap (λ p. p.0) same in
    let new : side_text x.new ≡ side_text y.new = ap (λ p. p.1) same in
    let rest : exchanges_then xs a ≡ exchanges_then ys b = ap (λ p. p.2) same in
    let others = exchanges-unique xs ys a b f.1 g.1 m n rest in
    (rw old (rw new (rw others.0 refl)), others.1)

pub run-unique : (words : List Word) (list : List Pair) (rest : List Word) (xs : List Exchange) (period : Word) (more : List Word)
    → IsRun words list rest → AllByRecursion IsExchange xs → is s.Period period ≡ true → words ≡ exchanges_then xs (period ∷ more)
    → (list ≡ pairs_of xs) × (rest ≡ period ∷ more)
run-unique words list rest xs period more run f closed e =
    let same = exchanges-unique run.front.trees xs rest (period ∷ more) run.front.formed f run.last (period-no-pair period more closed) (sym run.front.spelled ∙ e) in
    (run.front.told ∙ same.0, same.1)

pub ending-takes : (period : Word) (more : List Word) → is s.Period period ≡ true → ending_at (period ∷ more) ≡ Some more
ending-takes period more e = rw e refl

pub record EndCut (ws rest : List Word) : Type 0 where
  pub period : Word
  pub closed : is s.Period period ≡ true
  pub spelled : ws ≡ period ∷ rest

pub ending-found : (ws rest : List Word) → ending_at ws ≡ Some rest → EndCut ws rest
ending-found [] rest h = cc
ending-found (w ∷ ws) rest h =
    elim (is s.Period w) as (λ (t : Bool). is s.Period w ≡ t → (if t then Some ws else None) ≡ Some rest → EndCut (w ∷ ws) rest) [
      | true ↦ λ e g. record { period = w; closed = e; spelled = ap (λ xs. w ∷ xs) (some-eq g) }
      | false ↦ λ e g. cc
    ] refl h

pub no-pairs-empty : (words rest : List Word) → IsRun words [] rest → HasNoPairs words
no-pairs-empty words rest run x xs period more f closed e =
    let same : [] ≡ pair_of x ∷ pairs_of xs = (run-unique words [] rest (x ∷ xs) period more run f closed e).0 in cc

pub no-pairs-open : (words : List Word) (list : List Pair) (rest : List Word) → IsRun words list rest → ending_at rest ≡ None → HasNoPairs words
no-pairs-open words list rest run shut x xs period more f closed e =
    let same : rest ≡ period ∷ more = (run-unique words list rest (x ∷ xs) period more run f closed e).1 in
    not-both shut (ap ending_at same ∙ ending-takes period more closed)

pairs-closed-by : (words : List Word) (list : List Pair) (rest more : List Word) (trees : List Exchange) → AllByRecursion IsExchange trees → words ≡ exchanges_then trees rest
    → list ≡ pairs_of trees → (list ≡ [] → ⊥) → EndCut rest more → IsPairs words list more
pairs-closed-by words list rest more [] f e told ne end = absurd (ne told)
pairs-closed-by words list rest more (x ∷ xs) f e told ne end =
    record {
      first = x;
      others = xs;
      period = end.period;
      formed = f;
      closed = end.closed;
      spelled = e ∙ ap (exchanges_then (x ∷ xs)) end.spelled;
      told = told;
    }

pub pairs-closed : (words : List Word) (list : List Pair) (rest more : List Word) → IsRun words list rest → (list ≡ [] → ⊥) → ending_at rest ≡ Some more
    → IsPairs words list more
pairs-closed words list rest more run ne end =
    pairs-closed-by words list rest more run.front.trees run.front.formed run.front.spelled run.front.told ne (ending-found rest more end)
