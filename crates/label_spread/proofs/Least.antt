-- Facts that are derivable and closed are the derivable ones, and the least closed ones.
use Rattle.std.proofs.Common.{◌≡◌, ◌↔◌, inl, inr, ℕ, zero, suc, ◌+◌, ◌<◌, ◌≤◌, List, [], ◌∷◌, ◌++◌, length, take, get_or, slice_get, sym, ap, ◌∙◌, subst, arith, Contains, All, Option, Some}
use Rattle.std.proofs.lemmas.List.{get_or-take, length-take-le, take_more, take-take, take_all}
use Rattle.std.proofs.lemmas.Option.{slice_get_within, slice_get_cases, get_or_from_slice_get}
use Rattle.year_labels.specs.declared.label.Fact.{Fact}
use Rattle.year_labels.specs.declared.label.Seed.{Seed}
use Rattle.year_labels.specs.declared.rule.RuleInst.{RuleInst}
use Rattle.year_labels.specs.Forms.{IsFit}
use Rattle.year_labels.specs.Derivation.{IsSeedFact, IsStep, IsDerivation, IsDerivable, AreDerivable, IsClosed, IsLeast, FollowsByOne}
use Rattle.label_spread.specs.Steps.{Extends, Adds, Starts, Reacts, Closes}
use Rattle.label_spread.proofs.Growth.{Extends-refl, Extends-trans, Extends-weaker, Extends-contains, Contains-take}
use Rattle.label_spread.proofs.Local.{Follows-monotone}

-- the first of the known facts have been taken, and what follows from them is there
pub record Taken (P : List Fact → Fact → Type 0) (old now : List Fact) (next : ℕ) : Type 0 where
  pub extends : Extends P old now
  pub done : (f : Fact) → P (take next now) f → Contains now f

pub Taken-none : (P : List Fact → Fact → Type 0) (old : List Fact) → ((f : Fact) → P [] f → Contains old f) → Taken P old old 0
Taken-none P old started = record { extends = Extends-refl P old; done = started }

pub Taken-more : (P : List Fact → Fact → Type 0) (old now more : List Fact) (next : ℕ) (fact : Fact) → slice_get now next ≡ Some fact → Taken P old now next → Reacts P fact now more → Taken P old more (next + 1)
Taken-more P old now more next fact is a b =
    let low : next < length now = slice_get_within now next fact is in
    let value : get_or now next fact ≡ fact = get_or_from_slice_get now next fact fact is in
    let front : take (next + 1) more ≡ take next now ++ fact ∷ [] =
    sym (take-take (next + 1) (length now) more (omega (arith, low))) ∙ ap (take (next + 1)) b.extends.front
    ∙ take_more now next fact low ∙ ap (λ (x : Fact). take next now ++ x ∷ []) value in
    record {
      extends = Extends-trans P old now more a.extends b.extends;
      done = λ f h. elim (b.all (take next now) f (λ g at. Contains-take next now g at) (subst (λ (xs : List Fact). P xs f) front h)) [
        | inl before ↦ Extends-contains P now more f b.extends (a.done f before)
        | inr there ↦ there
      ];
    }

pub Taken-all : (P : List Fact → Fact → Type 0) (old now : List Fact) (next : ℕ) → length now ≤ next → Taken P old now next → Closes P old now
Taken-all P old now next le a = record {
  extends = a.extends;
  closed = λ f h. a.done f (subst (λ (xs : List Fact). P xs f) (sym (take_all next now le)) h);
}

pub ended : (now : List Fact) (next : ℕ) (read : Option Fact) → read ≡ slice_get now next → ((x : Fact) → read ≡ Some x → ⊥) → length now ≤ next
ended now next read is none = elim (slice_get_cases now next).1 [
  | inl here ↦ absurd (none here.0 (is ∙ here.2))
  | inr past ↦ past.0
]

module _ (seeds : List Seed) (rules : List RuleInst) where
  -- the facts have a derivation, and each fact of a seed is there
  pub record Reached (known : List Fact) : Type 0 where
    pub steps : Extends (IsStep seeds rules) [] known
    pub seeded : (f : Fact) → IsSeedFact seeds f → Contains known f

  pub Reached-seeds : (known : List Fact) → Adds (λ _. IsSeedFact seeds) [] known → Reached known
  Reached-seeds known a = record {
    steps = Extends-weaker (λ _. IsSeedFact seeds) (IsStep seeds rules) [] known (λ xs f k h. inl h) a.extends;
    seeded = a.all;
  }

  pub Reached-more : (known next : List Fact) → Reached known → Extends (FollowsByOne rules) known next → Reached next
  Reached-more known next r e = record {
    steps = Extends-trans (IsStep seeds rules) [] known next r.steps (Extends-weaker (FollowsByOne rules) (IsStep seeds rules) known next (λ xs f k h. inr h) e);
    seeded = λ f h. Extends-contains (FollowsByOne rules) known next f e (r.seeded f h);
  }

  pub derivation_of : (known : List Fact) → Reached known → IsDerivation seeds rules known
  derivation_of known r k d lt = r.steps.steps k d (omega arith) lt

  fit_of : All (λ (r : RuleInst). IsFit r.form) rules → (rule : RuleInst) → Contains rules rule → IsFit rule.form
  fit_of fit rule at = subst (λ (r : RuleInst). IsFit r.form) at.2 (fit at.0 rule at.1)

  -- by the length of the front, each fact of a derivation is in a closed list
  reaches : (others steps : List Fact) → All (λ (r : RuleInst). IsFit r.form) rules → IsClosed seeds rules others → IsDerivation seeds rules steps → (n k : ℕ) (d : Fact) → k < n → k < length steps → Contains others (get_or steps k d)
  reaches others steps fit closed derives zero k d low lt = absurd (omega arith)
  reaches others steps fit closed derives (suc n) k d low lt =
      elim (derives k d lt) [
        | inl seed ↦ closed.seeded (get_or steps k d) seed
        | inr by_rule ↦ closed.closed (get_or steps k d) (
          by_rule.0,
          by_rule.1,
          Follows-monotone by_rule.0.form (fit_of fit by_rule.0 by_rule.1) (take k steps) others (get_or steps k d)
              (λ g at.
              let j : ℕ = at.0 in
              let short : length (take k steps) ≡ k = length-take-le k steps (omega arith) in
              let below : j < k = omega (arith, at.1, short) in
              let is : get_or steps j g ≡ g = sym (get_or-take k steps j g below) ∙ at.2 in
              subst (λ (x : Fact). Contains others x) is (reaches others steps fit closed derives n j g (omega arith) (omega arith)))
              by_rule.2,
        )
      ]

  derivable_in : (others : List Fact) → All (λ (r : RuleInst). IsFit r.form) rules → IsClosed seeds rules others → (f : Fact) → IsDerivable seeds rules f → Contains others f
  derivable_in others fit closed f w =
      let at : Contains w.0 f = w.2 in
      subst (λ (x : Fact). Contains others x) at.2 (reaches others w.0 fit closed w.1 (at.0 + 1) at.0 f (omega arith) at.1)

  pub closed_of : (known : List Fact) → Reached known → ((f : Fact) → FollowsByOne rules known f → Contains known f) → IsClosed seeds rules known
  closed_of known r closed = record { seeded = r.seeded; closed = closed }

  -- for the facts of a derivation that are closed, in any order
  pub AreDerivable-alike : (known others : List Fact) → All (λ (r : RuleInst). IsFit r.form) rules → IsDerivation seeds rules known → IsClosed seeds rules known → ((f : Fact) → Contains others f ↔ Contains known f) → AreDerivable seeds rules others
  AreDerivable-alike known others fit derives closed same = record {
    sound = λ f h. (known, derives, (same f).0 h);
    complete = λ f w. (same f).1 (derivable_in known fit closed f w);
  }

  pub IsLeast-alike : (known others : List Fact) → All (λ (r : RuleInst). IsFit r.form) rules → IsDerivation seeds rules known → IsClosed seeds rules known → ((f : Fact) → Contains others f ↔ Contains known f) → IsLeast seeds rules others
  IsLeast-alike known others fit derives closed same = record {
    closed = record {
      seeded = λ f h. (same f).1 (closed.seeded f h);
      closed = λ f h. (same f).1 (closed.closed f (h.0, h.1, Follows-monotone h.0.form (fit_of fit h.0 h.1) others known f (λ g at. (same g).0 at) h.2));
    };
    least = λ more more_closed f h. derivable_in more fit more_closed f (known, derives, (same f).0 h);
  }

  -- first the facts of the seeds, then what follows from nothing, then all that follows
  pub Reached-all : (none first second third : List Fact) → none ≡ [] → Adds (λ _. IsSeedFact seeds) none first → Starts (FollowsByOne rules) first second → Closes (FollowsByOne rules) second third → Reached third
  Reached-all none first second third is seeded started closes =
      Reached-more second third (Reached-more first second (Reached-seeds first (subst (λ (xs : List Fact). Adds (λ _. IsSeedFact seeds) xs first) is seeded)) started.extends) closes.extends
