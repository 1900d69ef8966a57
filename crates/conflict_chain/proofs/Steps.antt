-- The facts of named steps.
use Rattle.std.proofs.Common.{All, take, ◌≡◌, ◌⊎◌, ◌↔◌, Bool, IsTrue, inl, inr, arith, ℕ, ◌+◌, ◌<◌, length, get_or, List, [], ◌∷◌, refl, sym, ap, ◌∙◌, subst, Contains, Option, Some, None, slice_get}
use Rattle.std.proofs.lemmas.Bool.{cases_lt}
use Rattle.std.proofs.lemmas.List.{get_or_default}
use Rattle.std.proofs.lemmas.Option.{slice_get_read, slice_get_within, get_or_from_slice_get}
use Rattle.std.proofs.lemmas.List.Elements.{All-contains, Contains-append_left, Contains-append_right, Contains-append_cases, Contains-push, Contains-push_cases}
use Rattle.year_labels.specs.declared.label.Fact.{Fact}
use Rattle.year_labels.specs.declared.label.Label.TheVariants as labels
use Rattle.year_labels.specs.declared.rule.RuleInst.{RuleInst}
use Rattle.year_labels.specs.Forms.{Follows}
use Rattle.conflict_chain.specs.declared.chain.Why.TheVariants as whys
use Rattle.conflict_chain.specs.Chains.{AreEarlier, IsByRule, HasReason, IsChain}
use Rattle.conflict_chain.specs.declared.chain.Why.{Why}
use Rattle.year_labels.specs.declared.label.Seed.{Seed}
use Rattle.conflict_chain.specs.declared.chain.ChainStep.{ChainStep}
use Rattle.conflict_chain.specs.Named.{fact_of_step, named, IsFactOf}

pub head_or_rest : {X : Type 0} (y : X) (ys : List X) (x : X) → Contains (y ∷ ys) x → (y ≡ x) ⊎ Contains ys x
head_or_rest {X} y ys x at = elim (Contains-append_cases (y ∷ []) ys x at) [
  | inl first ↦ elim (Contains-push_cases [] y x first) [ inl none ↦ absurd (omega (arith, none.1)) | inr is ↦ inl is ]
  | inr rest ↦ inr rest
]

pub at_head : {X : Type 0} (y : X) (ys : List X) → Contains (y ∷ ys) y
at_head {X} y ys = Contains-append_left (y ∷ []) ys y (Contains-push [] y)

pub at_rest : {X : Type 0} (y : X) (ys : List X) (x : X) → Contains ys x → Contains (y ∷ ys) x
at_rest {X} y ys x at = Contains-append_right (y ∷ []) ys x at

-- what one of the numbers names
abbrev pub IsNamed : List ChainStep → List ℕ → Fact → Type 0
IsNamed steps from fact = (k : ℕ) × Contains from k × IsFactOf steps k fact

pub named_there : (steps : List ChainStep) (from : List ℕ) (fact : Fact) → IsNamed steps from fact → Contains (named steps from) fact
named_there steps [] fact h = absurd (omega (arith, h.1.1))
named_there steps (j ∷ js) fact h =
    elim (head_or_rest j js h.0 h.1) [
      | inl is ↦
          let step : ChainStep = h.2.0 in
          let read : slice_get steps j ≡ Some step = ap (λ (n : ℕ). slice_get steps n) is ∙ slice_get_read steps (length steps) h.0 step refl h.2.1.0 (sym h.2.1.1) in
          Contains-append_left (fact_of_step (slice_get steps j)) (named steps js) fact
          (subst (λ (o : Option ChainStep). Contains (fact_of_step o) fact) (sym read) (subst (λ (f : Fact). Contains (step.fact ∷ []) f) h.2.2 (Contains-push [] step.fact)))
      | inr rest ↦ Contains-append_right (fact_of_step (slice_get steps j)) (named steps js) fact (named_there steps js fact (h.0, rest, h.2))
    ]

step_of : (read : Option ChainStep) (fact : Fact) → Contains (fact_of_step read) fact → (step : ChainStep) × (read ≡ Some step) × (step.fact ≡ fact)
step_of None fact at = absurd (omega (arith, at.1))
step_of (Some step) fact at = elim (Contains-push_cases [] step.fact fact at) [
  | inl none ↦ absurd (omega (arith, none.1))
  | inr is ↦ (step, refl, is)
]

pub named_from : (steps : List ChainStep) (from : List ℕ) (fact : Fact) → Contains (named steps from) fact → IsNamed steps from fact
named_from steps [] fact at = absurd (omega (arith, at.1))
named_from steps (j ∷ js) fact at =
    elim (Contains-append_cases (fact_of_step (slice_get steps j)) (named steps js) fact at) [
      | inl first ↦
          let w = step_of (slice_get steps j) fact first in
          (j, at_head j js, (w.0, (slice_get_within steps j w.0 w.1, get_or_from_slice_get steps j w.0 w.0 w.1), w.2))
      | inr rest ↦ let w : IsNamed steps js fact = named_from steps js fact rest in (w.0, at_rest j js w.0 w.1, w.2)
    ]

-- a step, where any serves
abbrev pub bare : ChainStep
bare = record { fact = record { place = record { area = record { 0 = 0 }; offset = 0 }; label = labels.Tens }; why = whys.Seed 0; from = [] }

-- the rule of that index is the only one
pub by_rule : (rules : List RuleInst) (index : ℕ) (rule : RuleInst) (earlier : List ChainStep) (from : List ℕ) (fact : Fact) (r : Bool) → index < length rules → get_or rules index rule ≡ rule
    → AreEarlier from (length earlier) → IsTrue r ↔ Follows rule.form (named earlier from) fact → IsTrue r ↔ IsByRule rules index earlier from fact
by_rule rules index rule earlier from fact r low is before either = (
  λ e. (rule, (low, is), before, either.0 e),
  λ h.
      let same : h.0 ≡ rule = sym h.1.1 ∙ get_or_default rules index h.0 rule low ∙ is in
      either.1 (subst (λ (x : RuleInst). Follows x.form (named earlier from) fact) same h.3),
)

-- what holds of none of the first i
pub none_more : {X : Type 0} (Q : X → Type 0) (xs : List X) (i : ℕ) (e : X) → i < length xs → ((k : ℕ) (d : X) → k < i → Q (get_or xs k d) → ⊥) → (Q (get_or xs i e) → ⊥)
    → (k : ℕ) (d : X) → k < i + 1 → Q (get_or xs k d) → ⊥
none_more {X} Q xs i e lt before here k d low h = elim (cases_lt k i) [
  | inl less ↦ before k d less h
  | inr up ↦
      let is : k ≡ i = omega arith in
      here (subst Q (ap (λ (n : ℕ). get_or xs n d) is ∙ get_or_default xs i d e lt) h)
]

pub none_below_more : (P : ℕ → Type 0) (i : ℕ) → ((k : ℕ) → k < i → P k → ⊥) → (P i → ⊥) → (k : ℕ) → k < i + 1 → P k → ⊥
none_below_more P i before here k low h = elim (cases_lt k i) [
  | inl less ↦ before k less h
  | inr up ↦ let is : k ≡ i = omega arith in here (subst P is h)
]

reason_of_more : (used seeds : List Seed) (rules : List RuleInst) (earlier : List ChainStep) (why : Why) (from : List ℕ) (fact : Fact) → All (Contains seeds) used → HasReason used rules earlier why from fact → HasReason seeds rules earlier why from fact
reason_of_more used seeds rules earlier (whys.Seed row) from fact all h = (h.0, All-contains (Contains seeds) used h.0 all h.1, h.2)
reason_of_more used seeds rules earlier (whys.Rule index) from fact all h = h

-- a chain from some of the seeds is one from all
pub of_more_seeds : (used seeds : List Seed) (rules : List RuleInst) (steps : List ChainStep) (fact : Fact) → All (Contains seeds) used → IsChain used rules steps fact → IsChain seeds rules steps fact
of_more_seeds used seeds rules steps fact all chain = (
  λ k d low. let step : ChainStep = get_or steps k d in reason_of_more used seeds rules (take k steps) step.why step.from step.fact all (chain.0 k d low),
  chain.1,
  chain.2,
)
