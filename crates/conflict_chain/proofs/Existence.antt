-- Each fact that is derivable has a chain: the facts of its derivation, each once, up to it.
use Rattle.std.proofs.Common.{◌≡◌, ◌⊎◌, inl, inr, All, arith, ℕ, zero, suc, ◌+◌, ◌<◌, ◌≤◌, List, [], ◌∷◌, ◌++◌, take, length, get_or, refl, sym, ap, ◌∙◌, subst, Contains, length-append}
use Rattle.std.specs.declared.cmp.Ordering.{Ordering}
use Rattle.std.specs.declared.cmp.Ordering.TheVariants.{Less, Equal, Greater}
use Rattle.std.specs.Cmp.{tied_itself}
use Rattle.std.proofs.lemmas.Bool.{cases_lt}
use Rattle.std.proofs.lemmas.List.{take-append-le, take-take, take_all, take_at, get_or-take, get_or_append_left, length-take-le, get_or_default}
use Rattle.std.proofs.lemmas.List.Elements.{Contains-append_left, Contains-push, Contains-push_cases}
use Rattle.std.proofs.Math.Seq.{take-suc, get_or-append_seam}
use Rattle.year_labels.specs.declared.label.Fact.{Fact}
use Rattle.year_labels.specs.declared.label.Seed.{Seed}
use Rattle.year_labels.specs.declared.rule.RuleInst.{RuleInst}
use Rattle.year_labels.specs.Order.{fact_cmp}
use Rattle.year_labels.specs.Forms.{IsFit}
use Rattle.year_labels.specs.Derivation.{IsStep, IsDerivation, IsDerivable, AreDerivable}
use Rattle.year_labels.proofs.Total.{fact_exact, fact_total}
use Rattle.label_spread.proofs.Local.{Follows-monotone}
use Rattle.conflict_chain.specs.declared.chain.ChainStep.{ChainStep}
use Rattle.conflict_chain.specs.declared.chain.Why.TheVariants as whys
use Rattle.conflict_chain.specs.Named.{named, IsAt, IsFactOf}
use Rattle.conflict_chain.specs.Chains.{HasReason, AreReasoned, AreUnlike, IsChain}
use Rattle.conflict_chain.specs.Reasons.{HaveChains}
use Rattle.conflict_chain.proofs.Steps.{named_there, bare}

-- a step has the fact
abbrev HasFact : List ChainStep → Fact → Type 0
HasFact steps f = (k : ℕ) × IsFactOf steps k f

-- all numbers below that one
abbrev upto : ℕ → List ℕ
upto zero = []
upto (suc n) = upto n ++ n ∷ []

upto_below : (n k : ℕ) → Contains (upto n) k → k < n
upto_below zero k at = absurd (omega (arith, at.1))
upto_below (suc n) k at = elim (Contains-push_cases (upto n) n k at) [
  | inl before ↦ let less : k < n = upto_below n k before in omega (arith, less)
  | inr is ↦ omega (arith, is)
]

upto_there : (n k : ℕ) → k < n → Contains (upto n) k
upto_there zero k lt = absurd (omega (arith, lt))
upto_there (suc n) k lt = elim (cases_lt k n) [
  | inl below ↦ Contains-append_left (upto n) (n ∷ []) k (upto_there n k below)
  | inr up ↦ let is : n ≡ k = omega (arith, up, lt) in subst (λ (m : ℕ). Contains (upto n ++ n ∷ []) m) is (Contains-push (upto n) n)
]

named_all : (steps : List ChainStep) (f : Fact) → HasFact steps f → Contains (named steps (upto (length steps))) f
named_all steps f h = named_there steps (upto (length steps)) f (h.0, upto_there (length steps) h.0 h.1.1.0, h.1)

same_or_not : (f g : Fact) → (f ≡ g) ⊎ (f ≡ g → ⊥)
same_or_not f g = elim (fact_cmp f g) as (λ (r : Ordering). fact_cmp f g ≡ r → (f ≡ g) ⊎ (f ≡ g → ⊥)) [
  | Less ↦ λ e. inr (λ is. let x : Less ≡ Equal = sym e ∙ ap (fact_cmp f) (sym is) ∙ tied_itself fact_total f in cc)
  | Equal ↦ λ e. inl (fact_exact f g e)
  | Greater ↦ λ e. inr (λ is. let x : Greater ≡ Equal = sym e ∙ ap (fact_cmp f) (sym is) ∙ tied_itself fact_total f in cc)
] refl

at_of : (steps : List ChainStep) (k : ℕ) (d : ChainStep) → k < length steps → IsAt steps k (get_or steps k d)
at_of steps k d lt = (lt, get_or_default steps k (get_or steps k d) d lt)

below_or_not : (steps : List ChainStep) (f : Fact) (n : ℕ) → n ≤ length steps → HasFact steps f ⊎ ((k : ℕ) → k < n → IsFactOf steps k f → ⊥)
below_or_not steps f zero le = inr (λ k lt h. absurd (omega (arith, lt)))
below_or_not steps f (suc n) le = elim (below_or_not steps f n (omega (arith, le))) [
  | inl found ↦ inl found
  | inr none ↦ elim (same_or_not (get_or steps n bare).fact f) [
    | inl is ↦ inl (n, (get_or steps n bare, at_of steps n bare (omega (arith, le)), is))
    | inr apart ↦ inr (λ k lt h. elim (cases_lt k n) [
      | inl less ↦ none k less h
      | inr up ↦
          let here : k ≡ n = omega (arith, up, lt) in
          let read : get_or steps n bare ≡ h.0 = get_or_default steps n bare h.0 (omega (arith, le)) ∙ ap (λ (m : ℕ). get_or steps m h.0) (sym here) ∙ h.1.1 in
          apart (ap (λ (s : ChainStep). s.fact) read ∙ h.2)
    ])
  ]
]

in_or_not : (steps : List ChainStep) (f : Fact) → HasFact steps f ⊎ (HasFact steps f → ⊥)
in_or_not steps f = elim (below_or_not steps f (length steps) (omega arith)) [
  | inl found ↦ inl found
  | inr none ↦ inr (λ h. none h.0 h.1.1.0 h.1)
]

moved : (P : List ChainStep → ChainStep → Type 0) (xs ys : List ChainStep) (x y : ChainStep) → xs ≡ ys → x ≡ y → P xs x → P ys y
moved P xs ys x y e f p = subst (λ (zs : List ChainStep). P zs y) e (subst (λ (z : ChainStep). P xs z) f p)

module _ (seeds : List Seed) (rules : List RuleInst) where
  abbrev Has : List ChainStep → ChainStep → Type 0
  Has earlier s = HasReason seeds rules earlier s.why s.from s.fact

  reasoned_more : (steps : List ChainStep) (s : ChainStep) → AreReasoned seeds rules steps → Has steps s → AreReasoned seeds rules (steps ++ s ∷ [])
  reasoned_more steps s all last k d lt =
      let more : length (steps ++ s ∷ []) ≡ length steps + 1 = length-append steps (s ∷ []) in
      elim (cases_lt k (length steps)) [
        | inl below ↦ moved Has (take k steps) _ (get_or steps k d) _ (sym (take-append-le k steps (s ∷ []) (omega (arith, below)))) (sym (get_or_append_left steps (s ∷ []) d k below)) (all k d below)
        | inr above ↦
            let is : length steps ≡ k = omega (arith, above, lt, more) in
            moved Has steps _ s _ (sym (take_at steps (s ∷ []) k is)) (sym (ap (λ (n : ℕ). get_or (steps ++ s ∷ []) n d) (sym is) ∙ get_or-append_seam steps s [] d)) last
      ]

  reasoned_front : (steps : List ChainStep) (n : ℕ) → n ≤ length steps → AreReasoned seeds rules steps → AreReasoned seeds rules (take n steps)
  reasoned_front steps n le all k d lt =
      let short : length (take n steps) ≡ n = length-take-le n steps le in
      let below : k < n = omega (arith, lt, short) in
      moved Has (take k steps) _ (get_or steps k d) _ (sym (take-take k n steps (omega (arith, below)))) (sym (get_or-take n steps k d below)) (all k d (omega (arith, below, le)))

  -- the reason of a fact that follows from facts which steps have
  step_of : (known : List Fact) (steps : List ChainStep) (f : Fact) → All (λ (r : RuleInst). IsFit r.form) rules → ((g : Fact) → Contains known g → HasFact steps g) → IsStep seeds rules known f → (s : ChainStep) × (s.fact ≡ f) × Has steps s
  step_of known steps f fit covers (inl h) =
      let seed : Seed = h.0 in
      (record { fact = f; why = whys.Seed seed.row; from = [] }, refl, (seed, h.1, λ i. record { fact = sym h.2 i; row = seed.row }))
  step_of known steps f fit covers (inr h) =
      let rule : RuleInst = h.0 in
      let index : ℕ = h.1.0 in
      let from : List ℕ = upto (length steps) in
      let fits : IsFit rule.form = subst (λ (r : RuleInst). IsFit r.form) h.1.2 (fit index rule h.1.1) in (
        record { fact = f; why = whys.Rule index; from = from },
        refl,
        (rule, (h.1.1, h.1.2), λ k at. upto_below (length steps) k at, Follows-monotone rule.form fits known (named steps from) f (λ g at. named_all steps g (covers g at)) h.2),
      )

unlike_more : (steps : List ChainStep) (s : ChainStep) → AreUnlike steps → (HasFact steps s.fact → ⊥) → AreUnlike (steps ++ s ∷ [])
unlike_more steps s apart new j k d less lt same =
    let more : length (steps ++ s ∷ []) ≡ length steps + 1 = length-append steps (s ∷ []) in
    let low : j < length steps = omega (arith, less, lt, more) in
    let left : get_or (steps ++ s ∷ []) j d ≡ get_or steps j d = get_or_append_left steps (s ∷ []) d j low in
    elim (cases_lt k (length steps)) [
      | inl below ↦
          let right : get_or (steps ++ s ∷ []) k d ≡ get_or steps k d = get_or_append_left steps (s ∷ []) d k below in
          apart j k d less below (ap (λ (x : ChainStep). x.fact) (sym left) ∙ same ∙ ap (λ (x : ChainStep). x.fact) right)
      | inr above ↦
          let is : length steps ≡ k = omega (arith, above, lt, more) in
          let right : get_or (steps ++ s ∷ []) k d ≡ s = ap (λ (n : ℕ). get_or (steps ++ s ∷ []) n d) (sym is) ∙ get_or-append_seam steps s [] d in
          new (j, (get_or steps j d, at_of steps j d low, ap (λ (x : ChainStep). x.fact) (sym left) ∙ same ∙ ap (λ (x : ChainStep). x.fact) right))
    ]

unlike_front : (steps : List ChainStep) (n : ℕ) → n ≤ length steps → AreUnlike steps → AreUnlike (take n steps)
unlike_front steps n le apart j k d less lt same =
    let short : length (take n steps) ≡ n = length-take-le n steps le in
    let below : k < n = omega (arith, lt, short) in
    apart j k d less (omega (arith, below, le))
    (ap (λ (x : ChainStep). x.fact) (sym (get_or-take n steps j d (omega (arith, less, below)))) ∙ same ∙ ap (λ (x : ChainStep). x.fact) (get_or-take n steps k d below))

has_more : (steps : List ChainStep) (s : ChainStep) (f : Fact) → HasFact steps f → HasFact (steps ++ s ∷ []) f
has_more steps s f h =
    let step : ChainStep = h.1.0 in
    let lt : h.0 < length steps = h.1.1.0 in
    let more : length (steps ++ s ∷ []) ≡ length steps + 1 = length-append steps (s ∷ []) in
    (h.0, (step, (omega (arith, lt, more), get_or_append_left steps (s ∷ []) step h.0 lt ∙ h.1.1.1), h.1.2))

has_last : (steps : List ChainStep) (s : ChainStep) → HasFact (steps ++ s ∷ []) s.fact
has_last steps s =
    let more : length (steps ++ s ∷ []) ≡ length steps + 1 = length-append steps (s ∷ []) in
    (length steps, (s, (omega (arith, more), get_or-append_seam steps s [] s), refl))

blank : Fact
blank = bare.fact

module _ (seeds : List Seed) (rules : List RuleInst) (fit : All (λ (r : RuleInst). IsFit r.form) rules) (facts : List Fact) (derives : IsDerivation seeds rules facts) where
  -- steps with reasons for the first n facts
  record Built (n : ℕ) : Type 0 where
    pub steps : List ChainStep
    pub reasoned : AreReasoned seeds rules steps
    pub unlike : AreUnlike steps
    pub covers : (g : Fact) → Contains (take n facts) g → HasFact steps g

  covers_more : (n : ℕ) (steps : List ChainStep) → n < length facts → ((g : Fact) → Contains (take n facts) g → HasFact steps g) → HasFact steps (get_or facts n blank) → (g : Fact) → Contains (take (suc n) facts) g → HasFact steps g
  covers_more n steps lt covers last g at = elim (Contains-push_cases (take n facts) (get_or facts n blank) g (subst (λ (xs : List Fact). Contains xs g) (take-suc facts n blank lt) at)) [
    | inl before ↦ covers g before
    | inr is ↦ subst (λ (x : Fact). HasFact steps x) is last
  ]

  build : (n : ℕ) → n ≤ length facts → Built n
  build zero le = record {
    steps = [];
    reasoned = λ k d lt. absurd (omega (arith, lt));
    unlike = λ j k d less lt same. omega (arith, lt);
    covers = λ g at. let short : length (take zero facts) ≡ 0 = length-take-le zero facts (omega arith) in absurd (omega (arith, at.1, short));
  }
  build (suc n) le =
      let b : Built n = build n (omega (arith, le)) in
      let f : Fact = get_or facts n blank in
      let lt : n < length facts = omega (arith, le) in
      elim (in_or_not b.steps f) [
        | inl there ↦ record { steps = b.steps; reasoned = b.reasoned; unlike = b.unlike; covers = covers_more n b.steps lt b.covers there }
        | inr new ↦
            let w = step_of seeds rules (take n facts) b.steps f fit b.covers (derives n blank lt) in
            let s : ChainStep = w.0 in
            record {
              steps = b.steps ++ s ∷ [];
              reasoned = reasoned_more seeds rules b.steps s b.reasoned w.2;
              unlike = unlike_more b.steps s b.unlike (λ h. new (subst (λ (x : Fact). HasFact b.steps x) w.1 h));
              covers = covers_more n (b.steps ++ s ∷ []) lt (λ g at. has_more b.steps s g (b.covers g at)) (subst (λ (x : Fact). HasFact (b.steps ++ s ∷ []) x) w.1 (has_last b.steps s));
            }
      ]

  chain_to : (f : Fact) → Contains facts f → (steps : List ChainStep) × IsChain seeds rules steps f
  chain_to f at =
      let b : Built (length facts) = build (length facts) (omega arith) in
      let h : HasFact b.steps f = b.covers f (subst (λ (xs : List Fact). Contains xs f) (sym (take_all (length facts) facts (omega arith))) at) in
      let k : ℕ = h.0 in
      let step : ChainStep = h.1.0 in
      let lt : k < length b.steps = h.1.1.0 in
      let last : take (suc k) b.steps ≡ take k b.steps ++ step ∷ [] = take-suc b.steps k step lt ∙ ap (λ (s : ChainStep). take k b.steps ++ s ∷ []) h.1.1.1 in (
        take (suc k) b.steps,
        (
          reasoned_front seeds rules b.steps (suc k) (omega (arith, lt)) b.reasoned,
          unlike_front b.steps (suc k) (omega (arith, lt)) b.unlike,
          (take k b.steps, step, last, h.1.2),
        ),
      )

pub have_chains : (seeds : List Seed) (rules : List RuleInst) (facts : List Fact) → All (λ (r : RuleInst). IsFit r.form) rules → AreDerivable seeds rules facts → HaveChains seeds rules facts
have_chains seeds rules facts fit derivable f at =
    let w : IsDerivable seeds rules f = derivable.sound f at in
    chain_to seeds rules fit w.0 w.1 f w.2
