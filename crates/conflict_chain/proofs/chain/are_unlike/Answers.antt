use Rattle.std.proofs.Common.{ℕ, arith, sym, ap, ◌∙◌, inl, inr, get_or, ◌≡◌}
use Rattle.std.proofs.lemmas.Bool.{false≢true, cases_lt}
use Rattle.std.proofs.lemmas.List.{get_or_default}
use Rattle.conflict_chain.specs.declared.chain.ChainStep.{ChainStep}
use Rattle.conflict_chain.proofs.Steps.{bare}
use Rattle.conflict_chain.proofs.chain.are_unlike.Goals as goal

pub returns-then-stands_before : goal.returns-then-stands_before
returns-then-stands_before c =
    let steps = c.args.steps.now in
    let w = c.stands_before.ensures.0 c.if-stands_before.true in (
      λ e. absurd (false≢true e),
      λ unlike. absurd (unlike w.0 c.loop-i.i bare w.1 (omega arith) (w.2 _)),
    )

pub loop-i-preserved : goal.loop-i-preserved
loop-i-preserved c = λ j k d before low same.
    let steps = c.args.steps.now in
    elim (cases_lt k c.loop-i.i) [
      | inl less ↦ c.loop-i.invariant j k d before less same
      | inr up ↦
          let is : k ≡ c.loop-i.i = omega arith in
          let first : (e : ChainStep) → (get_or steps j e).fact ≡ (get_or steps c.loop-i.i e).fact = λ e.
          ap (λ (s : ChainStep). s.fact) (get_or_default steps j e d (omega (arith, before, low))) ∙ same
          ∙ ap (λ (s : ChainStep). s.fact) (ap (λ (n : ℕ). get_or steps n d) is ∙ get_or_default steps c.loop-i.i d e (omega arith)) in
          absurd (false≢true (sym c.if-stands_before.false ∙ c.stands_before.ensures.1 (j, omega (arith, before, is), first)))
    ]
