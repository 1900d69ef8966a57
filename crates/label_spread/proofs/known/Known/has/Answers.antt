use Rattle.std.proofs.Common.{sym, subst, List, Contains}
use Rattle.year_labels.specs.declared.label.Fact.{Fact}
use Rattle.label_spread.proofs.known.Known.has.Goals as goal

pub returns : goal.returns
returns c =
    let fact = c.args.fact in (
      λ e. subst (λ (xs : List Fact). Contains xs fact) c.self.view_is ((c.self.invariant fact).0 (c.has.ensures.0 e)),
      λ h. c.has.ensures.1 ((c.self.invariant fact).1 (subst (λ (xs : List Fact). Contains xs fact) (sym c.self.view_is) h)),
    )
