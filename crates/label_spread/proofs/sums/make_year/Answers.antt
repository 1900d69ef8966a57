use Rattle.std.proofs.Common.{List}
use Rattle.year_labels.specs.declared.label.Fact.{Fact}
use Rattle.year_labels.specs.declared.label.Role.TheVariants as roles
use Rattle.year_labels.specs.Roles.{Gives}
use Rattle.label_spread.proofs.Growth.{Adds-both}
use Rattle.label_spread.proofs.Local.{Gives-monotone}
use Rattle.label_spread.proofs.sums.make_year.Goals as goal

pub returns : goal.returns
returns c =
    let view = c.args.view.now in
    Adds-both (λ (xs : List Fact). Gives xs view 1 roles.Tens) (λ (xs : List Fact). Gives xs view 0 roles.Units) _ _ _ (Gives-monotone view 0 roles.Units) c.in_ok-give_role.ensures c.in_ok-give_role-2.ensures
