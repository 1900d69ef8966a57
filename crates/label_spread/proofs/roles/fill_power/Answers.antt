use Rattle.std.proofs.Common.{sym, ◌∙◌, List}
use Rattle.year_labels.specs.declared.label.Fact.{Fact}
use Rattle.std.proofs.lemmas.Bool.{false≢true}
use Rattle.year_labels.specs.declared.label.Role.TheVariants as roles
use Rattle.year_labels.specs.Roles.{Gives}
use Rattle.label_spread.specs.Steps.{MayFill}
use Rattle.label_spread.proofs.Growth.{Adds-where, Adds-nowhere}
use Rattle.label_spread.proofs.Local.{MayFill-grows}
use Rattle.label_spread.proofs.roles.fill_power.Goals as goal

pub returns-in_ok-give_role : goal.returns-in_ok-give_role
returns-in_ok-give_role c =
    let view = c.args.view.now in
    let from = c.args.from in
    let power = c.args.power in
    Adds-where (λ (xs : List Fact). MayFill xs view from power) (λ (xs : List Fact). Gives xs view power roles.Plain) _ _
    (λ xs known. MayFill-grows _ xs view from power c.requires known (c.may_fill.ensures.0 c.if-may_fill.true)) c.in_ok-give_role.ensures

pub returns-else-may_fill : goal.returns-else-may_fill
returns-else-may_fill c =
    Adds-nowhere (λ (xs : List Fact). MayFill xs c.args.view.now c.args.from c.args.power) (λ (xs : List Fact). Gives xs c.args.view.now c.args.power roles.Plain) _
    (λ t. false≢true (sym c.if-may_fill.false ∙ c.may_fill.ensures.1 t))
