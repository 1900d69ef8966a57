use Rattle.std.proofs.Common.{List, IsTrue, false, sym, ◌∙◌}
use Rattle.std.proofs.lemmas.Bool.{false≢true}
use Rattle.year_labels.specs.declared.label.Fact.{Fact}
use Rattle.year_labels.specs.Operands.{Makes}
use Rattle.label_spread.proofs.Growth.{Adds-where, Adds-nowhere}
use Rattle.label_spread.proofs.sums.make_plain_if.Goals as goal

pub returns-in_ok-make_plain : goal.returns-in_ok-make_plain
returns-in_ok-make_plain c = Adds-where (λ (xs : List Fact). IsTrue c.args.wanted) (λ (xs : List Fact). Makes xs c.args.view.now false) _ _ (λ xs known. c.if-wanted.true) c.in_ok-make_plain.ensures

pub returns-else-wanted : goal.returns-else-wanted
returns-else-wanted c = Adds-nowhere (λ (xs : List Fact). IsTrue c.args.wanted) (λ (xs : List Fact). Makes xs c.args.view.now false) _ (λ t. false≢true (sym c.if-wanted.false ∙ t))
