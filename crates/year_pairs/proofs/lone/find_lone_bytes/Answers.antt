use Rattle.std.proofs.Common.{List, arith, sym, subst}
use Rattle.year_labels.specs.declared.label.Fact.{Fact}
use Rattle.year_pairs.specs.Lone.{AreLoneUpTo}
use Rattle.year_pairs.proofs.Rows.{none_alone, lone_all, none_lone}
use Rattle.year_pairs.proofs.Whole.{covered}
use Rattle.year_pairs.proofs.lone.find_lone_bytes.Goals as goal

pub loop-index-init : goal.loop-index-init
loop-index-init c = subst (λ (ys : List Fact). AreLoneUpTo c.args.labelling.now 0 ys) (sym c.new-lone.ensures) (none_alone c.args.labelling.now)

pub returns-clause-lone : goal.returns-clause-lone
returns-clause-lone c = lone_all c.args.labelling.now c.loop-index.index _ (omega arith) c.loop-index.invariant

pub returns-clause-covered : goal.returns-clause-covered
returns-clause-covered c = λ none. covered c.args.labelling.now (none_lone c.args.labelling.now c.loop-index.index _ (omega arith) c.loop-index.invariant none)
