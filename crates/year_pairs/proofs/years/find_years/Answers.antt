use Rattle.std.proofs.Common.{List, arith, sym, subst}
use Rattle.year_pairs.specs.declared.year.Year.{Year}
use Rattle.year_pairs.specs.Years.{AreYearsUpTo}
use Rattle.year_pairs.proofs.Rows.{none_yet, years_all}
use Rattle.year_pairs.proofs.years.find_years.Goals as goal

pub loop-index-init : goal.loop-index-init
loop-index-init c = subst (λ (ys : List Year). AreYearsUpTo c.args.labelling.now 0 ys) (sym c.new-years.ensures) (none_yet c.args.labelling.now)

pub returns : goal.returns
returns c = years_all c.args.labelling.now c.loop-index.index _ (omega arith) c.loop-index.invariant
