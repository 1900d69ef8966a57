use Rattle.label_spread.proofs.FactSets.{none_marked}
use Rattle.label_spread.proofs.fact_set.no_bytes.Goals as goal

pub returns : goal.returns
returns c = none_marked
