use Rattle.std.proofs.Common.{Some}
use Rattle.label_spread.proofs.FactSets.{put_held}
use Rattle.label_spread.proofs.fact_set.FactSet.put.Goals as goal

pub returns-clause-ok : goal.returns-clause-ok
returns-clause-ok c = put_held c.args.self.now.blocks c.insert.new.self c.args.block (Some c.args.bytes) c.in_ok-insert.ensures.updates.0
