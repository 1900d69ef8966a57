use Rattle.std.proofs.Common.{arith}
use Rattle.std.proofs.lemmas.List.Elements.{Contains-get_or}
use Rattle.conflict_chain.proofs.order.seed_at.Goals as goal

pub returns-then-index-seeds : goal.returns-then-index-seeds
returns-then-index-seeds c = Contains-get_or c.args.seeds.now c.args.index _ (omega arith)
