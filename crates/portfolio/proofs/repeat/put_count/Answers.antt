use Rattle.portfolio.proofs.Counts.{put_count}
use Rattle.portfolio.proofs.repeat.put_count.Goals as goal

pub returns : goal.returns
returns c = put_count c.args.name.now c.args.counts.now c.insert.new.self c.args.count c.in_ok-insert.ensures.updates
