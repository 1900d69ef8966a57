use Rattle.std.proofs.Common.{ap, ◌∙◌}
use Rattle.program_channels.proofs.Found.{chosen, placed}
use Rattle.program_channels.proofs.channels.Channels.at_area.Goals as goal

pub returns-in-Some-clause-found : goal.returns-in-Some-clause-found
returns-in-Some-clause-found c =
    c.channel.ensures.found
    ∙ ap (chosen c.args.self.now.list.items) (c.in-Some.ensures.value ∙ c.args.self.now.at c.args.area)
    ∙ placed c.args.area c.args.self.now.list.items

pub returns-in-None-clause-found : goal.returns-in-None-clause-found
returns-in-None-clause-found c =
    ap (chosen c.args.self.now.list.items) (c.in-None.ensures.value ∙ c.args.self.now.at c.args.area)
    ∙ placed c.args.area c.args.self.now.list.items
