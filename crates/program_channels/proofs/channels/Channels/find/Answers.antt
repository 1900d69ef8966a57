use Rattle.std.proofs.Common.{ap, ◌∙◌}
use Rattle.program_channels.proofs.Found.{chosen, named}
use Rattle.program_channels.proofs.channels.Channels.find.Goals as goal

pub returns-in-Some-clause-found : goal.returns-in-Some-clause-found
returns-in-Some-clause-found c =
    c.channel.ensures.found
    ∙ ap (chosen c.args.self.now.list.items) (c.in-Some.ensures ∙ c.args.self.now.named c.args.name.now)
    ∙ named c.args.name.now c.args.self.now.list.items

pub returns-in-None-clause-found : goal.returns-in-None-clause-found
returns-in-None-clause-found c =
    ap (chosen c.args.self.now.list.items) (c.in-None.ensures ∙ c.args.self.now.named c.args.name.now)
    ∙ named c.args.name.now c.args.self.now.list.items
