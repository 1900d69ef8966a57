use Rattle.window_modes.proofs.Classes.{classes}
use Rattle.window_modes.proofs.modes.classes_of.Goals as goal

pub returns : goal.returns
returns c = classes c.args.years.now c.args.links.now c.in_ok-sets.sets _ c.in_ok-names.names c.in_ok-sets.ensures.long c.in_ok-sets.ensures.apart c.in_ok-join_links.ensures c.in_ok-names.ensures
