use Rattle.std.proofs.Common.{ap, ◌∙◌}
use Rattle.toml.specs.View.{members_view}
use Rattle.manifest_text.proofs.TreeLaws.{removed}
use Rattle.manifest_text.proofs.text.leave_out.Goals as goal

pub returns : goal.returns
returns c = ap members_view c.remove.ensures.entries ∙ removed c.args.key.now c.args.tree.now.entries
