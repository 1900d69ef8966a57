use Rattle.std.proofs.Common.{pos, ap, ◌∙◌, codes}
use Rattle.toml.specs.View.{members_view}
use Rattle.manifest_text.proofs.TreeLaws.{numbered}
use Rattle.manifest_text.proofs.text.set_version.Goals as goal

pub returns : goal.returns
returns c =
    ap members_view c.in_ok-insert.ensures.entries
    ∙ numbered c.in_ok-key.key (codes "version") (pos 2) c.args.tree.now.entries c.in_ok-key.ensures.ok
