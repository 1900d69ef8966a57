use Rattle.std.proofs.Common.{rules, List, sym, subst}
use Rattle.y2k_base.specs.declared.edit.Edit.{Edit}
use Rattle.y2k_base.specs.Edits.{AreJoined}
use Rattle.y2k_base.proofs.EditLaws.{joined-is}
use Rattle.y2k_base.proofs.edit.join_edits.Goals as goal

pub returns : goal.returns
returns c =
    subst (λ (xs : List Edit). AreJoined c.args.first.list c.args.second.list xs) (sym c.from_vec.ensures)
    (joined-is c.args.first.list c.args.second.list _ _ (search rules) c.in_ok-put_in_order.ensures.sorted c.in_ok-put_in_order.ensures.stable)
