use Rattle.year_labels.specs.Forms.{IsCopied}
use Rattle.label_spread.proofs.Growth.{Reacts-both}
use Rattle.label_spread.proofs.forms.react_alike.Goals as goal

pub returns-in_ok-copy_label-in-Alike-2 : goal.returns-in_ok-copy_label-in-Alike-2
returns-in_ok-copy_label-in-Alike-2 c =
    let a = c.in-Alike.a in
    let b = c.in-Alike.b in
    rw c.in-Alike.is (Reacts-both (IsCopied a b) (IsCopied b a) c.args.fact _ _ _ c.in_ok-copy_label-in-Alike.ensures c.in_ok-copy_label-in-Alike-2.ensures)
