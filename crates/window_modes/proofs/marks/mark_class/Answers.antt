use Rattle.std.proofs.Common.{ap, get_or, None, false}
use Rattle.std.proofs.lemmas.List.{get_or_default}
use Rattle.std.proofs.Math.ListN.{set}
use Rattle.window_modes.specs.declared.marks.Mark.{Mark}
use Rattle.window_modes.proofs.Classes.{marked_class}
use Rattle.window_modes.proofs.marks.mark_class.Goals as goal

pub returns : goal.returns
returns c =
    let marks = c.args.marks.now in
    let none : Mark = record { pivot = None; clash = false } in
    let mark : Mark = get_or marks c.args.class none in
    marked_class marks _ c.args.class c.args.pivot mark (ap (set marks c.args.class) c.hit.ensures) (get_or_default marks c.args.class none mark c.requires) c.requires
