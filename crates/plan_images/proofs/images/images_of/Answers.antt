use Rattle.std.proofs.Common.{List, sym, subst}
use Rattle.file_convert.specs.declared.cut.Cuts.{Cuts}
use Rattle.plan_images.specs.Tables.{AreImagesOf, AreLabelled}
use Rattle.plan_images.proofs.Filling.{all_ordered, images, labelled}
use Rattle.plan_images.proofs.images.images_of.Goals as goal

pub tables_of-requires : goal.tables_of-requires
tables_of-requires c = all_ordered c.args.lengths.now c.args.modes.now c.in_ok-cuts.cuts.items c.requires c.in_ok-cuts.ensures

pub returns-clause-tables : goal.returns-clause-tables
returns-clause-tables c =
    subst (λ (ts : List Cuts). AreImagesOf c.args.lengths.now c.args.modes.now ts) (sym c.in_ok-tables.ensures.same)
    (images c.args.lengths.now c.args.modes.now c.in_ok-cuts.cuts.items c.requires c.in_ok-cuts.ensures)

pub returns-clause-labelled : goal.returns-clause-labelled
returns-clause-labelled c =
    subst (λ (ts : List Cuts). AreLabelled c.args.modes.now ts) (sym c.in_ok-tables.ensures.same)
    (labelled c.args.lengths.now c.args.modes.now c.in_ok-cuts.cuts.items (images c.args.lengths.now c.args.modes.now c.in_ok-cuts.cuts.items c.requires c.in_ok-cuts.ensures))
