use Rattle.std.proofs.Common.{List, ap, ◌∙◌, slice_set}
use Rattle.data_layout.specs.declared.portfolio.FileArea.{FileArea}
use Rattle.file_uses.proofs.Added.{set_added}
use Rattle.file_uses.proofs.table.add_area.Goals as goal

pub returns : goal.returns
returns c =
    let x = c.index_mut.result.now in
    ap (λ (areas : List FileArea). slice_set c.args.files.now.items c.args.index (record { external = x.external; name = x.name; length = x.length; areas = areas })) c.in_ok-push.ensures.ok
    ∙ set_added c.args.files.now.items c.args.index c.args.area x c.index_mut.ensures.value
