use Rattle.std.proofs.Common.{◌∙◌, length}
use Rattle.data_layout.specs.Sections.{record_area, tops}
use Rattle.data_layout.proofs.InSections.{count-of, step-files, step-file_conds, step-file_areas, step-after, step-count}
use Rattle.data_layout.proofs.sections.lay_files.Goals as goal

pub loop-file-preserved : goal.loop-file-preserved
loop-file-preserved c =
    let splits = c.in-Some.ensures.some in
    let file = c.in-Some.file.now in
    let rest = c.loop-file.rest.now in
    let more = c.in-Some.more.now in
    let id = c.loop-file.id in
    let next = c.in_ok-id.id in
    let xs = c.loop-file.sheet.items in
    let zs = c.lay_file.new.sheet.items in
    let laid = c.in_ok-lay_file.ensures.items in
    let count = count-of (record_area id) (tops file.entries) xs zs laid in (
      step-files id next file rest more xs zs splits c.in_ok-id.ensures laid ∙ c.loop-file.invariant.0,
      step-file_conds (length xs) (length zs) file rest more c.loop-file.sheet.conds c.lay_file.new.sheet.conds splits count c.in_ok-lay_file.ensures.conds ∙ c.loop-file.invariant.1,
      step-file_areas id next c.in_ok-file_area.field-0 file rest more c.loop-file.areas c.push.new.self splits c.in_ok-id.ensures c.in_ok-file_area.ensures c.in_ok-push.ensures.ok ∙ c.loop-file.invariant.2,
      step-after id next file rest more splits c.in_ok-id.ensures ∙ c.loop-file.invariant.3,
      step-count (length xs) (length zs) file rest more splits count ∙ c.loop-file.invariant.4,
    )
