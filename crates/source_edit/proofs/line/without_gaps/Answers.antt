use Rattle.std.proofs.Common.{◌∙◌}
use Rattle.source_edit.specs.Lines.{is_gap}
use Rattle.source_edit.proofs.Trimming.{trimmed_back}
use Rattle.source_edit.proofs.line.without_gaps.Goals as goal

pub returns : goal.returns
returns c = c.without_last_gaps.ensures ∙ trimmed_back is_gap c.args.bytes.now
