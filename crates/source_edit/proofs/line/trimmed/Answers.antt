use Rattle.std.proofs.Common.{◌∙◌}
use Rattle.fixed_format.specs.Columns.{is_space}
use Rattle.source_edit.proofs.Trimming.{trimmed_back}
use Rattle.source_edit.proofs.line.trimmed.Goals as goal

pub returns : goal.returns
returns c = c.without_last_spaces.ensures ∙ trimmed_back is_space c.args.bytes.now
