use Rattle.std.proofs.Common.{◌∙◌}
use Rattle.fixed_format.proofs.PartLaws.{reads_text}
use Rattle.fixed_format.proofs.scan.read_text.Goals as goal

pub returns-in-Ok : goal.returns-in-Ok
returns-in-Ok c = c.in-Ok.ensures ∙ reads_text c.args.file c.args.is_cut c.args.found c.args.chars.now
