use Rattle.std.proofs.Common.{rules, ◌∙◌}
use Rattle.seq_files.proofs.HeldLaws.{concat-held}
use Rattle.seq_files.proofs.held.HeldFile.bytes.Goals as goal

pub returns-clause-records : goal.returns-clause-records
returns-clause-records c = search (rules) ∙ concat-held c.args.self.now.size c.args.self.now.bytes c.args.self.now.whole
