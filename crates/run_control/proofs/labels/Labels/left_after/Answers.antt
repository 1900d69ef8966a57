use Rattle.std.proofs.Common.{ap, sym, ◌∙◌}
use Rattle.program_meaning.specs.State.{after_range}
use Rattle.run_control.specs.Program.{paragraphs_of}
use Rattle.run_control.proofs.Named.{stands, absent}
use Rattle.run_control.proofs.labels.Labels.left_after.Goals as goal

pub returns-in-Some : goal.returns-in-Some
returns-in-Some c =
    sym (stands c.args.name.now (paragraphs_of c.args.self.now) c.in-Some.label (sym (c.args.self.now.found c.args.name.now) ∙ sym c.in-Some.ensures)).after

pub returns-in-None : goal.returns-in-None
returns-in-None c =
    sym (ap after_range (absent c.args.name.now (paragraphs_of c.args.self.now) (sym (c.args.self.now.found c.args.name.now) ∙ sym c.in-None.ensures)))
