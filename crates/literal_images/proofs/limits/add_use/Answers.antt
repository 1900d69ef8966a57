use Rattle.std.proofs.Common.{Option, refl}
use Rattle.cobol_syntax.specs.declared.program.Program.{Program}
use Rattle.literal_images.specs.Limits.{program_limits}
use Rattle.literal_images.proofs.Found.{adds_found, adds_none}
use Rattle.literal_images.proofs.limits.add_use.Goals as goal

pub returns-in-None : goal.returns-in-None
returns-in-None c =
    adds_none (λ (found : Option Program). program_limits c.args.index.now found c.args.date_use.now.form)
    c.args.programs.now c.args.date_use.now.program c.args.limits.now c.in-None.ensures.lookup.3 refl

pub returns-in_ok-add_form-in-Some : goal.returns-in_ok-add_form-in-Some
returns-in_ok-add_form-in-Some c =
    adds_found (λ (found : Option Program). program_limits c.args.index.now found c.args.date_use.now.form)
    c.args.programs.now c.args.date_use.now.program c.in-Some.program.now c.args.limits.now c.add_form.new.limits
    c.in-Some.ensures.lookup.3.0 c.in-Some.ensures.lookup.1 c.in_ok-add_form-in-Some.ensures
