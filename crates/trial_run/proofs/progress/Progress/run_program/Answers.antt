use Rattle.std.specs.Prelude.{◌≡◌, ◌∷◌, slice_index_or}
use Rattle.std.proofs.Common.{ap, subst, ◌∙◌, get_or, List}
use Rattle.cobol_syntax.specs.declared.program.Program.{Program}
use Rattle.data_layout.specs.declared.item.Layout.{Layout}
use Rattle.data_layout.specs.declared.portfolio.FileUse.{FileUse}
use Rattle.layout_reading.specs.Reading.{read_program, read_portfolio, no_program}
use Rattle.program_meaning.specs.Job.{job_run}
use Rattle.program_meaning.specs.State as state
use Rattle.trial_run.specs.Answers.{read_day}
use Rattle.trial_run.specs.Jobs.{HasPassed, state_before}
use Rattle.trial_run.specs.Plans.{program_of}
use Rattle.trial_run.specs.declared.day.Day.{Day}
use Rattle.trial_run.proofs.Ended.{program_at}
use Rattle.trial_run.proofs.progress.Progress.run_program.Goals as goal

pub returns : goal.returns
returns c = λ rest.
    let is_program : c.index-items-number.result ≡ get_or c.args.portfolio.now.programs c.args.number c.index-items-number.result =
    subst (λ (ps : List Program). c.index-items-number.result ≡ get_or ps c.args.number c.index-items-number.result) c.items.ensures c.index-items-number.is in
    let is_layout : c.index-items-number-2.result ≡ get_or c.args.portfolio.now.layouts c.args.number c.index-items-number-2.result =
    subst (λ (ls : List Layout). c.index-items-number-2.result ≡ get_or ls c.args.number c.index-items-number-2.result) c.items-2.ensures c.index-items-number-2.is in
    let same : program_of c.in_ok-plan.plan ≡ slice_index_or (read_portfolio c.args.portfolio.now) c.args.number no_program =
    ap (λ (fs : List FileUse). read_program fs c.in_ok-plan.plan.program.now c.in_ok-plan.plan.layout.now) (c.in_ok-plan.ensures.files ∙ c.items-3.ensures)
    ∙ ap (λ (p : Program). read_program c.args.portfolio.now.files p c.in_ok-plan.plan.layout.now) c.in_ok-plan.ensures.program
    ∙ ap (λ (l : Layout). read_program c.args.portfolio.now.files c.index-items-number.result l) c.in_ok-plan.ensures.layout
    ∙ program_at c.args.portfolio.now.files c.args.portfolio.now.programs c.args.portfolio.now.layouts c.args.number c.index-items-number.result c.index-items-number-2.result
    c.requires.program c.requires.layout is_program is_layout in
    subst (λ (p : state.Program). HasPassed (read_day c.args.day) (job_run (read_day c.args.day) c.args.self.now.left (state_before (p ∷ rest) c.args.self.now)) rest c.run_plan.new.self c.in_ok-end.end) same
    (subst (λ (d : Day). HasPassed (read_day d) (job_run (read_day d) c.args.self.now.left (state_before (program_of c.in_ok-plan.plan ∷ rest) c.args.self.now)) rest c.run_plan.new.self c.in_ok-end.end) c.in_ok-plan.ensures.day
    (c.in_ok-end.ensures rest))
