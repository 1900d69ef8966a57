use Rattle.std.proofs.Common.{length, sym, ap, ◌∙◌}
use Rattle.gathered.specs.declared.gathering.Gathered.{Gathered}
use Rattle.layout_reading.specs.Reading.{programs_of}
use Rattle.seq_files.specs.Disks.{disks}
use Rattle.seq_files.specs.declared.store.Store.{Store}
use Rattle.trial_run.specs.Answers.{read_day}
use Rattle.run_command.proofs.KeptLaws.{job-kept}
use Rattle.run_command.proofs.Said.{parts_answered}
use Rattle.run_command.proofs.report.run_prepared.Goals as goal

pub finish-requires : goal.finish-requires
finish-requires g c =
    let parts = c.into_parts-gathered in
    ap length (sym c.in-Ok.ensures.files)
    ∙ job-kept (read_day c.args.day) (programs_of parts.result.0.portfolio parts.result.1.programs) (disks parts.result.2) c.args.bound
    ∙ ap (λ (s : Store). length (disks s)) parts.ensures.store
    ∙ c.requires.files
    ∙ ap (λ (h : Gathered). length h.portfolio.files) (sym parts.ensures.gathered)

pub returns-in-Ok-clause-answer : goal.returns-in-Ok-clause-answer
returns-in-Ok-clause-answer g c =
    let parts = c.into_parts-gathered in
    parts_answered _ _ c.args.opened.now c.args.out.now c.args.day c.args.bound c.args.prepared parts.result.0 parts.result.1 parts.result.2 c.in-Ok.end _ _ _
    parts.ensures.gathered parts.ensures.job parts.ensures.store
    (record { ends = c.in-Ok.ensures.ends; files = c.in-Ok.ensures.files; shown = c.in-Ok.ensures.shown }) c.finish.ensures.answer
