use Rattle.std.specs.Prelude.{map}
use Rattle.std.proofs.Common.{ap, sym, ◌∙◌}
use Rattle.program_meaning.specs.Files.{closed}
use Rattle.program_meaning.specs.Start as meant
use Rattle.seq_files.specs.Disks.{disks}
use Rattle.seq_files.specs.declared.store.Store.{Store}
use Rattle.storage_places.specs.Held.{held}
use Rattle.y2k_base.specs.declared.list.List.{List}
use Rattle.trial_run.specs.Answers.{read_shown}
use Rattle.trial_run.specs.Plans.{program_of}
use Rattle.trial_run.specs.declared.job.Shown.{Shown}
use Rattle.trial_run.proofs.Ended.{begun}
use Rattle.trial_run.proofs.progress.Progress.begin.Goals as goal

pub returns-clause-state : goal.returns-clause-state
returns-clause-state c =
    sym (c.start-position.ensures (program_of c.args.plan.now)
    (record { storage = held c.in_ok-storage.storage; files = disks c.close_all.new.self; shown = map read_shown c.replace-shown.result }) c.requires.plan.paragraphs)
    ∙ begun (program_of c.args.plan.now) (held c.in_ok-storage.storage) (meant.start (program_of c.args.plan.now).layout)
    (disks c.close_all.new.self) (closed (disks c.args.self.now.store)) (map read_shown c.replace-shown.result) (map read_shown c.args.self.now.shown)
    c.in_ok-storage.ensures.held
    (c.close_all.ensures ∙ ap (λ (x : Store). closed (disks x)) c.replace-store.ensures.value)
    (ap (λ (x : List Shown). map read_shown x) c.replace-shown.ensures.value)
