-- What is said is an answer.
use Rattle.std.proofs.Common.{◌≡◌, ℕ, List, [], Option, inl, inr, refl, sym, subst}
use Rattle.answers.specs.Said.{IsSaid}
use Rattle.data_layout.specs.declared.portfolio.FileUse.{FileUse}
use Rattle.gathered.specs.declared.gathering.Gathered.{Gathered}
use Rattle.job_files.specs.Written.{HasWriteFault}
use Rattle.job_files.specs.declared.refusal.WriteFault.{WriteFault}
use Rattle.manifest_load.specs.Documents.{HasManifestRefusal, IsOpened}
use Rattle.manifest_load.specs.declared.open.Opened.{Opened}
use Rattle.manifest_load.specs.declared.refusal.ManifestRefusal.{ManifestRefusal}
use Rattle.portfolio.specs.declared.manifest.Named.{Named}
use Rattle.refusal_lines.specs.Lines as lines
use Rattle.run_lines.specs.Lines.{job_status}
use Rattle.shelf.specs.Contents.{Files}
use Rattle.layout_reading.specs.Reading.{programs_of}
use Rattle.program_meaning.specs.Job.{job_after}
use Rattle.seq_files.specs.Disks.{disks}
use Rattle.seq_files.specs.declared.store.Store.{Store}
use Rattle.trial_run.specs.Answers.{read_day}
use Rattle.trial_run.specs.declared.day.Day.{Day}
use Rattle.trial_run.specs.declared.job.Job.{Job}
use Rattle.trial_run.specs.declared.job.JobEnd.{JobEnd}
use Rattle.run_command.specs.Answer.{IsEnd, IsAnswer, IsAnswered, IsAnswerFor, IsAnswerOf, IsEndOf, IsOrMemory, IsOutcome, IsOutcomeFor, IsPartWritten, IsWritten, fault_line, fault_status, lines_of}
use Rattle.run_command.specs.Refused.{HasRunRefusal, IsPrepared, run_line, run_status}
use Rattle.run_command.specs.declared.prepared.Prepared.{Prepared}
use Rattle.run_command.specs.declared.refusal.RunRefusal.{RunRefusal}

abbrev pub Answered : Type 1
Answered = ℕ → List ℕ → Option Files → Type 0

-- an answer is said
pub said_answered : (A : Answered) (wanted status : ℕ) (text : List ℕ) (before after : Option (List ℕ)) (now : Option Files)
    → A wanted text now → IsSaid wanted text before after status → IsAnswered A before after now status
said_answered A wanted status text before after now a (inl p) = inl (text, p.1, subst (λ (s : ℕ). A s text now) (sym p.0) a)
said_answered A wanted status text before after now a (inr fault) = inr (fault, (wanted, text, a))

-- and it is an answer to something else too
pub answered_by : (A B : Answered) (before after : Option (List ℕ)) (now : Option Files) (status : ℕ)
    → ((s : ℕ) (t : List ℕ) → A s t now → B s t now) → IsAnswered A before after now status → IsAnswered B before after now status
answered_by A B before after now status f (inl (text, printed, a)) = inl (text, printed, f status text a)
answered_by A B before after now status f (inr (fault, (wanted, text, a))) = inr (fault, (wanted, text, f wanted text a))

-- where memory runs out, nothing is printed
pub memory_answered : (A : Answered) (before after : Option (List ℕ)) (now : Option Files) → A 8 [] now → IsAnswered A before after now 8
memory_answered A before after now a = inr (inr refl, (8, [], a))

pub outcome_answered : (told now : Option Files) (listed : List Named) (out : List ℕ) (files : List FileUse) (text : List ℕ) (e : JobEnd) (before after : Option (List ℕ)) (status : ℕ)
    → IsWritten told listed out files e now → IsSaid (job_status e.ends) text before after status → IsAnswered (IsOutcome told listed out files text e) before after now status
outcome_answered told now listed out files text e before after status written said =
    said_answered (IsOutcome told listed out files text e) (job_status e.ends) status text before after now (inl (refl, refl, written)) said

pub fault_answered : (told now : Option Files) (listed : List Named) (out : List ℕ) (files : List FileUse) (text : List ℕ) (e : JobEnd) (f : WriteFault) (before after : Option (List ℕ)) (status : ℕ)
    → HasWriteFault out listed f → IsPartWritten told listed out files e now → IsSaid (fault_status f) (fault_line f) before after status
    → IsAnswered (IsOutcome told listed out files text e) before after now status
fault_answered told now listed out files text e f before after status cause left said =
    said_answered (IsOutcome told listed out files text e) (fault_status f) status (fault_line f) before after now (inr (f, cause, refl, refl, left)) said

pub finish_answered : (told now : Option Files) (opened : Opened) (out : List ℕ) (g : Gathered) (job : Job) (e : JobEnd) (listed : List Named) (files : List FileUse) (text : List ℕ)
    → (before after : Option (List ℕ)) (status : ℕ) → listed ≡ opened.manifest.files → files ≡ g.portfolio.files → text ≡ lines_of opened.manifest g job e
    → IsAnswered (IsOutcome told listed out files text e) before after now status
    → IsAnswered (IsOrMemory told (IsOutcomeFor told opened out g job e)) before after now status
finish_answered told now opened out g job e listed files text before after status names uses same answer =
    answered_by (IsOutcome told listed out files text e) (IsOrMemory told (IsOutcomeFor told opened out g job e)) before after now status
    (λ (s : ℕ) (t : List ℕ) (o : IsOutcome told listed out files text e s t now).
    inl (subst (λ (ns : List Named). IsOutcome told ns out g.portfolio.files (lines_of opened.manifest g job e) e s t now) names
    (subst (λ (fs : List FileUse). IsOutcome told listed out fs (lines_of opened.manifest g job e) e s t now) uses
    (subst (λ (u : List ℕ). IsOutcome told listed out files u e s t now) same o))))
    answer

pub or_memory : (A : Answered) (told : Option Files) (before after : Option (List ℕ)) → IsAnswered (IsOrMemory told A) before after told 8
or_memory A told before after = memory_answered (IsOrMemory told A) before after told (inr (refl, refl, refl))

run_either : (told now : Option Files) (opened : Opened) (out : List ℕ) (day : Day) (bound : ℕ) (p : Prepared) (e : JobEnd) (s : ℕ) (t : List ℕ) → IsEndOf day bound p e
    → IsOrMemory told (IsOutcomeFor told opened out p.gathered p.job e) s t now → IsAnswerOf told opened out day bound p s t now
run_either told now opened out day bound p e s t is (inl o) = inl (e, is, o)
run_either told now opened out day bound p e s t is (inr m) = inr m

pub run_answered : (told now : Option Files) (opened : Opened) (out : List ℕ) (day : Day) (bound : ℕ) (p : Prepared) (e : JobEnd) (before after : Option (List ℕ)) (status : ℕ) → IsEndOf day bound p e
    → IsAnswered (IsOrMemory told (IsOutcomeFor told opened out p.gathered p.job e)) before after now status → IsAnswered (IsAnswerOf told opened out day bound p) before after now status
run_answered told now opened out day bound p e before after status is answer =
    answered_by (IsOrMemory told (IsOutcomeFor told opened out p.gathered p.job e)) (IsAnswerOf told opened out day bound p) before after now status
    (λ (s : ℕ) (t : List ℕ) (o : IsOrMemory told (IsOutcomeFor told opened out p.gathered p.job e) s t now). run_either told now opened out day bound p e s t is o)
    answer

told_prepared : (told now : Option Files) (main job out : List ℕ) (day : Day) (bound : ℕ) (opened : Opened) (p : Prepared) (before after : Option (List ℕ)) (status : ℕ)
    → IsPrepared told main job out opened p → IsAnswered (IsAnswerOf told opened out day bound p) before after now status
    → IsAnswered (IsAnswerFor told main job day bound out opened) before after now status
told_prepared told now main job out day bound opened p before after status is answer =
    answered_by (IsAnswerOf told opened out day bound p) (IsAnswerFor told main job day bound out opened) before after now status
    (λ (s : ℕ) (t : List ℕ) (o : IsAnswerOf told opened out day bound p s t now). inl (p, is, o))
    answer

-- what was prepared changes nothing of what is told
pub prepared_answered : (told mid now : Option Files) (main job out : List ℕ) (day : Day) (bound : ℕ) (opened : Opened) (p : Prepared) (before after : Option (List ℕ)) (status : ℕ)
    → mid ≡ told → IsPrepared told main job out opened p → IsAnswered (IsAnswerOf mid opened out day bound p) before after now status
    → IsAnswered (IsAnswerFor told main job day bound out opened) before after now status
prepared_answered told mid now main job out day bound opened p before after status same is answer =
    told_prepared told now main job out day bound opened p before after status is
    (subst (λ (t : Option Files). IsAnswered (IsAnswerOf t opened out day bound p) before after now status) same answer)

pub refusal_answered : (told now : Option Files) (main job out : List ℕ) (day : Day) (bound : ℕ) (opened : Opened) (r : RunRefusal) (before after : Option (List ℕ)) (status : ℕ)
    → now ≡ told → HasRunRefusal told main job out opened r → IsSaid (run_status r) (run_line opened.manifest job out r) before after status
    → IsAnswered (IsAnswerFor told main job day bound out opened) before after now status
refusal_answered told now main job out day bound opened r before after status same cause said =
    said_answered (IsAnswerFor told main job day bound out opened) (run_status r) status (run_line opened.manifest job out r) before after now (inr (r, cause, refl, refl, same)) said

told_opened : (told now : Option Files) (main job out : List ℕ) (day : Day) (bound : ℕ) (opened : Opened) (before after : Option (List ℕ)) (status : ℕ) → IsOpened main told opened
    → IsAnswered (IsAnswerFor told main job day bound out opened) before after now status → IsAnswered (IsAnswer told main job day bound out) before after now status
told_opened told now main job out day bound opened before after status is answer =
    answered_by (IsAnswerFor told main job day bound out opened) (IsAnswer told main job day bound out) before after now status
    (λ (s : ℕ) (t : List ℕ) (o : IsAnswerFor told main job day bound out opened s t now). inl (opened, is, o))
    answer

-- a manifest that was opened changes nothing of what is told
pub opened_answered : (told mid now : Option Files) (main job out : List ℕ) (day : Day) (bound : ℕ) (opened : Opened) (before after : Option (List ℕ)) (status : ℕ)
    → mid ≡ told → IsOpened main told opened → IsAnswered (IsAnswerFor mid main job day bound out opened) before after now status
    → IsAnswered (IsAnswer told main job day bound out) before after now status
opened_answered told mid now main job out day bound opened before after status same is answer =
    told_opened told now main job out day bound opened before after status is
    (subst (λ (t : Option Files). IsAnswered (IsAnswerFor t main job day bound out opened) before after now status) same answer)

pub manifest_answered : (told now : Option Files) (main job out : List ℕ) (day : Day) (bound : ℕ) (r : ManifestRefusal) (before after : Option (List ℕ)) (status : ℕ)
    → now ≡ told → HasManifestRefusal main told r → IsSaid (lines.manifest_status r) (lines.manifest_line main r) before after status
    → IsAnswered (IsAnswer told main job day bound out) before after now status
manifest_answered told now main job out day bound r before after status same cause said =
    said_answered (IsAnswer told main job day bound out) (lines.manifest_status r) status (lines.manifest_line main r) before after now (inr (r, cause, refl, refl, same)) said

-- the parts of what was prepared
end_of : (day : Day) (bound : ℕ) (p : Prepared) (g : Gathered) (job : Job) (store : Store) (e : JobEnd) → g ≡ p.gathered → job ≡ p.job → store ≡ p.store
    → IsEnd (job_after (read_day day) (programs_of g.portfolio job.programs) (disks store) bound) e → IsEndOf day bound p e
end_of day bound p g job store e gathered jobs stores is =
    subst (λ (s : Store). IsEnd (job_after (read_day day) (programs_of p.gathered.portfolio p.job.programs) (disks s) bound) e) stores
    (subst (λ (j : Job). IsEnd (job_after (read_day day) (programs_of p.gathered.portfolio j.programs) (disks store) bound) e) jobs
    (subst (λ (h : Gathered). IsEnd (job_after (read_day day) (programs_of h.portfolio job.programs) (disks store) bound) e) gathered is))

pub parts_answered : (told now : Option Files) (opened : Opened) (out : List ℕ) (day : Day) (bound : ℕ) (p : Prepared) (g : Gathered) (job : Job) (store : Store) (e : JobEnd)
    → (before after : Option (List ℕ)) (status : ℕ) → g ≡ p.gathered → job ≡ p.job → store ≡ p.store
    → IsEnd (job_after (read_day day) (programs_of g.portfolio job.programs) (disks store) bound) e
    → IsAnswered (IsOrMemory told (IsOutcomeFor told opened out g job e)) before after now status → IsAnswered (IsAnswerOf told opened out day bound p) before after now status
parts_answered told now opened out day bound p g job store e before after status gathered jobs stores is answer =
    run_answered told now opened out day bound p e before after status (end_of day bound p g job store e gathered jobs stores is)
    (subst (λ (j : Job). IsAnswered (IsOrMemory told (IsOutcomeFor told opened out p.gathered j e)) before after now status) jobs
    (subst (λ (h : Gathered). IsAnswered (IsOrMemory told (IsOutcomeFor told opened out h job e)) before after now status) gathered answer))
