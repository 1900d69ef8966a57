-- Programs and jobs from step to step, and from program to program.
use Rattle.std.specs.Prelude.{◌≡◌, ℕ, zero, suc, ◌<◌, List, [], ◌∷◌, ◌++◌, length, map, slice_index_or}
use Rattle.std.proofs.Common.{ap, refl, sym, subst, ◌∙◌, ◌≤◌, ◌-◌, arith, get_or, take, drop}
use Rattle.std.specs.List.{AllByRecursion}
use Rattle.std.proofs.lemmas.List.{map-append, take_rest}
use Rattle.cobol_syntax.specs.declared.program.Program as tree
use Rattle.data_layout.specs.declared.item.Layout.{Layout}
use Rattle.data_layout.specs.declared.portfolio.FileUse.{FileUse}
use Rattle.data_layout.specs.declared.portfolio.Portfolio.{Portfolio}
use Rattle.layout_reading.specs.Reading.{read_program, read_programs, read_portfolio, programs_of, no_program}
use Rattle.program_meaning.specs.Files.{Disk}
use Rattle.program_meaning.specs.Job.{JobState, Going, Over, Ended, Failed, job_run, passed_on, next_program, ends_of, files_of, shown_of}
use Rattle.program_meaning.specs.Job as job
use Rattle.program_meaning.specs.State.{Program, World, State, Stopped, Faulted, on, at_front}
use Rattle.program_meaning.specs.State as state
use Rattle.program_meaning.specs.Step.{Calendar, step}
use Rattle.program_meaning.specs.Storage.{Storage}
use Rattle.cobol_syntax.specs.declared.statement.StatementId.{StatementId}
use Rattle.tree_reading.specs.Reading.{read_id}
use Rattle.seq_files.specs.Disks.{disks}
use Rattle.trial_run.specs.Answers.{read_end, read_shown, read_kind}
use Rattle.trial_run.specs.Jobs.{HasEnded, HasPassed, Answers, state_before}
use Rattle.trial_run.specs.Plans.{day_of}
use Rattle.trial_run.specs.Runs.{world_of, state_of, HasStepped}
use Rattle.trial_run.specs.declared.end.End.{End}
use Rattle.trial_run.specs.declared.end.End.TheVariants as end
use Rattle.trial_run.specs.declared.end.FaultKind.{FaultKind}
use Rattle.trial_run.specs.declared.plan.Plan.{Plan}
use Rattle.trial_run.specs.declared.progress.Progress.{Progress}
use Rattle.trial_run.specs.declared.run.Run.{Run}
use Rattle.trial_run.specs.declared.run.Stepped.{Stepped}
use Rattle.trial_run.specs.declared.run.Stepped.TheVariants as stepped

module _ (day : Calendar) where
  pub over_stays : (n : ℕ) (ends : List job.End) (files : List Disk) (shown : List state.Shown) → job_run day n (Over ends files shown) ≡ Over ends files shown
  over_stays zero ends files shown = refl
  over_stays (suc n) ends files shown = over_stays n ends files shown

  module _ (program : Program) (ends : List job.End) (rest : List Program) (s : State) where
    -- one step of a job whose program is running
    one_step : (n m : ℕ) → n ≡ suc m → job_run day n (Going ends program s rest) ≡ job_run day m (passed_on ends program rest (step program day s))
    one_step n m more = ap (λ (k : ℕ). job_run day k (Going ends program s rest)) more

    after_step : (m : ℕ) (x : State) → step program day s ≡ x → job_run day m (passed_on ends program rest (step program day s)) ≡ job_run day m (passed_on ends program rest x)
    after_step m x is = ap (λ (y : State). job_run day m (passed_on ends program rest y)) is

    pub step_on : (n m : ℕ) (new : Run) (e : Stepped) → n ≡ suc m → e ≡ stepped.On → HasStepped (step program day s) new e
        → job_run day n (Going ends program s rest) ≡ job_run day m (Going ends program (state_of new) rest)
    step_on n m new e more on steps = one_step n m more ∙ after_step m (state_of new) (subst (λ (x : Stepped). HasStepped (step program day s) new x) on steps)

    pub step_stopped : (n m : ℕ) (new : Run) (e : Stepped) → n ≡ suc m → e ≡ stepped.Stopped → HasStepped (step program day s) new e
        → job_run day n (Going ends program s rest) ≡ job_run day m (next_program (ends ++ Ended ∷ []) rest (world_of new).files (world_of new).shown)
    step_stopped n m new e more stops steps = one_step n m more ∙ after_step m (Stopped (world_of new)) (subst (λ (x : Stepped). HasStepped (step program day s) new x) stops steps)

    pub step_failed : (n m : ℕ) (new : Run) (e : Stepped) (kind : FaultKind) (at : StatementId) → n ≡ suc m → e ≡ stepped.Failed kind at → HasStepped (step program day s) new e
        → job_run day n (Going ends program s rest) ≡ Over (ends ++ Failed (read_kind kind) (read_id at) ∷ []) (world_of new).files (world_of new).shown
    step_failed n m new e kind at more fails steps =
        one_step n m more
        ∙ after_step m (Faulted (read_kind kind) (read_id at) (world_of new)) (subst (λ (x : Stepped). HasStepped (step program day s) new x) fails steps)
        ∙ over_stays m (ends ++ Failed (read_kind kind) (read_id at) ∷ []) (world_of new).files (world_of new).shown

module _ (plan : Plan) (run : Run) (before : List End) (j : JobState) (rest : List Program) (p : Progress)
    (files : disks p.store ≡ (world_of run).files) (shown : map read_shown p.shown ≡ (world_of run).shown) where
  ends_with : (e : End) → p.ends ≡ before ++ e ∷ [] → map read_end p.ends ≡ map read_end before ++ read_end e ∷ []
  ends_with e is = ap (λ (es : List End). map read_end es) is ∙ map-append read_end before (e ∷ [])

  -- what a program has come to, as what stands between it and the next
  pub passed : (e : End) (left : ℕ) → p.left ≡ left → p.ends ≡ before ++ e ∷ [] → HasEnded plan run j (map read_end before) rest e left → HasPassed (day_of plan) j rest p e
  passed end.Stopped left same ends h =
      h ∙ ap (λ (n : ℕ). job_run (day_of plan) n (next_program (map read_end before ++ Ended ∷ []) rest (world_of run).files (world_of run).shown)) (sym same)
      ∙ ap (λ (es : List job.End). job_run (day_of plan) p.left (next_program es rest (world_of run).files (world_of run).shown)) (sym (ends_with end.Stopped ends))
      ∙ ap (λ (ds : List Disk). job_run (day_of plan) p.left (next_program (map read_end p.ends) rest ds (world_of run).shown)) (sym files)
      ∙ ap (λ (ss : List state.Shown). job_run (day_of plan) p.left (next_program (map read_end p.ends) rest (disks p.store) ss)) (sym shown)
  passed (end.Fault kind at) left same ends h = record {
    ends = ap ends_of h ∙ sym (ends_with (end.Fault kind at) ends);
    files = ap files_of h ∙ sym files;
    shown = ap shown_of h ∙ sym shown;
  }
  passed end.Running left same ends h = record {
    ends = ap ends_of h ∙ sym (ends_with end.Running ends);
    files = ap files_of h ∙ sym files;
    shown = ap shown_of h ∙ sym shown;
  }

pub program_at : (files : List FileUse) (ps : List tree.Program) (ls : List Layout) (k : ℕ) (p : tree.Program) (l : Layout) → k < length ps → k < length ls
    → p ≡ get_or ps k p → l ≡ get_or ls k l → read_program files p l ≡ slice_index_or (read_programs files ps ls) k no_program
program_at files [] ls k p l in_ps in_ls is_p is_l = absurd (omega (arith, in_ps))
program_at files (x ∷ ps) [] k p l in_ps in_ls is_p is_l = absurd (omega (arith, in_ls))
program_at files (x ∷ ps) (y ∷ ls) zero p l in_ps in_ls is_p is_l = ap (λ (a : tree.Program). read_program files a l) is_p ∙ ap (λ (b : Layout). read_program files x b) is_l
program_at files (x ∷ ps) (y ∷ ls) (suc k) p l in_ps in_ls is_p is_l = program_at files ps ls k p l (omega (arith, in_ps)) (omega (arith, in_ls)) is_p is_l

-- a program before its first step
pub begun : (program : Program) (s t : Storage) (ds es : List Disk) (ss ts : List state.Shown) → s ≡ t → ds ≡ es → ss ≡ ts
    → on [] (at_front program.paragraphs) (record { storage = s; files = ds; shown = ss }) ≡ on [] (at_front program.paragraphs) (record { storage = t; files = es; shown = ts })
begun program s t ds es ss ts storage files shown =
    ap (λ (x : Storage). on [] (at_front program.paragraphs) (record { storage = x; files = ds; shown = ss })) storage
    ∙ ap (λ (x : List Disk). on [] (at_front program.paragraphs) (record { storage = t; files = x; shown = ss })) files
    ∙ ap (λ (x : List state.Shown). on [] (at_front program.paragraphs) (record { storage = t; files = es; shown = x })) shown

-- the first of the programs that are still to come
pub next_number : (portfolio : Portfolio) (list : List ℕ) → 1 ≤ length list
    → programs_of portfolio list ≡ slice_index_or (read_portfolio portfolio) (get_or list 0 0) no_program ∷ programs_of portfolio (take (length list - 1) (drop 1 list))
next_number portfolio [] some = absurd (omega (arith, some))
next_number portfolio (y ∷ ys) some =
    ap (λ (ks : List ℕ). slice_index_or (read_portfolio portfolio) y no_program ∷ programs_of portfolio ks) (sym (take_rest (y ∷ ys) 1))

pub others_too : (P : ℕ → Type 0) (list : List ℕ) → 1 ≤ length list → AllByRecursion P list → AllByRecursion P (take (length list - 1) (drop 1 list))
others_too P [] some all = absurd (omega (arith, some))
others_too P (y ∷ ys) some all = subst (λ (ks : List ℕ). AllByRecursion P ks) (sym (take_rest (y ∷ ys) 1)) all.1

module _ (day : Calendar) (j : JobState) (rest : List Program) (p : Progress) (e : End) (h : HasPassed day j rest p e) where
  pub goes_on : e ≡ end.Stopped → j ≡ job_run day p.left (state_before rest p)
  goes_on is = subst (λ (x : End). HasPassed day j rest p x) is h

  pub gives_up : (kind : FaultKind) (at : StatementId) → e ≡ end.Fault kind at → Answers j p.ends (disks p.store) (map read_shown p.shown)
  gives_up kind at is = subst (λ (x : End). HasPassed day j rest p x) is h

  pub is_cut_off : e ≡ end.Running → Answers j p.ends (disks p.store) (map read_shown p.shown)
  is_cut_off is = subst (λ (x : End). HasPassed day j rest p x) is h

-- the answer of a job that is the same job
pub answers_same : (j k : JobState) (es : List End) (ds : List Disk) (ss : List state.Shown) → j ≡ k → Answers k es ds ss → Answers j es ds ss
answers_same j k es ds ss same a = record { ends = ap ends_of same ∙ a.ends; files = ap files_of same ∙ a.files; shown = ap shown_of same ∙ a.shown }

-- no program is left
pub all_over : (day : Calendar) (portfolio : Portfolio) (list : List ℕ) (n : ℕ) (p : Progress) → length list < 1
    → Answers (job_run day n (state_before (programs_of portfolio list) p)) p.ends (disks p.store) (map read_shown p.shown)
all_over day portfolio [] n p none =
    let over : job_run day n (state_before [] p) ≡ Over (map read_end p.ends) (disks p.store) (map read_shown p.shown) = over_stays day n (map read_end p.ends) (disks p.store) (map read_shown p.shown) in
    record { ends = ap ends_of over; files = ap files_of over; shown = ap shown_of over }
all_over day portfolio (x ∷ xs) n p none = absurd (omega (arith, none))
