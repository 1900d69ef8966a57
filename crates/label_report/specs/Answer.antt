-- What `label` answers.
use Rattle.std.specs.Prelude.{◌≡◌, ◌⊎◌, ℕ, List, Option}
use Rattle.answers.specs.Said.{IsPrinted}
use Rattle.labelled_portfolio.specs.Labelled.{HasRefusal, IsLabelled}
use Rattle.labelled_portfolio.specs.declared.labelled.Labelled.{Labelled}
use Rattle.labelled_portfolio.specs.declared.refusal.Refusal.{Refusal}
use Rattle.manifest_load.specs.Documents.{HasManifestRefusal, IsOpened}
use Rattle.manifest_load.specs.declared.open.Opened.{Opened}
use Rattle.manifest_load.specs.declared.refusal.ManifestRefusal.{ManifestRefusal}
use Rattle.refusal_lines.specs.Lines as lines
use Rattle.reports.specs.Conflicts.{conflict_report}
use Rattle.reports.specs.Labels.{label_report}
use Rattle.shelf.specs.Contents.{Files}
use Rattle.year_labels.specs.Facts.{IsClean}

-- the rows of all labels
abbrev pub labels_text : Labelled → List ℕ
labels_text l = label_report l.seeded.gathered.portfolio l.labels.labelling

-- the rows of all conflicts
abbrev pub conflicts_text : Opened → Labelled → List ℕ
conflicts_text opened l =
    conflict_report l.seeded.gathered.texts l.seeded.gathered.portfolio l.labels.rules l.labels.conflicts (lines.seeds_name opened.manifest)

-- where no byte has unlike labels the label rows with status 0, and else the conflict rows with status 1
abbrev pub IsReport : Opened → Labelled → ℕ → List ℕ → Type 0
IsReport opened l status text =
    (IsClean l.labels.labelling × (status ≡ 0) × (text ≡ labels_text l))
    ⊎ ((IsClean l.labels.labelling → ⊥) × (status ≡ 1) × (text ≡ conflicts_text opened l))

-- What a command answers that reports of a labelled portfolio.

-- what it says of the manifest's labelled portfolio, or the line of a refusal that has its cause
abbrev pub IsAnswerForBy : (Opened → Labelled → ℕ → List ℕ → Type 0) → Option Files → Opened → ℕ → List ℕ → Type 0
IsAnswerForBy Report told opened status text =
    ((l : Labelled) × IsLabelled told opened l × Report opened l status text)
    ⊎ ((r : Refusal) × HasRefusal told opened r × (status ≡ lines.status_of r) × (text ≡ lines.line_of opened r))

-- the same, or the line that there is no such manifest
abbrev pub IsAnswerBy : (Opened → Labelled → ℕ → List ℕ → Type 0) → List ℕ → Option Files → ℕ → List ℕ → Type 0
IsAnswerBy Report main told status text =
    ((opened : Opened) × IsOpened main told opened × IsAnswerForBy Report told opened status text)
    ⊎ ((r : ManifestRefusal) × HasManifestRefusal main told r × (status ≡ lines.manifest_status r) × (text ≡ lines.manifest_line main r))

-- the rows of the manifest's labelled portfolio, or the line of a refusal that has its cause
abbrev pub IsAnswerFor : Option Files → Opened → ℕ → List ℕ → Type 0
IsAnswerFor told opened status text = IsAnswerForBy IsReport told opened status text

-- the same, or the line that there is no such manifest
abbrev pub IsAnswer : List ℕ → Option Files → ℕ → List ℕ → Type 0
IsAnswer main told status text = IsAnswerBy IsReport main told status text

-- such an answer is printed, or else the sink failed (7) or memory ran out (8)
abbrev pub IsAnswered : (ℕ → List ℕ → Type 0) → Option (List ℕ) → Option (List ℕ) → ℕ → Type 0
IsAnswered answer before after status =
    ((text : List ℕ) × IsPrinted text before after × answer status text) ⊎ ((status ≡ 7) ⊎ (status ≡ 8))
