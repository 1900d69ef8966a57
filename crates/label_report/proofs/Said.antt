-- What is said is an answer.
use Rattle.std.proofs.Common.{◌≡◌, ℕ, List, Option, inl, inr, refl, sym, ◌∙◌, subst, arith}
use Rattle.answers.specs.Said.{IsSaid}
use Rattle.labelled_portfolio.specs.Labelled.{HasRefusal, IsLabelled, RoseBy}
use Rattle.labelled_portfolio.specs.declared.labelled.Labelled.{Labelled}
use Rattle.labelled_portfolio.specs.declared.refusal.Refusal.{Refusal}
use Rattle.manifest_load.specs.Documents.{HasManifestRefusal, IsOpened}
use Rattle.manifest_load.specs.declared.open.Opened.{Opened}
use Rattle.manifest_load.specs.declared.refusal.ManifestRefusal.{ManifestRefusal}
use Rattle.manifest_load.specs.declared.refusal.ManifestRefusal.TheVariants as refusals
use Rattle.refusal_lines.specs.Lines.{line_of, manifest_line, manifest_status, status_of}
use Rattle.shelf.specs.Causes.{Rose}
use Rattle.shelf.specs.Contents.{Files}
use Rattle.year_labels.specs.Facts.{IsClean}
use Rattle.label_report.proofs.Causes.{form, manifest_form, manifest_shelf, rose}
use Rattle.label_report.specs.Answer.{IsAnswerBy, IsAnswered, IsAnswerForBy, IsReport, conflicts_text, labels_text}

-- a status that is neither 7 nor 8 is the wanted one
said_is : (wanted k status : ℕ) (text : List ℕ) (before after : Option (List ℕ)) → (7 ≡ k → ⊥) → (8 ≡ k → ⊥)
    → IsSaid wanted text before after status → status ≡ k → wanted ≡ k
said_is wanted k status text before after seven eight (inl p) e = sym p.0 ∙ e
said_is wanted k status text before after seven eight (inr (inl s)) e = absurd (seven (sym s ∙ e))
said_is wanted k status text before after seven eight (inr (inr s)) e = absurd (eight (sym s ∙ e))

said_six : (wanted status : ℕ) (text : List ℕ) (before after : Option (List ℕ)) → IsSaid wanted text before after status → status ≡ 6 → wanted ≡ 6
said_six wanted status text before after said e =
    said_is wanted 6 status text before after (λ h. omega (arith, h)) (λ h. omega (arith, h)) said e

said_two : (wanted status : ℕ) (text : List ℕ) (before after : Option (List ℕ)) → IsSaid wanted text before after status → status ≡ 2 → wanted ≡ 2
said_two wanted status text before after said e =
    said_is wanted 2 status text before after (λ h. omega (arith, h)) (λ h. omega (arith, h)) said e

pub label_rows_said : (opened : Opened) (l : Labelled) (before after : Option (List ℕ)) (text : List ℕ) (status : ℕ) → IsClean l.labels.labelling
    → text ≡ labels_text l → IsSaid 0 text before after status → IsAnswered (IsReport opened l) before after status
label_rows_said opened l before after text status clean same (inl p) = inl (text, p.1, inl (clean, p.0, same))
label_rows_said opened l before after text status clean same (inr fault) = inr fault

pub conflict_rows_said : (opened : Opened) (l : Labelled) (before after : Option (List ℕ)) (text : List ℕ) (status : ℕ) → (IsClean l.labels.labelling → ⊥)
    → text ≡ conflicts_text opened l → IsSaid 1 text before after status → IsAnswered (IsReport opened l) before after status
conflict_rows_said opened l before after text status unclean same (inl p) = inl (text, p.1, inr (unclean, p.0, same))
conflict_rows_said opened l before after text status unclean same (inr fault) = inr fault

pub report_answered : (Report : Opened → Labelled → ℕ → List ℕ → Type 0) (told : Option Files) (opened : Opened) (l : Labelled) (before after : Option (List ℕ)) (status : ℕ) → IsLabelled told opened l
    → IsAnswered (Report opened l) before after status → IsAnswered (IsAnswerForBy Report told opened) before after status
report_answered Report told opened l before after status is (inl (text, printed, report)) = inl (text, printed, inl (l, is, report))
report_answered Report told opened l before after status is (inr fault) = inr fault

pub refusal_answered : (Report : Opened → Labelled → ℕ → List ℕ → Type 0) (told : Option Files) (opened : Opened) (r : Refusal) (before after : Option (List ℕ)) (status : ℕ) → HasRefusal told opened r
    → IsSaid (status_of r) (line_of opened r) before after status → IsAnswered (IsAnswerForBy Report told opened) before after status
refusal_answered Report told opened r before after status cause (inl p) = inl (line_of opened r, p.1, inr (r, cause, p.0, refl))
refusal_answered Report told opened r before after status cause (inr fault) = inr fault

told_answered : (Report : Opened → Labelled → ℕ → List ℕ → Type 0) (main : List ℕ) (told : Option Files) (opened : Opened) (before after : Option (List ℕ)) (status : ℕ) → IsOpened main told opened
    → IsAnswered (IsAnswerForBy Report told opened) before after status → IsAnswered (IsAnswerBy Report main told) before after status
told_answered Report main told opened before after status is (inl (text, printed, answer)) = inl (text, printed, inl (opened, is, answer))
told_answered Report main told opened before after status is (inr fault) = inr fault

-- a manifest that was opened changes nothing of what is told
pub opened_answered : (Report : Opened → Labelled → ℕ → List ℕ → Type 0) (main : List ℕ) (told now : Option Files) (opened : Opened) (before after : Option (List ℕ)) (status : ℕ) → now ≡ told → IsOpened main told opened
    → IsAnswered (IsAnswerForBy Report now opened) before after status → IsAnswered (IsAnswerBy Report main told) before after status
opened_answered Report main told now opened before after status same is answer =
    told_answered Report main told opened before after status is
    (subst (λ (t : Option Files). IsAnswered (IsAnswerForBy Report t opened) before after status) same answer)

pub manifest_answered : (Report : Opened → Labelled → ℕ → List ℕ → Type 0) (main : List ℕ) (told : Option Files) (r : ManifestRefusal) (before after : Option (List ℕ)) (status : ℕ) → HasManifestRefusal main told r
    → IsSaid (manifest_status r) (manifest_line main r) before after status → IsAnswered (IsAnswerBy Report main told) before after status
manifest_answered Report main told r before after status cause (inl p) = inl (manifest_line main r, p.1, inr (r, cause, p.0, refl))
manifest_answered Report main told r before after status cause (inr fault) = inr fault

pub refusal_rose : (opened : Opened) (r : Refusal) (before after : Option (List ℕ)) (status was now : ℕ) → IsSaid (status_of r) (line_of opened r) before after status
    → RoseBy r was now → status ≡ 6 → Rose was now
refusal_rose opened r before after status was now said rises e =
    rose r was now (said_six (status_of r) status (line_of opened r) before after said e) rises

pub refusal_form : (opened : Opened) (r : Refusal) (before after : Option (List ℕ)) (status : ℕ) → IsSaid (status_of r) (line_of opened r) before after status
    → status ≡ 2 → ⊥
refusal_form opened r before after status said e = form r (said_two (status_of r) status (line_of opened r) before after said e)

pub shelf_said : (main : List ℕ) (r : ManifestRefusal) (before after : Option (List ℕ)) (status : ℕ) → IsSaid (manifest_status r) (manifest_line main r) before after status
    → status ≡ 6 → r ≡ refusals.Shelf
shelf_said main r before after status said e = manifest_shelf r (said_six (manifest_status r) status (manifest_line main r) before after said e)

pub manifest_said : (main : List ℕ) (r : ManifestRefusal) (before after : Option (List ℕ)) (status : ℕ) → IsSaid (manifest_status r) (manifest_line main r) before after status
    → status ≡ 2 → ⊥
manifest_said main r before after status said e = manifest_form r (said_two (manifest_status r) status (manifest_line main r) before after said e)
