-- Texts edited one after the other.
use Rattle.std.proofs.Common.{◌≡◌, ℕ, ◌+◌, ◌<◌, arith, length, true, List, [], ◌∷◌, ◌++◌, sym, ap, ◌∙◌, subst}
use Rattle.std.proofs.lemmas.List.{append-nil, append_assoc}
use Rattle.y2k_base.specs.declared.text.Text.{Text}
use Rattle.source_edit.specs.declared.whole.EditedTexts.{EditedTexts}
use Rattle.source_edit.specs.Applied.{AddsText, AreEditedFrom, AreReadFrom}
use Rattle.source_edit.specs.Rows.{Changing}

module _ (change : Changing) (texts : List Text) where
  abbrev pub Edits : ℕ → List Text → List Text → Type 0
  Edits n rest list = (later : List Text) → AreEditedFrom change n rest later → AreEditedFrom change 0 texts (list ++ later)

  abbrev pub Reads : ℕ → List Text → List Text → Type 0
  Reads n rest list = (later : List Text) → AreReadFrom change n rest later → AreReadFrom change 0 texts (list ++ later)

  behind : (list : List Text) (last : Text) (whole later : List Text) → whole ≡ list ++ last ∷ [] → list ++ last ∷ later ≡ whole ++ later
  behind list last whole later e = sym (append_assoc list (last ∷ []) later) ∙ ap (λ (xs : List Text). xs ++ later) (sym e)

  pub edits_more : (n : ℕ) (t : Text) (rest : List Text) (old new : EditedTexts) → Edits n (t ∷ rest) old.list → AddsText change (record { 0 = n }) t old new → Edits (n + 1) rest new.list
  edits_more n t rest old new edits adds later are =
      subst (λ (xs : List Text). AreEditedFrom change 0 texts xs) (behind old.list adds.last new.list later adds.list) (edits (adds.last ∷ later) (adds.edited, are))

  pub reads_more : (n : ℕ) (t : Text) (rest : List Text) (old new : EditedTexts) → (old.read ≡ true → Reads n (t ∷ rest) old.list) → AddsText change (record { 0 = n }) t old new → new.read ≡ true → Reads (n + 1) rest new.list
  reads_more n t rest old new reads adds read later are =
      subst (λ (xs : List Text). AreReadFrom change 0 texts xs) (behind old.list adds.last new.list later adds.list) (reads (adds.both read).0 (adds.last ∷ later) ((adds.both read).1, are))

  pub edits_end : (n : ℕ) (list : List Text) → Edits n [] list → AreEditedFrom change 0 texts list
  edits_end n list edits = subst (λ (xs : List Text). AreEditedFrom change 0 texts xs) (append-nil list) (edits [] tt)

  pub reads_end : (n : ℕ) (list : List Text) → Reads n [] list → AreReadFrom change 0 texts list
  reads_end n list reads = subst (λ (xs : List Text). AreReadFrom change 0 texts xs) (append-nil list) (reads [] tt)

  pub edits_end_at : (n : ℕ) (rest list : List Text) → Edits n rest list → length rest < 1 → AreEditedFrom change 0 texts list
  edits_end_at n [] list edits h = edits_end n list edits
  edits_end_at n (t ∷ rest) list edits h = absurd (omega (arith, h))

  pub reads_end_at : (n : ℕ) (rest list : List Text) → Reads n rest list → length rest < 1 → AreReadFrom change 0 texts list
  reads_end_at n [] list reads h = reads_end n list reads
  reads_end_at n (t ∷ rest) list reads h = absurd (omega (arith, h))
