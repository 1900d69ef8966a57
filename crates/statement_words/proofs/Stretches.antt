-- Stretches of words, word by word.
use Rattle.std.proofs.Common.{◌≡◌, ℕ, zero, suc, ◌+◌, ◌-◌, ◌<◌, ◌≤◌, List, [], ◌++◌, sym, ap, ◌∙◌, arith}
use Rattle.std.proofs.lemmas.List.{append_assoc}
use Rattle.y2k_base.specs.declared.edit.Edit.{Edit}
use Rattle.y2k_base.specs.declared.word.Word.{Word}
use Rattle.statement_words.specs.Edited.{words_at, edited, edit_at, removals, stretch, stretch_of}

pub edited_step : (program : ℕ) (words : List Word) (edits : List Edit) (from end : ℕ) → from < end
    → edited program words edits from (end - from) ≡ words_at program words edits from ++ edited program words edits (from + 1) (end - (from + 1))
edited_step program words edits from end l = let same : end - from ≡ suc (end - (from + 1)) = omega (arith, l) in ap (edited program words edits from) same

pub edited_none : (program : ℕ) (words : List Word) (edits : List Edit) (from end : ℕ) → end ≤ from → edited program words edits from (end - from) ≡ []
edited_none program words edits from end l = let same : end - from ≡ zero = omega (arith, l) in ap (edited program words edits from) same

pub removals_step : (program : ℕ) (words : List Word) (from end : ℕ) → from < end
    → removals program words from (end - from) ≡ edit_at program words from [] ++ removals program words (from + 1) (end - (from + 1))
removals_step program words from end l = let same : end - from ≡ suc (end - (from + 1)) = omega (arith, l) in ap (removals program words from) same

pub removals_none : (program : ℕ) (words : List Word) (from end : ℕ) → end ≤ from → removals program words from (end - from) ≡ []
removals_none program words from end l = let same : end - from ≡ zero = omega (arith, l) in ap (removals program words from) same

pub stretch_step : (program : ℕ) (words : List Word) (at end : ℕ) (new : List Word) → at < end
    → stretch program words at end new ≡ edit_at program words at new ++ removals program words (at + 1) (end - (at + 1))
stretch_step program words at end new l =
    let same : end - at ≡ suc (end - (at + 1)) = omega (arith, l) in ap (λ (count : ℕ). stretch_of program words at count new) same

pub stretch_none : (program : ℕ) (words : List Word) (at end : ℕ) (new : List Word) → end ≤ at → stretch program words at end new ≡ []
stretch_none program words at end new l = let same : end - at ≡ zero = omega (arith, l) in ap (λ (count : ℕ). stretch_of program words at count new) same

-- a list to which the first of what is left is added
pub added : {A : Type 0} (old new one left more all : List A) → new ≡ old ++ one → left ≡ one ++ more → old ++ left ≡ all → new ++ more ≡ all
added old new one left more all is parts so_far =
    ap (λ xs. xs ++ more) is ∙ append_assoc old one more ∙ ap (λ xs. old ++ xs) (sym parts) ∙ so_far
