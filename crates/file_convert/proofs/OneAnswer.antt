-- A file has one answer: it is tame, or one record is the first that is not, or bytes are left over.
use Rattle.std.proofs.Common.{◌≡◌, ℕ, zero, suc, ◌+◌, ◌-◌, ◌*◌, ◌/◌, ◌<◌, ◌≤◌, inl, inr, List, ◌++◌, length, drop, Some, None, sym, ap, ◌∙◌, subst, arith, length-drop}
use Rattle.std.proofs.Math.Nat.{le_of_mul-le-mul_right}
use Rattle.std.proofs.lemmas.Bool.{cases_lt}
use Rattle.std.proofs.lemmas.Nat.{le-div, div-mul-add}
use Rattle.std.proofs.lemmas.List.{length-take-le}
use Rattle.year_image.specs.Image.{IsTame}
use Rattle.byte_lists.specs.Records.{records}
use Rattle.year_image.specs.Files.{AreTame}
use Rattle.byte_lists.proofs.RecordLaws.{records-append}
use Rattle.year_image.proofs.FileLemmas.{tame-back}
use Rattle.file_convert.specs.Cuts.{pieces, first_untame, IsInOrder}
use Rattle.file_convert.specs.Files.{record_at, IsTameUpTo, IsTameFile}
use Rattle.file_convert.specs.Faults.{HasConvertFault}
use Rattle.file_convert.specs.declared.cut.Cut.{Cut}
use Rattle.file_convert.specs.declared.cut.Cuts.{Cuts}
use Rattle.file_convert.specs.declared.fault.ConvertFault.TheVariants.{Untame, PartialRecord}
use Rattle.file_convert.proofs.UntameLemmas.{none_from_tame}

module _ (cuts : Cuts) (order : IsInOrder cuts) (bs : List ℕ) where
  tame-before : (j k : ℕ) → j < k → IsTameUpTo cuts k bs → IsTame 48 (pieces cuts) (record_at cuts j bs)
  tame-before j k h t =
      let n = cuts.length in
      let more = k - j - 1 in
      let e : k ≡ j + suc more = omega arith in
      let P : List (List ℕ) → Type 0 = λ l. AreTame (pieces cuts) l in
      let all : AreTame (pieces cuts) (records n j bs ++ records n (suc more) (drop (j * n) bs)) = subst P (ap (λ m. records n m bs) e ∙ records-append n j (suc more) bs) t in
      (tame-back (pieces cuts) (records n j bs) (records n (suc more) (drop (j * n) bs)) all).0

  -- a whole record has no untame cut where it is among tame ones
  none-before : (j k : ℕ) (cut : Cut) → j < k → (j + 1) * cuts.length ≤ length bs → IsTameUpTo cuts k bs → first_untame cuts.list (record_at cuts j bs) ≡ Some cut → ⊥
  none-before j k cut h l t found =
      let n = cuts.length in
      let e : (j + 1) * n ≡ j * n + n = omega arith in
      let long : length (record_at cuts j bs) ≡ n = length-take-le n (drop (j * n) bs) (omega (arith, l, e, length-drop (j * n) bs)) in
      let none : first_untame cuts.list (record_at cuts j bs) ≡ None = none_from_tame 0 n cuts.list (record_at cuts j bs) order.2 long (tame-before j k h t) in
      absurd (cc)

  -- a tame file has no untame record
  pub tame-not_untame : (k row offset : ℕ) (untame : List ℕ) → IsTameFile cuts bs k → HasConvertFault cuts bs (Untame row offset untame) → ⊥
  tame-not_untame k row offset untame t f =
      let n = cuts.length in
      let P : ℕ → Type 0 = λ m. (f.0 + 1) * n ≤ m in
      let le : f.0 + 1 ≤ k = le_of_mul-le-mul_right {m = f.0 + 1} {n = k} {k = n} (subst P t.0 f.2.1) order.0 in
      none-before f.0 k f.2.2.0 (omega (arith, le)) f.2.1 t.1 f.2.2.1

  -- and no bytes are left over
  pub tame-not_partial : (k left : ℕ) → IsTameFile cuts bs k → HasConvertFault cuts bs (PartialRecord left) → ⊥
  tame-not_partial k left t f =
      let n = cuts.length in
      let e : k * n + 0 ≡ f.0 * n + left = omega (arith, t.0, f.2.0) in
      let same : k ≡ f.0 = sym (div-mul-add k n 0 order.0) ∙ ap (λ m. m / n) e ∙ div-mul-add f.0 n left f.2.2 in
      let g : k * n ≡ f.0 * n = ap (λ m. m * n) same in
      absurd (omega (arith, e, g, f.2.1))

  -- where bytes are left over, every whole record is tame
  pub partial-not_untame : (left row offset : ℕ) (untame : List ℕ) → HasConvertFault cuts bs (PartialRecord left) → HasConvertFault cuts bs (Untame row offset untame) → ⊥
  partial-not_untame left row offset untame p f =
      let n = cuts.length in
      let most : length bs / n ≡ p.0 = ap (λ m. m / n) p.2.0 ∙ div-mul-add p.0 n left p.2.2 in
      let le : f.0 + 1 ≤ length bs / n = le-div (f.0 + 1) (length bs) n order.0 f.2.1 in
      none-before f.0 p.0 f.2.2.0 (omega (arith, le, most)) f.2.1 p.1 f.2.2.1

  -- the row of an untame record is that of the first
  pub one-row : (row offset row' offset' : ℕ) (untame untame' : List ℕ) → HasConvertFault cuts bs (Untame row offset untame) → HasConvertFault cuts bs (Untame row' offset' untame') → row ≤ row'
  one-row row offset row' offset' untame untame' f f' =
      let n = cuts.length in
      elim (cases_lt f'.0 f.0) [
        | inl less ↦ absurd (none-before f'.0 f.0 f'.2.2.0 less f'.2.1 f.1 f'.2.2.1)
        | inr le ↦ omega (arith, f.2.0, f'.2.0, le)
      ]
