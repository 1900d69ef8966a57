-- A write at the place of a file.
use Rattle.std.proofs.Common.{◌≡◌, ℕ, zero, suc, List, [], ◌∷◌, refl, ap, slice_set, slice_index_or}
use Rattle.data_layout.specs.declared.portfolio.FileArea.{FileArea}
use Rattle.data_layout.specs.declared.portfolio.FileUse.{FileUse}
use Rattle.file_uses.specs.Records.{with_place}
use Rattle.file_uses.specs.Table.{added_at}

pub set_added : (files : List FileUse) (i : ℕ) (place : FileArea) (x : FileUse) → x ≡ slice_index_or files i x → slice_set files i (with_place x place) ≡ added_at files i place
set_added [] i place x e = refl
set_added (f ∷ fs) zero place x e = ap (λ (y : FileUse). with_place y place ∷ fs) e
set_added (f ∷ fs) (suc i) place x e = ap (λ (xs : List FileUse). f ∷ xs) (set_added fs i place x e)
