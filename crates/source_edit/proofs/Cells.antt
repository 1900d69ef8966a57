-- The cells of a line without the spaces at their end.
use Rattle.std.proofs.Common.{◌≡◌, ℕ, List, [], ◌∷◌, refl, ap, ◌∙◌}
use Rattle.fixed_format.specs.Columns.{before_trimmed, trimmed, is_space}
use Rattle.source_edit.specs.Lines.{before_trimmed_by, trimmed_by}

same_before : (b : ℕ) (t : List ℕ) → before_trimmed_by is_space b t ≡ before_trimmed b t
same_before b [] = refl
same_before b (c ∷ cs) = refl

pub same_trimmed : (bs : List ℕ) → trimmed_by is_space bs ≡ trimmed bs
same_trimmed [] = refl
same_trimmed (b ∷ bs) = ap (before_trimmed_by is_space b) (same_trimmed bs) ∙ same_before b (trimmed bs)
