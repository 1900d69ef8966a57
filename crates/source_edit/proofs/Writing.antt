-- The text of lines, one line after the other.
use Rattle.std.proofs.Common.{◌≡◌, ℕ, List, ◌∷◌, ◌++◌, sym, ap, ◌∙◌}
use Rattle.std.proofs.lemmas.List.{append_assoc}
use Rattle.source_edit.specs.declared.row.Row.{Row}
use Rattle.source_edit.specs.Rows.{carry_after}
use Rattle.source_edit.specs.Stretches.{covered_after, turned_after, written}

pub one_more : (rest more : List Row) (r : Row) (before after whole : List ℕ) (covered now carry next : ℕ) → rest ≡ r ∷ more → before ++ written covered carry rest ≡ whole
    → now ≡ covered_after covered carry r more → after ≡ before ++ turned_after covered carry r more → next ≡ carry_after carry r → after ++ written now next more ≡ whole
one_more rest more r before after whole covered now carry next front same is_covered is_after is_carry =
    ap (λ (xs : List ℕ). xs ++ written now next more) is_after
    ∙ ap (λ (n : ℕ). (before ++ turned_after covered carry r more) ++ written n next more) is_covered
    ∙ ap (λ (n : ℕ). (before ++ turned_after covered carry r more) ++ written (covered_after covered carry r more) n more) is_carry
    ∙ append_assoc before (turned_after covered carry r more) (written (covered_after covered carry r more) (carry_after carry r) more)
    ∙ ap (λ (rs : List Row). before ++ written covered carry rs) (sym front)
    ∙ same
