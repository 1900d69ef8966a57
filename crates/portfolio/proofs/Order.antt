-- Texts in byte order.
use Rattle.std.proofs.Common.{◌≡◌, ℕ, false, List, Ordering, Less, Equal, Greater, nat_cmp, is_eq, sym, ap, ◌∙◌}
use Rattle.std.proofs.lemmas.Bool.{true≢false}
use Rattle.std.proofs.lemmas.Cmp.{nat_list_cmp_total}
use Rattle.std.proofs.lemmas.Map.Text.{is_eq-slice_cmp}
use Rattle.std.proofs.lemmas.Slice.Eq.{bytes_eq-Decides}
use Rattle.std.specs.Cmp.{tied_itself}
use Rattle.std.specs.Cmp.Lexicographic.{slice_cmp}
use Rattle.std.specs.Ordering.{is_gt}

-- what isn't above a text is below all that this one is below
pub below : (o : Ordering) (q x y : List ℕ) → slice_cmp nat_cmp q x ≡ o → is_gt o ≡ false → slice_cmp nat_cmp x y ≡ Less → slice_cmp nat_cmp q y ≡ Less
below Less q x y e h l = nat_list_cmp_total.trans q x y e l
below Equal q x y e h l = nat_list_cmp_total.congr q x y e ∙ l
below Greater q x y e h l = absurd (true≢false h)

pub same_text : (q x : List ℕ) → slice_cmp nat_cmp q x ≡ Equal → q ≡ x
same_text q x e = (bytes_eq-Decides q x).0 (sym (is_eq-slice_cmp q x) ∙ ap is_eq e)

pub itself : (x : List ℕ) → slice_cmp nat_cmp x x ≡ Equal
itself x = tied_itself nat_list_cmp_total x
