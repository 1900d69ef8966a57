-- What stands inside a parenthesis of a condition has one level less.
use Rattle.std.proofs.Common.{◌≡◌, ℕ, suc, ◌-◌, ◌<◌, Option, refl, ap, ◌∙◌, arith}
use Rattle.cond_reader.specs.declared.relation.Last.{Last}
use Rattle.cond_reader.specs.Text.{Text}
use Rattle.cond_reader.specs.Conds.{inside, piece}

inside-suc : (t : Text) (level : ℕ) → inside t (suc level) ≡ piece t level
unfolding inside piece
inside-suc t level = refl

pub inside_below : (t : Text) (level : ℕ) (last : Option Last) (i : ℕ) → 0 < level → inside t level last i ≡ piece t (level - 1) last i
inside_below t level last i some =
    let e : level ≡ suc (level - 1) = omega arith in
    ap (λ n. inside t n last i) e ∙ ap (λ read. read last i) (inside-suc t (level - 1))
