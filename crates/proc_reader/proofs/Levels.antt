-- What stands inside a level has one level less.
use Rattle.std.proofs.Common.{◌≡◌, ℕ, suc, ◌-◌, ◌<◌, refl, ap, ◌∙◌, arith}
use Rattle.proc_reader.specs.Source.{Source}
use Rattle.proc_reader.specs.Sentences.{inside, statements}

inside-suc : (t : Source) (level : ℕ) → inside t (suc level) ≡ statements t level
unfolding inside statements
inside-suc t level = refl

pub inside_below : (t : Source) (level : ℕ) → 0 < level → inside t level ≡ statements t (level - 1)
inside_below t level some =
    let e : level ≡ suc (level - 1) = omega arith in
    ap (λ n. inside t n) e ∙ inside-suc t (level - 1)
