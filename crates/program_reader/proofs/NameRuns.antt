-- Names that are passed, beside a loop that counts its turns up.
use Rattle.std.proofs.Common.{◌≡◌, ℕ, suc, ◌+◌, ◌-◌, ◌<◌, Bool, true, ap, ◌∙◌, arith, if◌then◌else◌}
use Rattle.cond_reader.specs.declared.symbol.Symbol.TheVariants as s
use Rattle.cond_reader.specs.Text.{sees}
use Rattle.program_reader.specs.Views.{View}
use Rattle.program_reader.specs.Files.{past_some_names}

pub name_passed : {x : ℕ} (v : View) (n k i : ℕ) → x ≡ past_some_names v (n - k) i → k < n → sees v.text s.Name i ≡ true
    → x ≡ past_some_names v (n - (k + 1)) (i + 1)
name_passed v n k i e lt is =
    let turns : n - k ≡ suc (n - (k + 1)) = omega arith in
    e ∙ ap (λ m. past_some_names v m i) turns ∙ ap (λ (b : Bool). if b then past_some_names v (n - (k + 1)) (i + 1) else i) is
