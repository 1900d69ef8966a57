-- All months of a year.
use Rattle.std.proofs.Common.{◌≡◌, ◌+◌, ◌≤◌, ℕ, zero, suc, [], Bool, cond, refl, arith}
use Rattle.program_meaning.specs.Step.{month_lengths, days_before}

no-months : (n : ℕ) → days_before n [] ≡ 0
no-months zero = refl
no-months (suc n) = refl

pub whole-year : (n : ℕ) (leap : Bool) → 12 ≤ n → 337 + cond leap 29 28 ≡ days_before n (month_lengths leap)
whole-year zero leap most = absurd (omega (arith, most))
whole-year (suc zero) leap most = absurd (omega (arith, most))
whole-year (suc (suc zero)) leap most = absurd (omega (arith, most))
whole-year (suc (suc (suc zero))) leap most = absurd (omega (arith, most))
whole-year (suc (suc (suc (suc zero)))) leap most = absurd (omega (arith, most))
whole-year (suc (suc (suc (suc (suc zero))))) leap most = absurd (omega (arith, most))
whole-year (suc (suc (suc (suc (suc (suc zero)))))) leap most = absurd (omega (arith, most))
whole-year (suc (suc (suc (suc (suc (suc (suc zero))))))) leap most = absurd (omega (arith, most))
whole-year (suc (suc (suc (suc (suc (suc (suc (suc zero)))))))) leap most = absurd (omega (arith, most))
whole-year (suc (suc (suc (suc (suc (suc (suc (suc (suc zero))))))))) leap most = absurd (omega (arith, most))
whole-year (suc (suc (suc (suc (suc (suc (suc (suc (suc (suc zero)))))))))) leap most = absurd (omega (arith, most))
whole-year (suc (suc (suc (suc (suc (suc (suc (suc (suc (suc (suc zero))))))))))) leap most = absurd (omega (arith, most))
whole-year (suc (suc (suc (suc (suc (suc (suc (suc (suc (suc (suc (suc n)))))))))))) leap most = omega (arith, no-months n)
