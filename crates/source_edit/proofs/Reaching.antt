-- How the code goes over lines to find how many go with the line before them.
use Rattle.std.proofs.Common.{◌≡◌, ℕ, zero, suc, ◌+◌, ◌<◌, length, Bool, true, false, if◌then◌else◌, List, [], ◌∷◌, refl, ◌∙◌, arith}
use Rattle.source_edit.specs.declared.row.Row.{Row}
use Rattle.source_edit.specs.Lines.{is_passed}
use Rattle.source_edit.specs.Rows.{is_joined, carry_after, one_more, reach}

abbrev pub reach_from : ℕ → ℕ → ℕ → List Row → ℕ
reach_from seen last carry [] = last
reach_from seen last carry (r ∷ rs) =
    if is_joined carry r then reach_from (seen + 1) (seen + 1) (carry_after carry r) rs
    else (if is_passed r.line then reach_from (seen + 1) last carry rs else last)

abbrev or_last : ℕ → ℕ → ℕ → ℕ
or_last seen last zero = last
or_last seen last (suc n) = seen + suc n

behind : (seen n : ℕ) → or_last (seen + 1) (seen + 1) n ≡ seen + suc n
behind seen zero = omega arith
behind seen (suc n) = omega arith

further : (seen last n : ℕ) → or_last (seen + 1) last n ≡ or_last seen last (one_more n)
further seen last zero = refl
further seen last (suc n) = omega arith

from-is : (seen last carry : ℕ) (rs : List Row) → reach_from seen last carry rs ≡ or_last seen last (reach carry rs)
from-is seen last carry [] = refl
from-is seen last carry (r ∷ rs) =
    let joined : reach_from (seen + 1) (seen + 1) (carry_after carry r) rs ≡ or_last (seen + 1) (seen + 1) (reach (carry_after carry r) rs) =
    from-is (seen + 1) (seen + 1) (carry_after carry r) rs in
    let passed : reach_from (seen + 1) last carry rs ≡ or_last (seen + 1) last (reach carry rs) = from-is (seen + 1) last carry rs in
    elim (is_joined carry r) as (λ (t : Bool).
    (if t then reach_from (seen + 1) (seen + 1) (carry_after carry r) rs else (if is_passed r.line then reach_from (seen + 1) last carry rs else last))
    ≡ or_last seen last (if t then suc (reach (carry_after carry r) rs) else (if is_passed r.line then one_more (reach carry rs) else 0))) [
      | true ↦ joined ∙ behind seen (reach (carry_after carry r) rs)
      | false ↦ elim (is_passed r.line) as (λ (t : Bool). (if t then reach_from (seen + 1) last carry rs else last)
          ≡ or_last seen last (if t then one_more (reach carry rs) else 0)) [ true ↦ passed ∙ further seen last (reach carry rs) | false ↦ refl ]
    ]

at_front : (n : ℕ) → or_last 0 0 n ≡ n
at_front zero = refl
at_front (suc n) = omega arith

pub from_front : (carry : ℕ) (rs : List Row) → reach_from 0 0 carry rs ≡ reach carry rs
from_front carry rs = from-is 0 0 carry rs ∙ at_front (reach carry rs)

pub at_end : (seen last carry : ℕ) (rest : List Row) (first : ℕ) (rows : List Row) → reach_from seen last carry rest ≡ reach_from 0 0 first rows → length rest < 1 → last ≡ reach first rows
at_end seen last carry [] first rows e h = e ∙ from_front first rows
at_end seen last carry (r ∷ rs) first rows e h = absurd (omega (arith, h))
