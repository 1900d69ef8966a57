-- The tests of roles hold just where the known labels give the roles.
use Rattle.std.proofs.Common.{◌≡◌, inl, inr, arith, ℕ, zero, suc, ◌<◌, ◌+◌, ◌-◌, true, false, ◌&&◌, nat_lt, List, [], ◌∷◌, Option, Some, None, refl, sym, ap, subst, Contains}
use Rattle.std.specs.Prelude.{◌↔◌}
use Rattle.std.proofs.lemmas.Option.{same_Some}
use Rattle.std.proofs.lemmas.Bool.{cases_lt, false≢true, or_cases, or_left, or_right, and_parts, and_from, ltb-true, lt-ltb, eqb-true, eq-eqb}
use Rattle.y2k_base.specs.declared.place.Span.{Span}
use Rattle.year_labels.specs.declared.label.Fact.{Fact}
use Rattle.year_labels.specs.declared.label.Label.{Label}
use Rattle.year_labels.specs.declared.label.Label.TheVariants as labels
use Rattle.year_labels.specs.declared.label.Role.{Role}
use Rattle.year_labels.specs.declared.label.Role.TheVariants as roles
use Rattle.year_labels.specs.declared.rule.View.{View}
use Rattle.year_labels.specs.declared.rule.View.TheVariants as views
use Rattle.year_labels.specs.Facts.{fact_in, place_in}
use Rattle.year_labels.specs.Roles.{HasRole, HasPackedRole, HoldsPower, label_of}
use Rattle.year_labels.specs.Operands.{Is}
use Rattle.mode_links.specs.Bridges.{bears, is_power}
use Rattle.mode_links.proofs.Bears.{bears_there, there_bears}
use Rattle.statement_limits.specs.Roles.{digit_bears, year_bears, plain_bears, has_packed_role, is_plain_role, has_role, is_year, is_plain}

power_is : (power : ℕ) (p : Option ℕ) → is_power power p ≡ true → p ≡ Some power
power_is power None e = absurd (false≢true e)
power_is power (Some p) e = ap (λ (n : ℕ). Some n) (eqb-true p power e)

module _ (facts : List Fact) (span : Span) where
  -- of digits a byte each
  module _ (label : Label) (power : ℕ) where
    digit_there : (i : ℕ) (powers : List (Option ℕ)) → digit_bears facts span label power i powers ≡ true → (j : ℕ) × HoldsPower powers j power × Contains facts (fact_in span (i + j) label)
    digit_there i [] e = absurd (false≢true e)
    digit_there i (p ∷ powers) e =
        elim (or_cases (is_power power p && bears facts (place_in span i) label) (digit_bears facts span label power (i + 1) powers) e) [
          | inl here ↦
              let both = and_parts (is_power power p) (bears facts (place_in span i) label) here in
              let same : i ≡ i + 0 = omega arith in
              (0, ap (λ (o : Option ℕ). Some o) (power_is power p both.0), subst (λ (n : ℕ). Contains facts (fact_in span n label)) same (bears_there (place_in span i) label facts both.1))
          | inr later ↦
              let found = digit_there (i + 1) powers later in
              let same : i + 1 + found.0 ≡ i + suc found.0 = omega arith in
              (suc found.0, found.1, subst (λ (n : ℕ). Contains facts (fact_in span n label)) same found.2)
        ]

    there_digit : (i : ℕ) (powers : List (Option ℕ)) (j : ℕ) → HoldsPower powers j power → Contains facts (fact_in span (i + j) label) → digit_bears facts span label power i powers ≡ true
    there_digit i [] j holds there = absurd (let f : None ≡ Some (Some power) = holds in cc)
    there_digit i (p ∷ powers) zero holds there =
        let same : p ≡ Some power = same_Some p (Some power) holds in
        let power_holds : is_power power p ≡ true = subst (λ (o : Option ℕ). is_power power o ≡ true) (sym same) (eq-eqb power power refl) in
        let back : i + 0 ≡ i = omega arith in
        let label_holds : bears facts (place_in span i) label ≡ true =
        there_bears (place_in span i) label facts (subst (λ (n : ℕ). Contains facts (fact_in span n label)) back there) in
        or_left (is_power power p && bears facts (place_in span i) label) (digit_bears facts span label power (i + 1) powers)
        (and_from (is_power power p) (bears facts (place_in span i) label) power_holds label_holds)
    there_digit i (p ∷ powers) (suc j) holds there =
        let same : i + suc j ≡ i + 1 + j = omega arith in
        or_right (is_power power p && bears facts (place_in span i) label) (digit_bears facts span label power (i + 1) powers)
        (there_digit (i + 1) powers j holds (subst (λ (n : ℕ). Contains facts (fact_in span n label)) same there))

  -- of the bytes of a packed number
  year_there : (digits unit n : ℕ) → year_bears facts span digits unit n ≡ true → (k : ℕ) × (k < n) × Contains facts (fact_in span k (labels.Packed digits unit k))
  year_there digits unit zero e = absurd (false≢true e)
  year_there digits unit (suc n) e =
      elim (or_cases (year_bears facts span digits unit n) (bears facts (place_in span n) (labels.Packed digits unit n)) e) [
        | inl before ↦
            let found = year_there digits unit n before in
            (found.0, omega (arith, found.1), found.2)
        | inr here ↦ (n, omega arith, bears_there (place_in span n) (labels.Packed digits unit n) facts here)
      ]

  there_year : (digits unit n k : ℕ) → k < n → Contains facts (fact_in span k (labels.Packed digits unit k)) → year_bears facts span digits unit n ≡ true
  there_year digits unit zero k low there = absurd (omega (arith, low))
  there_year digits unit (suc n) k low there =
      elim (cases_lt k n) [
        | inl before ↦
            or_left (year_bears facts span digits unit n) (bears facts (place_in span n) (labels.Packed digits unit n)) (there_year digits unit n k before there)
        | inr after ↦
            let same : k ≡ n = omega (arith, low, after) in
            or_right (year_bears facts span digits unit n) (bears facts (place_in span n) (labels.Packed digits unit n))
            (there_bears (place_in span n) (labels.Packed digits unit n) facts (subst (λ (i : ℕ). Contains facts (fact_in span i (labels.Packed digits unit i))) same there))
      ]

  plain_there : (n : ℕ) → plain_bears facts span n ≡ true → (k : ℕ) × (k < n) × Contains facts (fact_in span k labels.Plain)
  plain_there zero e = absurd (false≢true e)
  plain_there (suc n) e =
      elim (or_cases (plain_bears facts span n) (bears facts (place_in span n) labels.Plain) e) [
        | inl before ↦
            let found = plain_there n before in
            (found.0, omega (arith, found.1), found.2)
        | inr here ↦ (n, omega arith, bears_there (place_in span n) labels.Plain facts here)
      ]

  there_plain : (n k : ℕ) → k < n → Contains facts (fact_in span k labels.Plain) → plain_bears facts span n ≡ true
  there_plain zero k low there = absurd (omega (arith, low))
  there_plain (suc n) k low there =
      elim (cases_lt k n) [
        | inl before ↦ or_left (plain_bears facts span n) (bears facts (place_in span n) labels.Plain) (there_plain n k before there)
        | inr after ↦
            let same : k ≡ n = omega (arith, low, after) in
            or_right (plain_bears facts span n) (bears facts (place_in span n) labels.Plain)
            (there_bears (place_in span n) labels.Plain facts (subst (λ (i : ℕ). Contains facts (fact_in span i labels.Plain)) same there))
      ]

  packed_there : (digits power : ℕ) (role : Role) → has_packed_role facts span digits power role ≡ true → HasPackedRole facts span digits power role
  packed_there digits power roles.Tens e =
      let both = and_parts (nat_lt 0 power) (year_bears facts span digits (power - 1) span.length) e in
      let low : 0 < power = ltb-true 0 power both.0 in
      let found = year_there digits (power - 1) span.length both.1 in
      (found.0, power - 1, found.1, omega (arith, low), found.2)
  packed_there digits power roles.Units e = year_there digits power span.length e
  packed_there digits power roles.Plain e =
      let both = and_parts (nat_lt power digits) (plain_bears facts span span.length) e in
      let found = plain_there span.length both.1 in
      (found.0, found.1, ltb-true power digits both.0, found.2)

  there_packed : (digits power : ℕ) (role : Role) → HasPackedRole facts span digits power role → has_packed_role facts span digits power role ≡ true
  there_packed digits power roles.Tens has =
      let is : power ≡ has.1 + 1 = has.3 in
      let low : 0 < power = omega (arith, is) in
      let same : has.1 ≡ power - 1 = omega (arith, is) in
      and_from (nat_lt 0 power) (year_bears facts span digits (power - 1) span.length) (lt-ltb 0 power low)
      (there_year digits (power - 1) span.length has.0 has.2 (subst (λ (u : ℕ). Contains facts (fact_in span has.0 (labels.Packed digits u has.0))) same has.4))
  there_packed digits power roles.Units has = there_year digits power span.length has.0 has.1 has.2
  there_packed digits power roles.Plain has =
      and_from (nat_lt power digits) (plain_bears facts span span.length) (lt-ltb power digits has.2) (there_plain span.length has.0 has.1 has.3)

plain_is : (role : Role) → is_plain_role role ≡ true → role ≡ roles.Plain
plain_is roles.Tens e = absurd (false≢true e)
plain_is roles.Units e = absurd (false≢true e)
plain_is roles.Plain e = refl

module _ (facts : List Fact) where
  role_there : (view : View) (power : ℕ) (role : Role) → has_role facts view power role ≡ true → HasRole facts view power role
  role_there (views.Bytes span powers) power role e =
      let found = digit_there facts span (label_of role) power 0 powers e in
      let same : 0 + found.0 ≡ found.0 = omega arith in
      (found.0, found.1, subst (λ (n : ℕ). Contains facts (fact_in span n (label_of role))) same found.2)
  role_there (views.Packed span digits) power role e = packed_there facts span digits power role e
  role_there views.Plain power role e = plain_is role e

  there_role : (view : View) (power : ℕ) (role : Role) → HasRole facts view power role → has_role facts view power role ≡ true
  there_role (views.Bytes span powers) power role has =
      let same : has.0 ≡ 0 + has.0 = omega arith in
      there_digit facts span (label_of role) power 0 powers has.0 has.1 (subst (λ (n : ℕ). Contains facts (fact_in span n (label_of role))) same has.2)
  there_role (views.Packed span digits) power role has = there_packed facts span digits power role has
  there_role views.Plain power role has = subst (λ (r : Role). is_plain_role r ≡ true) (sym has) refl

  pub year_is : (view : View) → (is_year facts view ≡ true) ↔ Is facts view true
  year_is view = (
    λ e. elim (or_cases (has_role facts view 1 roles.Tens) (has_role facts view 0 roles.Units) e) [
      | inl tens ↦ inl (role_there view 1 roles.Tens tens)
      | inr units ↦ inr (role_there view 0 roles.Units units)
    ],
    λ is. elim is [
      | inl tens ↦ or_left (has_role facts view 1 roles.Tens) (has_role facts view 0 roles.Units) (there_role view 1 roles.Tens tens)
      | inr units ↦ or_right (has_role facts view 1 roles.Tens) (has_role facts view 0 roles.Units) (there_role view 0 roles.Units units)
    ],
  )

  pub plain_is_plain : (view : View) → (is_plain facts view ≡ true) ↔ Is facts view false
  plain_is_plain view = (
    λ e. elim (or_cases (has_role facts view 1 roles.Plain) (has_role facts view 0 roles.Plain) e) [
      | inl high ↦ inl (role_there view 1 roles.Plain high)
      | inr low ↦ inr (role_there view 0 roles.Plain low)
    ],
    λ is. elim is [
      | inl high ↦ or_left (has_role facts view 1 roles.Plain) (has_role facts view 0 roles.Plain) (there_role view 1 roles.Plain high)
      | inr low ↦ or_right (has_role facts view 1 roles.Plain) (has_role facts view 0 roles.Plain) (there_role view 0 roles.Plain low)
    ],
  )
