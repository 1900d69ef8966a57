-- What is given to packed numbers.
use Rattle.std.proofs.Common.{◌≡◌, inl, inr, ℕ, ◌+◌, ◌<◌, ◌≤◌, List, subst, arith}
use Rattle.y2k_base.specs.declared.place.Span.{Span}
use Rattle.year_labels.specs.declared.label.Fact.{Fact}
use Rattle.year_labels.specs.declared.label.Label.TheVariants as labels
use Rattle.year_labels.specs.declared.label.Role.TheVariants as roles
use Rattle.year_labels.specs.Roles.{GivesPacked, MayBePlain, IsPackedYear, IsHalfYear, IsPlainByte}
use Rattle.label_spread.specs.Steps.{Adds}
use Rattle.label_spread.proofs.Growth.{Adds-alike, Adds-none}
use Rattle.label_spread.proofs.Local.{MayBePlain-local}

module _ (span : Span) (digits power : ℕ) (old new : List Fact) where
  pub tens_none : digits ≤ power → Adds (λ xs. GivesPacked xs span digits power roles.Tens) old old
  tens_none le = Adds-none (λ xs. GivesPacked xs span digits power roles.Tens) old (λ f h. absurd (omega (arith, h.0, le)))

  pub tens_half : power < digits → power ≡ 0 → Adds (λ _. IsHalfYear span digits power labels.Tens) old new → Adds (λ xs. GivesPacked xs span digits power roles.Tens) old new
  tens_half low none a = Adds-alike (λ _. IsHalfYear span digits power labels.Tens) (λ xs. GivesPacked xs span digits power roles.Tens) old new
      (λ xs f known h. (low, inr (none, h)))
      (λ f h. elim h.1 [ inl year ↦ absurd (omega (arith, year.1, none)) | inr half ↦ half.1 ]) a

  pub tens_year : (unit : ℕ) → power ≡ unit + 1 → power < digits → Adds (λ _. IsPackedYear span digits unit) old new → Adds (λ xs. GivesPacked xs span digits power roles.Tens) old new
  tens_year unit is low a = Adds-alike (λ _. IsPackedYear span digits unit) (λ xs. GivesPacked xs span digits power roles.Tens) old new
      (λ xs f known h. (low, inl (unit, is, h)))
      (λ f h. elim h.1 [
        | inl year ↦
            let same : year.0 ≡ unit = omega (arith, year.1, is) in
            subst (λ (u : ℕ). IsPackedYear span digits u f) same year.2
        | inr half ↦ absurd (omega (arith, half.0, is))
      ]) a

  pub units_none : digits ≤ power → Adds (λ xs. GivesPacked xs span digits power roles.Units) old old
  units_none le = Adds-none (λ xs. GivesPacked xs span digits power roles.Units) old
      (λ f h. elim h [ inl year ↦ absurd (omega (arith, year.0, le)) | inr half ↦ absurd (omega (arith, half.0, le)) ])

  pub units_half : power + 1 ≡ digits → Adds (λ _. IsHalfYear span digits power labels.Units) old new → Adds (λ xs. GivesPacked xs span digits power roles.Units) old new
  units_half last a = Adds-alike (λ _. IsHalfYear span digits power labels.Units) (λ xs. GivesPacked xs span digits power roles.Units) old new
      (λ xs f known h. inr (last, h))
      (λ f h. elim h [ inl year ↦ absurd (omega (arith, year.0, last)) | inr half ↦ half.1 ]) a

  pub units_year : power + 1 < digits → Adds (λ _. IsPackedYear span digits power) old new → Adds (λ xs. GivesPacked xs span digits power roles.Units) old new
  units_year low a = Adds-alike (λ _. IsPackedYear span digits power) (λ xs. GivesPacked xs span digits power roles.Units) old new
      (λ xs f known h. inl (low, h))
      (λ f h. elim h [ inl year ↦ year.1 | inr half ↦ absurd (omega (arith, half.0, low)) ]) a

  pub plain_each : MayBePlain old span digits power → Adds (λ _. IsPlainByte span) old new → Adds (λ xs. GivesPacked xs span digits power roles.Plain) old new
  plain_each may a = Adds-alike (λ _. IsPlainByte span) (λ xs. GivesPacked xs span digits power roles.Plain) old new
      (λ xs f known h. (MayBePlain-local old xs span digits power (λ g at _. known g at) may, h))
      (λ f h. h.1) a

  pub plain_none : (MayBePlain old span digits power → ⊥) → Adds (λ xs. GivesPacked xs span digits power roles.Plain) old old
  plain_none may_not = Adds-none (λ xs. GivesPacked xs span digits power roles.Plain) old (λ f h. may_not h.0)
