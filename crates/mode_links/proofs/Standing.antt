-- The years of a bridged move stand there.
use Rattle.std.proofs.Common.{◌≡◌, inl, inr, arith, ℕ, zero, suc, ◌<◌, ◌-◌, Bool, true, false, ◌&&◌, nat_le, if◌then◌else◌, List, refl, subst, Contains, Option, Some, None}
use Rattle.std.specs.Prelude.{IfSome}
use Rattle.std.proofs.lemmas.Bool.{cases_lt}
use Rattle.cobol_syntax.specs.declared.place.Sub.{Sub}
use Rattle.year_labels.specs.declared.label.Fact.{Fact}
use Rattle.year_labels.specs.declared.rule.View.{View}
use Rattle.year_pairs.specs.declared.year.Year.{Year}
use Rattle.year_pairs.specs.Years.{width, label_at, place_after, byte_of, IsYear}
use Rattle.date_views.specs.declared.side.Field.{Field}
use Rattle.date_views.specs.declared.side.Side.{Side}
use Rattle.date_views.specs.declared.side.Side.TheVariants as sides
use Rattle.mode_links.specs.Bridges.{bears, bears_first, stands, begins_none, year_at, standing, year_of, may_bridge, bridge_to, bridge_of_fields, bridge_if, bridge_from, bridge, AreStanding}
use Rattle.mode_links.proofs.Bears.{bears_there}

both_true : (a b : Bool) → (a && b) ≡ true → (a ≡ true) × (b ≡ true)
both_true true b e = (refl, e)
both_true false b e = absurd (let f : false ≡ true = e in cc)

module _ (facts : List Fact) where
  bears_each : (y : Year) (n : ℕ) → bears_first facts y n ≡ true → (k : ℕ) → k < n → Contains facts (byte_of y k)
  bears_each y zero e k low = absurd (omega (arith, low))
  bears_each y (suc n) e k low =
      let both = both_true (bears_first facts y n) (bears facts (place_after y.place n) (label_at y.kind n)) e in
      elim (cases_lt k n) [
        | inl below ↦ bears_each y n both.0 k below
        | inr above ↦
            let same : n ≡ k = omega (arith, low, above) in
            subst (λ (i : ℕ). Contains facts (byte_of y i)) same (bears_there (place_after y.place n) (label_at y.kind n) facts both.1)
      ]

  standing_year : (o : Option Year) → IfSome (standing facts o) (IsYear facts)
  standing_year None = tt
  standing_year (Some y) =
      elim (stands facts y) as (λ (b : Bool). stands facts y ≡ b → IfSome (if b then Some y else None) (IsYear facts)) [
        | true ↦ λ e k low. bears_each y (width y.kind) e k low
        | false ↦ λ _. tt
      ] refl

  year_stands : (digits : ℕ) (view : View) → IfSome (year_of facts digits view) (IsYear facts)
  year_stands digits view =
      elim (nat_le 2 digits) as (λ (b : Bool). IfSome (if b then standing facts (year_at digits view) else None) (IsYear facts)) [
        | true ↦ standing_year (year_at digits view)
        | false ↦ tt
      ]

  both_stand : (sent received : Option Year) → IfSome sent (IsYear facts) → IfSome received (IsYear facts) → IfSome (bridge_to sent received) (AreStanding facts)
  both_stand None received h g = tt
  both_stand (Some y) None h g = tt
  both_stand (Some y) (Some z) h g = (h, g)

  fields_stand : (a b : Field) → IfSome (bridge_of_fields facts a b) (AreStanding facts)
  fields_stand a b =
      elim (begins_none facts a.span (a.span.length - 1)) as (λ (t : Bool). IfSome (if t then bridge_to (year_of facts a.digits a.view) (year_of facts a.digits b.view) else None) (AreStanding facts)) [
        | true ↦ both_stand (year_of facts a.digits a.view) (year_of facts a.digits b.view) (year_stands a.digits a.view) (year_stands a.digits b.view)
        | false ↦ tt
      ]

  bridge_if_stands : (a b : Field) (subs : List Sub) → IfSome (bridge_if facts a b subs) (AreStanding facts)
  bridge_if_stands a b subs =
      elim (may_bridge a b subs) as (λ (t : Bool). IfSome (if t then bridge_of_fields facts a b else None) (AreStanding facts)) [
        | true ↦ fields_stand a b
        | false ↦ tt
      ]

  bridge_from_stands : (a : Field) (to : Option Side) (subs : List Sub) → IfSome (bridge_from facts a to subs) (AreStanding facts)
  bridge_from_stands a None subs = tt
  bridge_from_stands a (Some (sides.Known b)) subs = bridge_if_stands a b subs
  bridge_from_stands a (Some (sides.Moving most)) subs = tt

  pub bridge_stands : (from to : Option Side) (subs : List Sub) → IfSome (bridge facts from to subs) (AreStanding facts)
  bridge_stands None to subs = tt
  bridge_stands (Some (sides.Known a)) to subs = bridge_from_stands a to subs
  bridge_stands (Some (sides.Moving most)) to subs = tt
