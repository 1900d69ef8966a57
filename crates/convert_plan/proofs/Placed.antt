-- The years of labelled bytes of areas, and their modes, stand in areas.
use Rattle.std.proofs.Common.{◌≡◌, ℕ, ◌+◌, ◌<◌, ◌≤◌, List, length, get_or, Contains, Some, None, false, subst, arith}
use Rattle.std.specs.List.{slice_get}
use Rattle.std.proofs.lemmas.List.Elements.{Contains-get_or, All-from_get_or}
use Rattle.std.proofs.lemmas.Option.{slice_get_within, get_or_from_slice_get}
use Rattle.year_labels.specs.declared.label.Fact.{Fact}
use Rattle.year_labels.specs.declared.rule.RuleForm.{RuleForm}
use Rattle.year_pairs.specs.declared.year.Year.{Year}
use Rattle.year_pairs.specs.declared.year.YearKind.{YearKind}
use Rattle.year_pairs.specs.declared.year.YearKind.TheVariants as kinds
use Rattle.year_pairs.specs.Years.{width, byte_of, AreYearsOf, AreInAreas as AreFactsInAreas}
use Rattle.window_modes.specs.declared.modes.WindowGroup.{WindowGroup}
use Rattle.window_modes.specs.declared.modes.YearMode.{YearMode}
use Rattle.window_modes.specs.Modes.{AreInAreas, AreModesOf}
use Rattle.plan_images.proofs.Filling.{modes_in_order}
use Rattle.year_index.specs.Years.{ArePlaced, IsNear}

has_width : (kind : YearKind) → 0 < width kind
has_width kinds.Pair = omega arith
has_width (kinds.Packed digits unit) = omega arith

near_year : (facts : List Fact) (years : List Year) (y : Year) → AreFactsInAreas facts → AreYearsOf facts years → Contains years y → y.place.offset ≤ 65535
near_year facts years y placed found among =
    let first : (byte_of y 0).place.offset ≤ 65535 = placed (byte_of y 0) ((found.same y).0 among 0 (has_width y.kind)) in
    omega (arith, first)

among_at : (years : List Year) (i : ℕ) (y : Year) → slice_get years i ≡ Some y → Contains years y
among_at years i y here =
    subst (λ (x : Year). Contains years x) (get_or_from_slice_get years i y y here) (Contains-get_or years i y (slice_get_within years i y here))

-- the years are placed
pub years_placed : (facts : List Fact) (years : List Year) → AreFactsInAreas facts → AreYearsOf facts years → AreInAreas years
years_placed facts years placed found i y here = near_year facts years y placed found (among_at years i y here)

blank : YearMode
blank = record {
  year = record { place = record { area = record { 0 = 0 }; offset = 0 }; kind = kinds.Pair };
  pivot = None;
  clash = false;
}

near_mode : (facts : List Fact) (years : List Year) (links : List RuleForm) (groups : List WindowGroup) (modes : List YearMode) → AreFactsInAreas facts → AreYearsOf facts years → AreModesOf years links groups modes
    → (i : ℕ) → i < length modes → IsNear (get_or modes i blank)
near_mode facts years links groups modes placed found are i low =
    let mode = are.each i blank (omega (arith, low, are.long)) in
    near_year facts years (get_or modes i blank).year placed found (among_at years i (get_or modes i blank).year mode.year)

-- the modes are placed, in order
pub modes_placed : (facts : List Fact) (years : List Year) (links : List RuleForm) (groups : List WindowGroup) (modes : List YearMode) → AreFactsInAreas facts → AreYearsOf facts years → AreModesOf years links groups modes
    → ArePlaced modes
modes_placed facts years links groups modes placed found are = record {
  ordered = modes_in_order facts years links groups modes found are;
  near = All-from_get_or IsNear modes blank (near_mode facts years links groups modes placed found are);
}
