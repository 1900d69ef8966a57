-- What bytes that a rule makes alike become.
use Rattle.std.specs.Prelude.{◌≡◌, ℕ, ◌<◌, List, length, Contains}
use Rattle.y2k_base.specs.declared.place.Span.{Span}
use Rattle.year_labels.specs.declared.label.Fact.{Fact}
use Rattle.year_labels.specs.declared.rule.RuleForm.{RuleForm}
use Rattle.year_labels.specs.declared.rule.RuleForm.TheVariants as forms
use Rattle.year_labels.specs.declared.rule.RuleInst.{RuleInst}
use Rattle.year_labels.specs.Facts.{IsClean}
use Rattle.year_labels.specs.Derivation.{FollowsByOne}
use Rattle.year_pairs.specs.declared.year.Year.{Year}
use Rattle.year_pairs.specs.Years.{AreYearsOf}
use Rattle.year_pairs.specs.Lone.{AreCovered}
use Rattle.window_modes.specs.declared.modes.WindowGroup.{WindowGroup}
use Rattle.window_modes.specs.declared.modes.YearMode.{YearMode}
use Rattle.window_modes.specs.Modes.{AreModesOf}
use Rattle.file_convert.specs.declared.cut.Cuts.{Cuts}
use Rattle.file_convert.specs.Cuts.{pieces}
use Rattle.plan_images.specs.Edges.{IsMoved}
use Rattle.plan_images.specs.Tables.{AreImagesOf, cuts_at}

-- the facts are closed under the rules and clean, each year stands whole, and the images are those of the years in their
-- modes by these links and window groups
pub record ArePlanned (rules : List RuleInst) (links : List RuleForm) (groups : List WindowGroup) (facts : List Fact) (lengths : List ℕ) (tables : List Cuts) : Type 0 where
  pub closed : (f : Fact) → FollowsByOne rules facts f → Contains facts f
  pub clean : IsClean facts
  pub years : List Year
  pub found : AreYearsOf facts years
  pub covered : AreCovered facts
  pub modes : List YearMode
  pub modes_of : AreModesOf years links groups modes
  pub images : AreImagesOf lengths modes tables

-- a rule, which is a link too, makes the bytes of the two spans alike
pub record AreTied (rules : List RuleInst) (links : List RuleForm) (a b : Span) : Type 0 where
  pub rule : RuleInst
  pub is_rule : Contains rules rule
  pub form : rule.form ≡ forms.Alike a b
  pub is_link : Contains links (forms.Alike a b)
  pub same_length : a.length ≡ b.length

-- then they are made of the same pieces, if they begin and end between pieces
abbrev pub AlikeSpansGrowAlike : Type 0
AlikeSpansGrowAlike = (rules : List RuleInst) (links : List RuleForm) (groups : List WindowGroup) (facts : List Fact) (lengths : List ℕ) (tables : List Cuts) → ArePlanned rules links groups facts lengths tables →
    (a b a' b' : Span) → AreTied rules links a b → a.area.0 < length tables → b.area.0 < length tables →
    (p : IsMoved (pieces (cuts_at tables a.area)) a a') (q : IsMoved (pieces (cuts_at tables b.area)) b b') → p.inside ≡ q.inside
