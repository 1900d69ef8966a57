-- How a list of facts grows, and what a function that adds facts sees to.
use Rattle.std.specs.Prelude.{◌≡◌, ◌⊎◌, ℕ, Bool, IsTrue, ◌<◌, ◌≤◌, List, [], ◌∷◌, ◌++◌, length, take, slice_index_or, Contains}
use Rattle.y2k_base.specs.declared.place.BytePlace.{BytePlace}
use Rattle.case_tables.specs.declared.row_table.Flags.{Flags}
use Rattle.case_tables.specs.Rows.{flag}
use Rattle.y2k_base.specs.declared.place.Span.{Span}
use Rattle.year_labels.specs.declared.label.Fact.{Fact}
use Rattle.year_labels.specs.declared.label.Label.{Label}
use Rattle.year_labels.specs.declared.label.Label.TheVariants as labels
use Rattle.year_labels.specs.declared.label.Role.{Role}
use Rattle.year_labels.specs.declared.rule.View.{View}
use Rattle.year_labels.specs.declared.rule.View.TheVariants as views
use Rattle.year_labels.specs.declared.label.Role.TheVariants as roles
use Rattle.year_labels.specs.declared.rule.RuleForm.{RuleForm}
use Rattle.year_labels.specs.declared.rule.RuleInst.{RuleInst}
use Rattle.year_labels.specs.declared.rule.RuleForm.TheVariants as forms
use Rattle.year_labels.specs.Facts.{place_in}
use Rattle.year_labels.specs.Roles.{HasRole, Gives}
use Rattle.year_labels.specs.Operands.{Makes}
use Rattle.year_labels.specs.Forms.{HasYearDigit, Follows}
use Rattle.year_labels.specs.Derivation.{FollowsByOne}

-- each fact of the one list is in the other
abbrev pub IsPartOf : List Fact → List Fact → Type 0
IsPartOf xs ys = (f : Fact) → Contains xs f → Contains ys f

-- the new facts are the old ones and further ones, each of which follows from those before it
pub record Extends (step : List Fact → Fact → Type 0) (old new : List Fact) : Type 0 where
  pub longer : length old ≤ length new
  pub front : take (length old) new ≡ old
  pub steps : (k : ℕ) (d : Fact) → length old ≤ k → k < length new → step (take k new) (slice_index_or new k d)

-- and each fact that followed from the old ones is there
pub record Adds (step : List Fact → Fact → Type 0) (old new : List Fact) : Type 0 where
  pub extends : Extends step old new
  pub all : (f : Fact) → step old f → Contains new f

-- and each fact that follows from nothing is there
pub record Starts (step : List Fact → Fact → Type 0) (old new : List Fact) : Type 0 where
  pub extends : Extends step old new
  pub all : (f : Fact) → step [] f → Contains new f

-- and each fact is there that follows from some of the old ones and this one, but not from those alone
pub record Reacts (step : List Fact → Fact → Type 0) (fact : Fact) (old new : List Fact) : Type 0 where
  pub extends : Extends step old new
  pub all : (front : List Fact) (f : Fact) → IsPartOf front old → step (front ++ fact ∷ []) f → step front f ⊎ Contains new f

-- and each fact is there that follows so by the rule of that index, if there is such a rule
pub record ReactsBy (rules : List RuleInst) (index : ℕ) (fact : Fact) (old new : List Fact) : Type 0 where
  pub extends : Extends (FollowsByOne rules) old new
  pub all : (rule : RuleInst) → index < length rules → slice_index_or rules index rule ≡ rule → (front : List Fact) (f : Fact) → IsPartOf front old → Follows rule.form (front ++ fact ∷ []) f → Follows rule.form front f ⊎ Contains new f

-- and each fact that follows from the new ones is there
pub record Closes (step : List Fact → Fact → Type 0) (old new : List Fact) : Type 0 where
  pub extends : Extends step old new
  pub closed : (f : Fact) → step new f → Contains new f

-- the number is made what the flags say of it
abbrev pub IsMade : View → Flags → List Fact → Fact → Type 0
IsMade view flags known f = (year : Bool) × IsTrue (flag flags year) × Makes known view year f

-- the place is a byte of the span
abbrev pub IsInSpan : Span → BytePlace → Type 0
IsInSpan span place = (i : ℕ) × (i < span.length) × (place ≡ place_in span i)

-- the place is a byte of the view
abbrev pub IsInView : View → BytePlace → Type 0
IsInView (views.Bytes span powers) place = IsInSpan span place
IsInView (views.Packed span digits) place = IsInSpan span place
IsInView views.Plain place = ⊥

-- the label of byte k of a number, one of whose bytes bears this one
abbrev pub label_on : Label → ℕ → Label
label_on labels.Tens k = labels.Tens
label_on labels.Units k = labels.Units
label_on labels.Plain k = labels.Plain
label_on (labels.Packed digits unit byte) k = labels.Packed digits unit k

-- the digit of that power has the role in the one view, and giving it to that of the other adds the fact
abbrev pub IsPassedAs : View → View → ℕ → Role → List Fact → Fact → Type 0
IsPassedAs a b power role known f = HasRole known a power role × Gives known b power role f

abbrev pub IsPassedAt : View → View → ℕ → List Fact → Fact → Type 0
IsPassedAt a b power known f = (role : Role) × IsPassedAs a b power role known f

-- a digit of a year stands at that power, which is not below the other
abbrev pub MayFill : List Fact → View → ℕ → ℕ → Type 0
MayFill known view from power = (from ≤ power) × HasYearDigit known view power

abbrev pub IsFilledAt : View → ℕ → ℕ → List Fact → Fact → Type 0
IsFilledAt view from power known f = MayFill known view from power × Gives known view power roles.Plain f

-- what follows by a rule that bytes are alike
abbrev pub FollowsAlike : RuleForm → List Fact → Fact → Type 0
FollowsAlike (forms.Give fact) known f = ⊥
FollowsAlike (forms.GiveDigit view power role) known f = ⊥
FollowsAlike (forms.Alike a b) known f = Follows (forms.Alike a b) known f
FollowsAlike (forms.Digits a b) known f = ⊥
FollowsAlike (forms.Fill view from) known f = ⊥
FollowsAlike (forms.Sum a b c) known f = ⊥
FollowsAlike (forms.Difference a b c) known f = ⊥

-- what follows by any other rule
abbrev pub FollowsWhole : RuleForm → List Fact → Fact → Type 0
FollowsWhole (forms.Give fact) known f = Follows (forms.Give fact) known f
FollowsWhole (forms.GiveDigit view power role) known f = Follows (forms.GiveDigit view power role) known f
FollowsWhole (forms.Alike a b) known f = ⊥
FollowsWhole (forms.Digits a b) known f = Follows (forms.Digits a b) known f
FollowsWhole (forms.Fill view from) known f = Follows (forms.Fill view from) known f
FollowsWhole (forms.Sum a b c) known f = Follows (forms.Sum a b c) known f
FollowsWhole (forms.Difference a b c) known f = Follows (forms.Difference a b c) known f

-- the place is a byte of one of the views that such a rule looks at
abbrev pub Touches : RuleForm → BytePlace → Type 0
Touches (forms.Give fact) place = ⊥
Touches (forms.GiveDigit view power role) place = IsInView view place
Touches (forms.Alike a b) place = ⊥
Touches (forms.Digits a b) place = IsInView a place ⊎ IsInView b place
Touches (forms.Fill view from) place = IsInView view place
Touches (forms.Sum a b c) place = IsInView a place ⊎ (IsInView b place ⊎ IsInView c place)
Touches (forms.Difference a b c) place = IsInView a place ⊎ (IsInView b place ⊎ IsInView c place)
