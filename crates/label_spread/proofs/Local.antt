-- Only facts about bytes of a view matter to its roles.
use Rattle.std.proofs.Common.{◌⊎◌, inl, inr, ℕ, ◌<◌, List, [], ◌∷◌, ◌++◌, length, refl, sym, subst, arith, Contains, Some, Bool, true, false, None, Option, ◌≡◌}
use Rattle.std.proofs.lemmas.Option.{slice_get_within}
use Rattle.std.proofs.lemmas.List.Elements.{Contains-push_cases}
use Rattle.y2k_base.specs.declared.place.Span.{Span}
use Rattle.y2k_base.specs.declared.place.BytePlace.{BytePlace}
use Rattle.year_labels.specs.declared.label.Fact.{Fact}
use Rattle.year_labels.specs.declared.label.Label.TheVariants as labels
use Rattle.year_labels.specs.declared.label.Role.{Role}
use Rattle.year_labels.specs.declared.label.Role.TheVariants as roles
use Rattle.year_labels.specs.declared.rule.View.{View}
use Rattle.year_labels.specs.declared.rule.View.TheVariants as views
use Rattle.year_labels.specs.declared.rule.RuleForm.{RuleForm}
use Rattle.year_labels.specs.declared.rule.RuleForm.TheVariants as forms
use Rattle.year_labels.specs.Facts.{fact_in}
use Rattle.year_labels.specs.Roles.{HasRole, HasPackedRole, HasPackedYear, MayBePlain, GivesPacked, Gives, label_of}
use Rattle.case_tables.specs.declared.row_table.Who.{Who}
use Rattle.case_tables.specs.declared.row_table.Who.TheVariants as whos
use Rattle.case_tables.specs.declared.row_table.Test.{Test}
use Rattle.case_tables.specs.declared.row_table.Row.{Row}
use Rattle.year_labels.specs.Operands.{Is, Makes, Holds, HoldsIf, Fires, IsByRow, operand}
use Rattle.year_labels.specs.Forms.{IsFit, IsFitView, IsPassed, IsCopied, HasYearDigit, Follows}
use Rattle.label_spread.specs.Steps.{IsInSpan, IsInView, IsPassedAs, IsPassedAt, MayFill, IsFilledAt, FollowsAlike, FollowsWhole, Touches}
use Rattle.label_spread.proofs.Growth.{IsMonotone}

-- the facts of the one list that are about such places are in the other
abbrev pub Keeps : List Fact → List Fact → (BytePlace → Type 0) → Type 0
Keeps xs ys touch = (g : Fact) → Contains xs g → touch g.place → Contains ys g

module _ (xs ys : List Fact) where
  HasPackedRole-local : (span : Span) (digits power : ℕ) (role : Role) → Keeps xs ys (IsInSpan span) → HasPackedRole xs span digits power role → HasPackedRole ys span digits power role
  HasPackedRole-local span digits power roles.Tens keeps h =
      (h.0, h.1, h.2, h.3, keeps (fact_in span h.0 (labels.Packed digits h.1 h.0)) h.4 (h.0, h.2, refl))
  HasPackedRole-local span digits power roles.Units keeps h =
      (h.0, h.1, keeps (fact_in span h.0 (labels.Packed digits power h.0)) h.2 (h.0, h.1, refl))
  HasPackedRole-local span digits power roles.Plain keeps h =
      (h.0, h.1, h.2, keeps (fact_in span h.0 labels.Plain) h.3 (h.0, h.1, refl))

  pub HasRole-local : (view : View) (power : ℕ) (role : Role) → IsFitView view → Keeps xs ys (IsInView view) → HasRole xs view power role → HasRole ys view power role
  HasRole-local (views.Bytes span powers) power role fit keeps h =
      let within : h.0 < length powers = slice_get_within powers h.0 (Some power) h.1 in
      (h.0, h.1, keeps (fact_in span h.0 (label_of role)) h.2 (h.0, omega (arith, within, fit.1), refl))
  HasRole-local (views.Packed span digits) power role fit keeps h = HasPackedRole-local span digits power role keeps h
  HasRole-local views.Plain power role fit keeps h = h

  HasPackedYear-local : (span : Span) (digits power : ℕ) → Keeps xs ys (IsInSpan span) → HasPackedYear xs span digits power → HasPackedYear ys span digits power
  HasPackedYear-local span digits power keeps (inl h) = inl (HasPackedRole-local span digits power roles.Tens keeps h)
  HasPackedYear-local span digits power keeps (inr h) = inr (HasPackedRole-local span digits power roles.Units keeps h)

  pub MayBePlain-local : (span : Span) (digits power : ℕ) → Keeps xs ys (IsInSpan span) → MayBePlain xs span digits power → MayBePlain ys span digits power
  MayBePlain-local span digits power keeps h = (
    h.0,
    elim h.1 [
      | inl two ↦ inl two
      | inr year ↦ inr (HasPackedYear-local span digits power keeps year)
    ],
  )

  GivesPacked-local : (span : Span) (digits power : ℕ) (role : Role) (f : Fact) → Keeps xs ys (IsInSpan span) → GivesPacked xs span digits power role f → GivesPacked ys span digits power role f
  GivesPacked-local span digits power roles.Tens f keeps h = h
  GivesPacked-local span digits power roles.Units f keeps h = h
  GivesPacked-local span digits power roles.Plain f keeps h = (MayBePlain-local span digits power keeps h.0, h.1)

  pub Gives-local : (view : View) (power : ℕ) (role : Role) (f : Fact) → Keeps xs ys (IsInView view) → Gives xs view power role f → Gives ys view power role f
  Gives-local (views.Bytes span powers) power role f keeps h = h
  Gives-local (views.Packed span digits) power role f keeps h = GivesPacked-local span digits power role f keeps h
  Gives-local views.Plain power role f keeps h = h

  IsPassed-local : (a b : View) (f : Fact) → IsFitView a → Keeps xs ys (IsInView a) → Keeps xs ys (IsInView b) → IsPassed a b xs f → IsPassed a b ys f
  IsPassed-local a b f fit from to h = (h.0, h.1, HasRole-local a h.0 h.1 fit from h.2, Gives-local b h.0 h.1 f to h.3)

  HasYearDigit-local : (view : View) (power : ℕ) → IsFitView view → Keeps xs ys (IsInView view) → HasYearDigit xs view power → HasYearDigit ys view power
  HasYearDigit-local view power fit keeps (inl h) = inl (HasRole-local view power roles.Tens fit keeps h)
  HasYearDigit-local view power fit keeps (inr h) = inr (HasRole-local view power roles.Units fit keeps h)

  pub MayFill-local : (view : View) (from power : ℕ) → IsFitView view → Keeps xs ys (IsInView view) → MayFill xs view from power → MayFill ys view from power
  MayFill-local view from power fit keeps h = (h.0, HasYearDigit-local view power fit keeps h.1)

  Is-local : (view : View) (year : Bool) → IsFitView view → Keeps xs ys (IsInView view) → Is xs view year → Is ys view year
  Is-local view true fit keeps (inl h) = inl (HasRole-local view 1 roles.Tens fit keeps h)
  Is-local view true fit keeps (inr h) = inr (HasRole-local view 0 roles.Units fit keeps h)
  Is-local view false fit keeps (inl h) = inl (HasRole-local view 1 roles.Plain fit keeps h)
  Is-local view false fit keeps (inr h) = inr (HasRole-local view 0 roles.Plain fit keeps h)

  Makes-local : (view : View) (year : Bool) (f : Fact) → Keeps xs ys (IsInView view) → Makes xs view year f → Makes ys view year f
  Makes-local view true f keeps (inl h) = inl (Gives-local view 1 roles.Tens f keeps h)
  Makes-local view true f keeps (inr h) = inr (Gives-local view 0 roles.Units f keeps h)
  Makes-local view false f keeps (inl h) = inl (Gives-local view 1 roles.Plain f keeps h)
  Makes-local view false f keeps (inr h) = inr (Gives-local view 0 roles.Plain f keeps h)

  module _ (a b c : View) (fit : IsFitView a × IsFitView b × IsFitView c) (keeps : Keeps xs ys (λ place. IsInView a place ⊎ (IsInView b place ⊎ IsInView c place))) where
    operand_fit : (who : Who) → IsFitView (operand a b c who)
    operand_fit whos.A = fit.0
    operand_fit whos.B = fit.1
    operand_fit whos.C = fit.2

    operand_keeps : (who : Who) → Keeps xs ys (IsInView (operand a b c who))
    operand_keeps whos.A g at t = keeps g at (inl t)
    operand_keeps whos.B g at t = keeps g at (inr (inl t))
    operand_keeps whos.C g at t = keeps g at (inr (inr t))

    Holds-local : (test : Test) → Holds a b c test xs → Holds a b c test ys
    Holds-local test h = Is-local (operand a b c test.who) test.year (operand_fit test.who) (operand_keeps test.who) h

    HoldsIf-local : (test : Option Test) → HoldsIf a b c test xs → HoldsIf a b c test ys
    HoldsIf-local None h = h
    HoldsIf-local (Some test) h = Holds-local test h

    pub Fires-local : (row : Row) → Fires a b c row xs → Fires a b c row ys
    Fires-local row h = (Holds-local row.if1 h.0, HoldsIf-local row.if2 h.1)

    pub IsByRow-local : (row : Row) (f : Fact) → IsByRow a b c row xs f → IsByRow a b c row ys f
    IsByRow-local row f h = (Fires-local row h.0, Makes-local (operand a b c row.gives.who) row.gives.year f (operand_keeps row.gives.who) h.1)

  -- what follows by a rule stays, where what is known of its bytes stays
  pub FollowsWhole-local : (form : RuleForm) (f : Fact) → IsFit form → Keeps xs ys (Touches form) → FollowsWhole form xs f → FollowsWhole form ys f
  FollowsWhole-local (forms.Give fact) f fit keeps h = h
  FollowsWhole-local (forms.GiveDigit view power role) f fit keeps h = Gives-local view power role f keeps h
  FollowsWhole-local (forms.Alike a b) f fit keeps h = h
  FollowsWhole-local (forms.Digits a b) f fit keeps (inl h) = inl (IsPassed-local a b f fit.0 (λ g at t. keeps g at (inl t)) (λ g at t. keeps g at (inr t)) h)
  FollowsWhole-local (forms.Digits a b) f fit keeps (inr h) = inr (IsPassed-local b a f fit.1 (λ g at t. keeps g at (inr t)) (λ g at t. keeps g at (inl t)) h)
  FollowsWhole-local (forms.Fill view from) f fit keeps h = (h.0, h.1, HasYearDigit-local view h.0 fit keeps h.2, Gives-local view h.0 roles.Plain f keeps h.3)
  FollowsWhole-local (forms.Sum a b c) f fit keeps h = (h.0, h.1, IsByRow-local a b c fit keeps h.0 f h.2)
  FollowsWhole-local (forms.Difference a b c) f fit keeps h = (h.0, h.1, IsByRow-local a b c fit keeps h.0 f h.2)

pub HasRole-grows : (xs ys : List Fact) (view : View) (power : ℕ) (role : Role) → IsFitView view → ((g : Fact) → Contains xs g → Contains ys g) → HasRole xs view power role → HasRole ys view power role
HasRole-grows xs ys view power role fit grows h = HasRole-local xs ys view power role fit (λ g at _. grows g at) h

pub Gives-monotone : (view : View) (power : ℕ) (role : Role) → IsMonotone (λ xs. Gives xs view power role)
Gives-monotone view power role xs ys f grows h = Gives-local xs ys view power role f (λ g at _. grows g at) h

pub Makes-monotone : (view : View) (year : Bool) → IsMonotone (λ xs. Makes xs view year)
Makes-monotone view year xs ys f grows h = Makes-local xs ys view year f (λ g at _. grows g at) h

pub IsPassedAs-monotone : (a b : View) (power : ℕ) (role : Role) → IsFitView a → IsMonotone (IsPassedAs a b power role)
IsPassedAs-monotone a b power role fit xs ys f grows h =
    (HasRole-grows xs ys a power role fit grows h.0, Gives-monotone b power role xs ys f grows h.1)

pub IsPassedAt-monotone : (a b : View) (power : ℕ) → IsFitView a → IsMonotone (IsPassedAt a b power)
IsPassedAt-monotone a b power fit xs ys f grows h =
    (h.0, (HasRole-grows xs ys a power h.0 fit grows h.1.0, Gives-monotone b power h.0 xs ys f grows h.1.1))

pub IsPassed-monotone : (a b : View) → IsFitView a → IsMonotone (IsPassed a b)
IsPassed-monotone a b fit xs ys f grows h = IsPassed-local xs ys a b f fit (λ g at _. grows g at) (λ g at _. grows g at) h

pub IsCopied-monotone : (a b : Span) → IsMonotone (IsCopied a b)
IsCopied-monotone a b xs ys f grows h = (h.0, h.1, h.2, grows (fact_in a h.0 h.1) h.3, h.4)

pub MayFill-grows : (xs ys : List Fact) (view : View) (from power : ℕ) → IsFitView view → ((g : Fact) → Contains xs g → Contains ys g) → MayFill xs view from power → MayFill ys view from power
MayFill-grows xs ys view from power fit grows h = MayFill-local xs ys view from power fit (λ g at _. grows g at) h

pub IsFilledAt-monotone : (view : View) (from power : ℕ) → IsFitView view → IsMonotone (IsFilledAt view from power)
IsFilledAt-monotone view from power fit xs ys f grows h = (MayFill-grows xs ys view from power fit grows h.0, Gives-monotone view power roles.Plain xs ys f grows h.1)

pub Fires-grows : (xs ys : List Fact) (a b c : View) (row : Row) → IsFitView a × IsFitView b × IsFitView c → ((g : Fact) → Contains xs g → Contains ys g) → Fires a b c row xs → Fires a b c row ys
Fires-grows xs ys a b c row fit grows h = Fires-local xs ys a b c fit (λ g at _. grows g at) row h

pub IsByRow-monotone : (a b c : View) (row : Row) → IsFitView a × IsFitView b × IsFitView c → IsMonotone (IsByRow a b c row)
IsByRow-monotone a b c row fit xs ys f grows h = IsByRow-local xs ys a b c fit (λ g at _. grows g at) row f h

pub FollowsWhole-monotone : (form : RuleForm) → IsFit form → IsMonotone (FollowsWhole form)
FollowsWhole-monotone form fit xs ys f grows h = FollowsWhole-local xs ys form f fit (λ g at _. grows g at) h

-- a rule is one that bytes are alike, or another
pub split : (form : RuleForm) (xs : List Fact) (f : Fact) → Follows form xs f → FollowsAlike form xs f ⊎ FollowsWhole form xs f
split (forms.Give fact) xs f h = inr h
split (forms.GiveDigit view power role) xs f h = inr h
split (forms.Alike a b) xs f h = inl h
split (forms.Digits a b) xs f h = inr h
split (forms.Fill view from) xs f h = inr h
split (forms.Sum a b c) xs f h = inr h
split (forms.Difference a b c) xs f h = inr h

pub from_alike : (form : RuleForm) (xs : List Fact) (f : Fact) → FollowsAlike form xs f → Follows form xs f
from_alike (forms.Give fact) xs f h = absurd h
from_alike (forms.GiveDigit view power role) xs f h = absurd h
from_alike (forms.Alike a b) xs f h = h
from_alike (forms.Digits a b) xs f h = absurd h
from_alike (forms.Fill view from) xs f h = absurd h
from_alike (forms.Sum a b c) xs f h = absurd h
from_alike (forms.Difference a b c) xs f h = absurd h

pub from_whole : (form : RuleForm) (xs : List Fact) (f : Fact) → FollowsWhole form xs f → Follows form xs f
from_whole (forms.Give fact) xs f h = h
from_whole (forms.GiveDigit view power role) xs f h = h
from_whole (forms.Alike a b) xs f h = absurd h
from_whole (forms.Digits a b) xs f h = h
from_whole (forms.Fill view from) xs f h = h
from_whole (forms.Sum a b c) xs f h = h
from_whole (forms.Difference a b c) xs f h = h

FollowsAlike-monotone : (form : RuleForm) → IsMonotone (FollowsAlike form)
FollowsAlike-monotone (forms.Give fact) xs ys f grows h = h
FollowsAlike-monotone (forms.GiveDigit view power role) xs ys f grows h = h
FollowsAlike-monotone (forms.Alike a b) xs ys f grows (inl h) = inl (IsCopied-monotone a b xs ys f grows h)
FollowsAlike-monotone (forms.Alike a b) xs ys f grows (inr h) = inr (IsCopied-monotone b a xs ys f grows h)
FollowsAlike-monotone (forms.Digits a b) xs ys f grows h = h
FollowsAlike-monotone (forms.Fill view from) xs ys f grows h = h
FollowsAlike-monotone (forms.Sum a b c) xs ys f grows h = h
FollowsAlike-monotone (forms.Difference a b c) xs ys f grows h = h

pub Follows-monotone : (form : RuleForm) → IsFit form → IsMonotone (Follows form)
Follows-monotone form fit xs ys f grows h = elim (split form xs f h) [
  | inl alike ↦ from_alike form ys f (FollowsAlike-monotone form xs ys f grows alike)
  | inr whole ↦ from_whole form ys f (FollowsWhole-monotone form fit xs ys f grows whole)
]

-- nothing is alike by another rule
pub not_alike : (form : RuleForm) (xs : List Fact) (f : Fact) → ((a b : Span) → form ≡ forms.Alike a b → ⊥) → FollowsAlike form xs f → ⊥
not_alike (forms.Give fact) xs f other h = h
not_alike (forms.GiveDigit view power role) xs f other h = h
not_alike (forms.Alike a b) xs f other h = other a b refl
not_alike (forms.Digits a b) xs f other h = h
not_alike (forms.Fill view from) xs f other h = h
not_alike (forms.Sum a b c) xs f other h = h
not_alike (forms.Difference a b c) xs f other h = h

-- a rule of alike bytes gives nothing from nothing
pub alike_from_nothing : (form : RuleForm) (f : Fact) → FollowsAlike form [] f → ⊥
alike_from_nothing (forms.Give fact) f h = h
alike_from_nothing (forms.GiveDigit view power role) f h = h
alike_from_nothing (forms.Alike a b) f (inl h) = absurd (omega (arith, h.3.1))
alike_from_nothing (forms.Alike a b) f (inr h) = absurd (omega (arith, h.3.1))
alike_from_nothing (forms.Digits a b) f h = h
alike_from_nothing (forms.Fill view from) f h = h
alike_from_nothing (forms.Sum a b c) f h = h
alike_from_nothing (forms.Difference a b c) f h = h

-- a fact about no byte of the rule doesn't matter
keeps_front : (front : List Fact) (fact : Fact) (touch : BytePlace → Type 0) → (touch fact.place → ⊥) → Keeps (front ++ fact ∷ []) front touch
keeps_front front fact touch apart g at touched = elim (Contains-push_cases front fact g at) [
  | inl before ↦ before
  | inr is ↦ absurd (apart (subst (λ (x : Fact). touch x.place) (sym is) touched))
]

pub FollowsWhole-apart : (form : RuleForm) (fact : Fact) → IsFit form → (Touches form fact.place → ⊥) → (front : List Fact) (f : Fact) → FollowsWhole form (front ++ fact ∷ []) f → FollowsWhole form front f
FollowsWhole-apart form fact fit apart front f h =
    FollowsWhole-local (front ++ fact ∷ []) front form f fit (keeps_front front fact (Touches form) apart) h
