-- Roles that are given where a digit has them.
use Rattle.std.proofs.Common.{◌⊎◌, inl, inr, ℕ, List}
use Rattle.year_labels.specs.declared.label.Fact.{Fact}
use Rattle.year_labels.specs.declared.label.Role.{Role}
use Rattle.year_labels.specs.declared.label.Role.TheVariants as roles
use Rattle.year_labels.specs.declared.rule.View.{View}
use Rattle.year_labels.specs.Roles.{HasRole, Gives}
use Rattle.year_labels.specs.Forms.{IsFitView, IsPassed, Follows}
use Rattle.year_labels.specs.declared.rule.RuleForm.TheVariants as forms
use Rattle.label_spread.specs.Steps.{Adds, IsPassedAs, IsPassedAt}
use Rattle.label_spread.proofs.Growth.{Adds-alike, Adds-both}
use Rattle.label_spread.proofs.Local.{HasRole-grows, IsPassedAs-monotone, IsPassed-monotone}

pub Adds-given : (a b : View) (power : ℕ) (role : Role) (old new : List Fact) → IsFitView a → HasRole old a power role → Adds (λ xs. Gives xs b power role) old new → Adds (IsPassedAs a b power role) old new
Adds-given a b power role old new fit has given =
    Adds-alike (λ xs. Gives xs b power role) (IsPassedAs a b power role) old new
    (λ xs f known gives. (HasRole-grows old xs a power role fit known has, gives)) (λ f h. h.1) given

by_role : (a b : View) (power : ℕ) (xs : List Fact) (f : Fact) (role : Role) → IsPassedAs a b power role xs f → (IsPassedAs a b power roles.Tens xs f ⊎ IsPassedAs a b power roles.Units xs f) ⊎ IsPassedAs a b power roles.Plain xs f
by_role a b power xs f roles.Tens h = inl (inl h)
by_role a b power xs f roles.Units h = inl (inr h)
by_role a b power xs f roles.Plain h = inr h

some_role : (a b : View) (power : ℕ) (xs : List Fact) (f : Fact) → (IsPassedAs a b power roles.Tens xs f ⊎ IsPassedAs a b power roles.Units xs f) ⊎ IsPassedAs a b power roles.Plain xs f → IsPassedAt a b power xs f
some_role a b power xs f (inl (inl h)) = (roles.Tens, h)
some_role a b power xs f (inl (inr h)) = (roles.Units, h)
some_role a b power xs f (inr h) = (roles.Plain, h)

pub Adds-roles : (a b : View) (power : ℕ) (old x y new : List Fact) → IsFitView a → Adds (IsPassedAs a b power roles.Tens) old x → Adds (IsPassedAs a b power roles.Units) x y → Adds (IsPassedAs a b power roles.Plain) y new → Adds (IsPassedAt a b power) old new
Adds-roles a b power old x y new fit tens units plain =
    let T : List Fact → Fact → Type 0 = IsPassedAs a b power roles.Tens in
    let U : List Fact → Fact → Type 0 = IsPassedAs a b power roles.Units in
    let P : List Fact → Fact → Type 0 = IsPassedAs a b power roles.Plain in
    Adds-alike (λ xs f. (T xs f ⊎ U xs f) ⊎ P xs f) (IsPassedAt a b power) old new
    (λ xs f known h. some_role a b power xs f h)
    (λ f h. by_role a b power old f h.0 h.1)
    (Adds-both (λ xs f. T xs f ⊎ U xs f) P old y new (IsPassedAs-monotone a b power roles.Plain fit)
    (Adds-both T U old x y (IsPassedAs-monotone a b power roles.Units fit) tens units) plain)

pub Adds-digits : (a b : View) (old mid new : List Fact) → IsFitView b → Adds (IsPassed a b) old mid → Adds (IsPassed b a) mid new → Adds (Follows (forms.Digits a b)) old new
Adds-digits a b old mid new fit first second = Adds-both (IsPassed a b) (IsPassed b a) old mid new (IsPassed-monotone b a fit) first second
