-- Rules of alike bytes and other rules, put together.
use Rattle.std.proofs.Common.{◌≡◌, ◌⊎◌, inl, inr, List, [], ◌∷◌, ◌++◌, arith, Contains}
use Rattle.y2k_base.specs.declared.place.Span.{Span}
use Rattle.year_labels.specs.declared.label.Fact.{Fact}
use Rattle.year_labels.specs.declared.rule.RuleForm.{RuleForm}
use Rattle.year_labels.specs.declared.rule.RuleForm.TheVariants as forms
use Rattle.year_labels.specs.Forms.{IsFit, Follows}
use Rattle.label_spread.specs.Steps.{Adds, Starts, Reacts, FollowsAlike, FollowsWhole, Touches}
use Rattle.label_spread.proofs.Growth.{Extends-weaker, Reacts-both, Reacts-alike, Reacts-whole, Reacts-none}
use Rattle.label_spread.proofs.Local.{split, from_alike, from_whole, not_alike, alike_from_nothing, FollowsWhole-monotone, FollowsWhole-apart}

pub Starts-form : (form : RuleForm) (old new : List Fact) → IsFit form → Adds (FollowsWhole form) old new → Starts (Follows form) old new
Starts-form form old new fit a = record {
  extends = Extends-weaker (FollowsWhole form) (Follows form) old new (λ xs f known h. from_whole form xs f h) a.extends;
  all = λ f h. elim (split form [] f h) [
    | inl alike ↦ absurd (alike_from_nothing form f alike)
    | inr whole ↦ a.all f (FollowsWhole-monotone form fit [] old f (λ g at. absurd (omega (arith, at.1))) whole)
  ];
}

pub Reacts-form : (form : RuleForm) (fact : Fact) (old mid new : List Fact) → Reacts (FollowsAlike form) fact old mid → Reacts (FollowsWhole form) fact mid new → Reacts (Follows form) fact old new
Reacts-form form fact old mid new alike whole =
    Reacts-alike (λ xs f. FollowsAlike form xs f ⊎ FollowsWhole form xs f) (Follows form) fact old new
    (λ xs f h. elim h [ inl a ↦ from_alike form xs f a | inr b ↦ from_whole form xs f b ])
    (λ xs f h. split form xs f h)
    (Reacts-both (FollowsAlike form) (FollowsWhole form) fact old mid new alike whole)

pub Reacts-other : (form : RuleForm) (fact : Fact) (old : List Fact) → ((a b : Span) → form ≡ forms.Alike a b → ⊥) → Reacts (FollowsAlike form) fact old old
Reacts-other form fact old other = Reacts-none (FollowsAlike form) fact old (λ front f h. absurd (not_alike form (front ++ fact ∷ []) f other h))

pub Reacts-touched : (form : RuleForm) (fact : Fact) (old new : List Fact) → IsFit form → Contains old fact → Adds (FollowsWhole form) old new → Reacts (FollowsWhole form) fact old new
Reacts-touched form fact old new fit there a = Reacts-whole (FollowsWhole form) fact old new (FollowsWhole-monotone form fit) there a

pub Reacts-untouched : (form : RuleForm) (fact : Fact) (old : List Fact) → IsFit form → (Touches form fact.place → ⊥) → Reacts (FollowsWhole form) fact old old
Reacts-untouched form fact old fit apart = Reacts-none (FollowsWhole form) fact old (FollowsWhole-apart form fact fit apart)
