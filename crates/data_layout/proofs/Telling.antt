-- Faults of two parts, one after the other.
use Rattle.std.proofs.Common.{◌≡◌, inl, inr, List, [], ◌∷◌, ◌++◌, sym, ap, ◌∙◌, subst, Some}
use Rattle.data_layout.specs.declared.fault.LayoutFault.{LayoutFault}
use Rattle.data_layout.specs.Faults.{first, IsFirst}

first-front : (fs gs : List LayoutFault) (f : LayoutFault) → first fs ≡ Some f → first (fs ++ gs) ≡ Some f
first-front [] gs f h = absurd cc
first-front (x ∷ xs) gs f h = h

pub IsFirst-front : (fs gs : List LayoutFault) (f : LayoutFault) → IsFirst f fs → IsFirst f (fs ++ gs)
IsFirst-front fs gs f h = elim h [
  | inl none ↦ inl none
  | inr is ↦ inr (first-front fs gs f is)
]

pub IsFirst-rest : (fs gs : List LayoutFault) (f : LayoutFault) → fs ≡ [] → IsFirst f gs → IsFirst f (fs ++ gs)
IsFirst-rest fs gs f none h = subst (λ (xs : List LayoutFault). IsFirst f (xs ++ gs)) (sym none) h

pub none-both : (fs gs : List LayoutFault) → fs ≡ [] → gs ≡ [] → fs ++ gs ≡ []
none-both fs gs a b = ap (λ (xs : List LayoutFault). xs ++ gs) a ∙ b
