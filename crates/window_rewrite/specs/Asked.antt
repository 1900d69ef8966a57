-- Conditions as plain trees.
use Rattle.std.specs.Prelude.{ℕ, ℤ, Bool}
use Rattle.cobol_syntax.specs.declared.place.Place.{Place}
use Rattle.cobol_syntax.specs.declared.cond.Condition.{Condition, fold-Condition}
use Rattle.cobol_syntax.specs.declared.cond.CondForm.{CondForm, CondForm-F, fold-CondForm}
use Rattle.cobol_syntax.specs.declared.cond.CondForm.TheOpen as c
use Rattle.cobol_syntax.specs.declared.cond.Rel.{Rel}
use Rattle.statement_rules.specs.Trees.{Tree, tree_of}

-- each with the positions of its first word, and behind its last
pub data Asked : Type 0 where
  Relation : (at end : ℕ) → (left : Tree) → (rel : Rel) → (right : Tree) → Asked
  Class : (at end : ℕ) → (of : Place) → (numeric : Bool) → Asked
  Sign : (at end : ℕ) → (of : Tree) → (sign : ℤ) → Asked
  Named : (at end : ℕ) → (place : Place) → Asked
  Not : (at end : ℕ) → (inner : Asked) → Asked
  And : (at end : ℕ) → (left right : Asked) → Asked
  Or : (at end : ℕ) → (left right : Asked) → Asked

abbrev pub form_layer : CondForm-F (ℕ → ℕ → Asked) Asked → ℕ → ℕ → Asked
form_layer (c.Relation left rel right) at end = Relation at end (tree_of left) rel (tree_of right)
form_layer (c.Class of numeric) at end = Class at end of numeric
form_layer (c.Sign of sign) at end = Sign at end (tree_of of) sign
form_layer (c.Named place) at end = Named at end place
form_layer (c.Not inner) at end = Not at end inner
form_layer (c.And left right) at end = And at end left right
form_layer (c.Or left right) at end = Or at end left right

abbrev pub asked : Condition → Asked
asked = fold-Condition (ℕ → ℕ → Asked) Asked form_layer (λ x. x.form x.at x.end)

abbrev pub asked_form : CondForm → ℕ → ℕ → Asked
asked_form = fold-CondForm (ℕ → ℕ → Asked) Asked form_layer (λ x. x.form x.at x.end)

abbrev pub at_of : Asked → ℕ
at_of (Relation at end left rel right) = at
at_of (Class at end of numeric) = at
at_of (Sign at end of sign) = at
at_of (Named at end place) = at
at_of (Not at end inner) = at
at_of (And at end left right) = at
at_of (Or at end left right) = at

abbrev pub end_of : Asked → ℕ
end_of (Relation at end left rel right) = end
end_of (Class at end of numeric) = end
end_of (Sign at end of sign) = end
end_of (Named at end place) = end
end_of (Not at end inner) = end
end_of (And at end left right) = end
end_of (Or at end left right) = end
