-- Chains are put together from their last link.
use Rattle.std.proofs.Common.{◌≡◌, ◌≤◌, ℕ, List, [], ◌∷◌, ◌++◌, refl, ap, arith}
use Rattle.cobol_syntax.specs.declared.statement.Link.{Link}
use Rattle.cobol_syntax.specs.declared.statement.Statement.{Statement, size-Statement}
use denote.Param.Weighed.{most}
use Rattle.cobol_syntax.specs.declared.expr.Expr.{Expr}
use Rattle.cobol_syntax.specs.declared.expr.Term.{Term}
use Rattle.cobol_syntax.specs.declared.cond.Condition.{Condition}
use Rattle.cobol_syntax.specs.declared.cond.Joint.{Joint}
use Rattle.cobol_syntax.specs.Chains.{linked, chain, operation, operated, junction, joined}

pub tied_last : (links : List Link) (link : Link) (rest : List Statement) → chain (links ++ link ∷ []) rest ≡ chain links (linked link rest ∷ [])
tied_last [] link rest = refl
tied_last (first ∷ links) link rest = ap (λ tail. linked first tail ∷ []) (tied_last links link rest)

-- how deep statements lead into one another
abbrev pub depth : List Statement → ℕ
depth list = most size-Statement list

-- a list and a statement behind it are no deeper than both together
pub depth_ends : (front : List Statement) (last : Statement) → (depth front ≤ depth (front ++ last ∷ [])) × (size-Statement last ≤ depth (front ++ last ∷ []))
depth_ends [] last = (omega arith, omega arith)
depth_ends (first ∷ front) last =
    let h : (depth front ≤ depth (front ++ last ∷ [])) × (size-Statement last ≤ depth (front ++ last ∷ [])) = depth_ends front last in
    let a : depth front ≤ depth (front ++ last ∷ []) = h.0 in
    let b : size-Statement last ≤ depth (front ++ last ∷ []) = h.1 in
    (omega arith, omega arith)

pub operated_last : (terms : List Term) (term : Term) (first : Expr) → operated (terms ++ term ∷ []) first ≡ operated terms (operation term first)
operated_last [] term first = refl
operated_last (next ∷ terms) term first = ap (operation next) (operated_last terms term first)

pub joined_last : (joints : List Joint) (joint : Joint) (first : Condition) → joined (joints ++ joint ∷ []) first ≡ joined joints (junction joint first)
joined_last [] joint first = refl
joined_last (next ∷ joints) joint first = ap (junction next) (joined_last joints joint first)
