-- Laws of the trees that are built.
use Rattle.std.proofs.Common.{◌≡◌, ℕ, suc, ◌+◌, List, [], ◌∷◌, ◌++◌, length, refl, ap, sym, ◌∙◌, arith}
use Rattle.cobol_syntax.specs.declared.statement.Form.{Form}
use Rattle.cobol_syntax.specs.declared.statement.Statement.{Statement}
use Rattle.proc_reader.specs.Trees.{statement, numbered}
use Rattle.proc_reader.specs.declared.evaluate.Group.{Group}
use Rattle.proc_reader.specs.Evaluates.{if_of, tied}

shifted : (p i j n m : ℕ) (f : Form) (fs : List Form) → n ≡ m → statement p n i j f ∷ numbered p i j n fs ≡ statement p m i j f ∷ numbered p i j m fs
shifted p i j n m f fs e = ap (λ x. statement p x i j f ∷ numbered p i j x fs) e

-- one more form
pub numbered_last : (p i j n : ℕ) (fs : List Form) (f : Form) → numbered p i j n (fs ++ f ∷ []) ≡ numbered p i j n fs ++ statement p (n + length fs) i j f ∷ []
numbered_last p i j n [] f = let e : n ≡ n + 0 = omega arith in ap (λ x. statement p x i j f ∷ []) e
numbered_last p i j n (g ∷ fs) f =
    let e : n + 1 + length fs ≡ n + suc (length fs) = omega arith in
    ap (λ rest. statement p n i j g ∷ rest) (numbered_last p i j (n + 1) fs f ∙ ap (λ x. numbered p i j (n + 1) fs ++ statement p x i j f ∷ []) e)

pub numbered_length : (p i j n : ℕ) (fs : List Form) → length (numbered p i j n fs) ≡ length fs
numbered_length p i j n [] = refl
numbered_length p i j n (f ∷ fs) = ap (λ x. suc x) (numbered_length p i j (n + 1) fs)

-- the chain of groups, tied from the last one
pub tied_last : (p j : ℕ) (gs : List Group) (g : Group) (rest : List Statement) → tied p j (gs ++ g ∷ []) rest ≡ tied p j gs (if_of p j g rest ∷ [])
tied_last p j [] g rest = refl
tied_last p j (h ∷ gs) g rest = ap (λ tail. if_of p j h tail ∷ []) (tied_last p j gs g rest)
