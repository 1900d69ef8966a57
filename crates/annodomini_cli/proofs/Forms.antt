-- Words have at most one form.
use Rattle.std.proofs.Common.{◌≡◌, ℕ, List, [], ◌∷◌, codes, length, sym, ◌∙◌, ap, arith}
use Rattle.annodomini_cli.specs.Command.{IsLabelOne, IsOfManifest, IsRun}

pub first : List (List ℕ) → List ℕ
first (a ∷ ws) = a
first [] = []

-- no words are two and three, or six
two_or_more : (a b d e f : List ℕ) (ws : List (List ℕ)) → a ∷ b ∷ [] ≡ d ∷ e ∷ f ∷ ws → ⊥
two_or_more a b d e f ws is = cc

pub label_one_or : (form : List ℕ) (words : List (List ℕ)) (source item main : List ℕ) → IsLabelOne words source item → IsOfManifest form words main → ⊥
label_one_or form words source item main is so = two_or_more _ _ _ _ _ _ (sym so.0 ∙ is.0)

-- words that have the forms of manifests have one
pub manifest_or : (a b : List ℕ) (words : List (List ℕ)) (main other : List ℕ) → (a ≡ b → ⊥) → IsOfManifest a words main → IsOfManifest b words other → ⊥
unfolding first
manifest_or a b words main other differ is so = differ (ap first (sym is.0 ∙ so.0))

pub label_or_plan : codes "label" ≡ codes "plan" → ⊥
label_or_plan e =
    let lengths : length (codes "label") ≡ length (codes "plan") = ap length e in
    omega (arith, lengths)
