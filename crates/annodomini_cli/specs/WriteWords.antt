-- The words of the form that writes a converted portfolio.
use Rattle.std.specs.Prelude.{◌≡◌, ℕ, true, List, [], ◌∷◌, codes}
use Rattle.annodomini_cli.specs.Command.{is_shelf_name}

-- the words are `convert M OUT`
pub record IsConversion (words : List (List ℕ)) (main out : List ℕ) : Type 0 where
  pub are : words ≡ codes "convert" ∷ main ∷ out ∷ []
  pub main_name : is_shelf_name main ≡ true
  pub out_name : is_shelf_name out ≡ true

abbrev pub IsNoConversion : List (List ℕ) → Type 0
IsNoConversion words = (main out : List ℕ) → IsConversion words main out → ⊥
