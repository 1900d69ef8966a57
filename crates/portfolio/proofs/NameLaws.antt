-- A name that is read byte by byte is one whose parts are parts of names.
use Rattle.std.proofs.Common.{◌≡◌, ℕ, ◌<◌, Bool, true, false, not, ◌&&◌, ◌||◌, ◌==◌, cond, List, [], ◌∷◌, length, refl, ◌∙◌, inl, inr, arith}
use Rattle.std.proofs.lemmas.Bool.{cases_Bool}
use Rattle.std.proofs.lemmas.List.Splits.{length-slice_split}
use Rattle.std.specs.List.{list_any, list_all, slice_split, onto_first}
use Rattle.portfolio.specs.Names.{is_name_byte, is_part, is_shelf_name}
use Rattle.portfolio.specs.Steps.{is_rest}

-- the parts of a name, where the first one goes on one with more than dots, or with dots alone
abbrev all_parts : Bool → List (List ℕ) → Bool
all_parts is_named [] = true
all_parts is_named (p ∷ ps) = (list_all is_name_byte p && (is_named || list_any (λ b. not (b == 46)) p)) && list_all is_part ps

all_parts-new : (ps : List (List ℕ)) → all_parts false ps ≡ list_all is_part ps
all_parts-new [] = refl
all_parts-new (p ∷ ps) = refl

-- after a slash
after_slash : (n x : Bool) (ps : List (List ℕ)) → x ≡ list_all is_part ps → cond n x false ≡ all_parts n ([] ∷ ps)
after_slash true x ps e = e
after_slash false x ps e = refl

bools : (m a n d s r : Bool) → (m && ((a && ((n || d) || s)) && r)) ≡ (((m && a) && (n || (d || s))) && r)
bools false a n d s r = refl
bools true a true d s r = refl
bools true a false d s r = refl

onto : (b : ℕ) (n : Bool) (ps : List (List ℕ)) → 0 < length ps → (is_name_byte b && all_parts (n || not (b == 46)) ps) ≡ all_parts n (onto_first b ps)
onto b n [] h = absurd (omega arith)
onto b n (p ∷ ps) h = bools (is_name_byte b) (list_all is_name_byte p) n (not (b == 46)) (list_any (λ c. not (c == 46)) p) (list_all is_part ps)

chosen : (m x y : Bool) → x ≡ y → cond m x false ≡ (m && y)
chosen true x y e = e
chosen false x y e = refl

ends : (n : Bool) → n ≡ all_parts n ([] ∷ [])
ends true = refl
ends false = refl

some_part : (bs : List ℕ) → 0 < length (slice_split (λ b. b == 47) bs)
some_part bs = omega (arith, length-slice_split (λ b. b == 47) bs)

is_rest-parts : (n : Bool) (bs : List ℕ) → is_rest n bs ≡ all_parts n (slice_split (λ b. b == 47) bs)
is_rest-parts n [] = ends n
is_rest-parts n (b ∷ bs) =
    elim (cases_Bool (b == 47)) [
      | inl slash ↦ rw slash (after_slash n _ (slice_split (λ c. c == 47) bs) (is_rest-parts false bs ∙ all_parts-new (slice_split (λ c. c == 47) bs)))
      | inr other ↦ rw other (chosen (is_name_byte b) _ _ (is_rest-parts (n || not (b == 46)) bs) ∙ onto b n (slice_split (λ c. c == 47) bs) (some_part bs))
    ]

-- where nothing is left
pub no_rest : (n : Bool) (bs : List ℕ) → length bs < 1 → n ≡ is_rest n bs
no_rest n [] h = refl
no_rest n (b ∷ bs) h = absurd (omega (arith, h))

pub is_rest-name : (bs : List ℕ) → is_rest false bs ≡ is_shelf_name bs
is_rest-name bs = is_rest-parts false bs ∙ all_parts-new (slice_split (λ b. b == 47) bs)
