-- A text that is read up to its first point.
use Rattle.std.proofs.Common.{◌≡◌, ℕ, ◌+◌, ◌<◌, Bool, true, false, ◌==◌, List, [], ◌∷◌, ◌++◌, length, take, drop, slice_index_or, Option, Some, None, if◌then◌else◌, refl, ap, sym, ◌∙◌, subst, append_assoc}
use Rattle.std.proofs.lemmas.Bool.{ne_eqb}
use Rattle.std.proofs.lemmas.List.{append-nil, drop_more, take_more}
use Rattle.std.specs.Option.{option_map}
use Rattle.window_items.specs.Items.{parted, with_byte}

-- what is parted after a front
abbrev pub before : List ℕ → (List ℕ × List ℕ) → (List ℕ × List ℕ)
before front parts = (front ++ parts.0, parts.1)

one_more : (front : List ℕ) (b : ℕ) (o : Option (List ℕ × List ℕ)) → option_map (before (front ++ b ∷ [])) o ≡ option_map (before front) (option_map (with_byte b) o)
one_more front b None = refl
one_more front b (Some parts) = ap (λ (xs : List ℕ). Some (xs, parts.1)) (append_assoc front (b ∷ []) parts.0)

no_point : (b : ℕ) (bs : List ℕ) → (b ≡ 46 → ⊥) → parted (b ∷ bs) ≡ option_map (with_byte b) (parted bs)
no_point b bs other = ap (λ (c : Bool). if c then Some ([], bs) else option_map (with_byte b) (parted bs)) (ne_eqb b 46 other)

a_point : (b : ℕ) (bs : List ℕ) → b ≡ 46 → parted (b ∷ bs) ≡ Some ([], bs)
a_point b bs same = ap (λ (c : ℕ). if c == 46 then Some ([], bs) else option_map (with_byte b) (parted bs)) same

pub goes_on : (text : List ℕ) (i : ℕ) → i < length text → (slice_index_or text i 0 ≡ 46 → ⊥)
    → option_map (before (take i text)) (parted (drop i text)) ≡ parted text
    → option_map (before (take (i + 1) text)) (parted (drop (i + 1) text)) ≡ parted text
goes_on text i inside other so =
    ap (λ (front : List ℕ). option_map (before front) (parted (drop (i + 1) text))) (take_more text i 0 inside)
    ∙ one_more (take i text) (slice_index_or text i 0) (parted (drop (i + 1) text))
    ∙ ap (option_map (before (take i text))) (sym (no_point (slice_index_or text i 0) (drop (i + 1) text) other))
    ∙ ap (λ (bs : List ℕ). option_map (before (take i text)) (parted bs)) (sym (drop_more text i 0 inside))
    ∙ so

pub stops : (text : List ℕ) (i : ℕ) → i < length text → slice_index_or text i 0 ≡ 46
    → option_map (before (take i text)) (parted (drop i text)) ≡ parted text
    → parted text ≡ Some (take i text, drop 1 (drop i text))
stops text i inside same so =
    sym so
    ∙ ap (λ (bs : List ℕ). option_map (before (take i text)) (parted bs)) (drop_more text i 0 inside)
    ∙ ap (option_map (before (take i text))) (a_point (slice_index_or text i 0) (drop (i + 1) text) same)
    ∙ ap (λ (xs : List ℕ). Some (xs, drop (i + 1) text)) (append-nil (take i text))
    ∙ ap (λ (bs : List ℕ). Some (take i text, drop 1 bs)) (sym (drop_more text i 0 inside))
