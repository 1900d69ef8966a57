-- What the code of pairs and packed numbers needs.
use Rattle.std.proofs.Common.{◌≡◌, ℕ, zero, suc, ◌+◌, ◌-◌, ◌*◌, ◌/◌, ◌%◌, ◌<◌, ◌≤◌, true, false, cond, not, ◌&&◌, ◌||◌, List, [], ◌∷◌, ◌++◌, length, take, drop, Option, None, refl, sym, ap, ◌∙◌, arith, append_assoc, length-append, length-drop}
use Rattle.std.specs.Prelude.{slice_index, ◌==◌, nat_le}
use Rattle.std.proofs.Math.Bool.{or-false}
use Rattle.std.proofs.lemmas.Bool.{and_parts, and_from, and_left, and_right, le-leb, lt-leb, ne_eqb}
use Rattle.std.proofs.lemmas.List.{get_or-drop, take_more, take_rest, length-take-le}
use Rattle.byte_lists.specs.Digit.{is_digit, all_digits}
use Rattle.byte_lists.specs.HalfBytes.{halves, joined}
use Rattle.year_image.specs.Packing.{is_packed, all_equal, year_at, with_century, grow_packed, packed_digits, packed_sign}
use Rattle.year_image.specs.Image.{above, century, two_digits, two_digit_value, doubled, tame_pair, tame_packed, grow}
use Rattle.year_image.specs.Piece.{Pair}
use Rattle.byte_lists.specs.Part.{with_part}
use Rattle.year_image.proofs.Numbers.{all_digits-append}
use Rattle.file_convert.proofs.Parts.{half-even, half-odd, with_part-with_part, century-even, century-odd}

pub half_first : (bs : List ℕ) (at : ℕ) → at % 2 ≡ 0 → slice_index bs (at / 2) / 16 ≡ slice_index (halves bs) at
half_first bs at e = let f : 2 * (at / 2) ≡ at = omega arith in sym (half-even (at / 2) bs) ∙ ap (slice_index (halves bs)) f

pub half_second : (bs : List ℕ) (at : ℕ) → (at % 2 ≡ 0 → ⊥) → slice_index bs (at / 2) % 16 ≡ slice_index (halves bs) at
half_second bs at e = let f : 2 * (at / 2) + 1 ≡ at = omega arith in sym (half-odd (at / 2) bs) ∙ ap (slice_index (halves bs)) f

digit_small : (d : ℕ) → d ≤ 9 → is_digit 0 d ≡ true
digit_small d h = and_from (nat_le 0 d) (nat_le d (0 + 9)) (le-leb 0 d (omega arith)) (le-leb d (0 + 9) (omega arith))

digit_large : (d : ℕ) → 9 < d → is_digit 0 d ≡ false
digit_large d h = and_right (nat_le 0 d) (nat_le d (0 + 9)) (lt-leb d (0 + 9) (omega arith))

-- one more digit
pub digits_more : (hs : List ℕ) (i : ℕ) → i < length hs → all_digits 0 (take i hs) ≡ true → slice_index hs i ≤ 9 → all_digits 0 (take (i + 1) hs) ≡ true
digits_more hs i h t l =
    ap (all_digits 0) (take_more hs i 0 h) ∙ all_digits-append 0 (take i hs) (slice_index hs i ∷ [])
    ∙ and_from (all_digits 0 (take i hs)) (all_digits 0 (slice_index hs i ∷ [])) t (and_from (is_digit 0 (slice_index hs i)) true (digit_small (slice_index hs i) l) refl)

no_digits : (n i : ℕ) (hs : List ℕ) → i < n → 9 < slice_index hs i → all_digits 0 (take n hs) ≡ false
no_digits zero i hs h l = absurd (omega arith)
no_digits (suc n) i [] h l = absurd (omega arith)
no_digits (suc n) zero (x ∷ hs) h l = ap (λ t. t && all_digits 0 (take n hs)) (digit_large x l)
no_digits (suc n) (suc i) (x ∷ hs) h l = and_right (is_digit 0 x) (all_digits 0 (take n hs)) (no_digits n i hs (omega arith) l)

pub not_packed_at : (digits : ℕ) (bs : List ℕ) (at : ℕ) → at < digits / 2 * 2 + 1 → 9 < slice_index (halves bs) at → is_packed digits bs ≡ false
unfolding is_packed
not_packed_at digits bs at h l = and_left (all_digits 0 (packed_digits digits bs)) ((digits % 2 == 1 || slice_index (halves bs) 0 == 0) && (packed_sign digits bs == 12 || packed_sign digits bs == 15)) (no_digits (digits / 2 * 2 + 1) at (halves bs) h l)

pub packed_by_ends : (digits : ℕ) (bs : List ℕ) → all_digits 0 (packed_digits digits bs) ≡ true → is_packed digits bs ≡ ((digits % 2 == 1 || slice_index (halves bs) 0 == 0) && (packed_sign digits bs == 12 || packed_sign digits bs == 15))
unfolding is_packed
packed_by_ends digits bs h = ap (λ t. t && ((digits % 2 == 1 || slice_index (halves bs) 0 == 0) && (packed_sign digits bs == 12 || packed_sign digits bs == 15))) h

pub other_byte : (c : ℕ) (bs : List ℕ) (i : ℕ) → i < length bs → (slice_index bs i ≡ c → ⊥) → all_equal c bs ≡ false
other_byte c [] i h n = absurd (omega arith)
other_byte c (b ∷ bs) zero h n = and_left (b == c) (all_equal c bs) (ne_eqb b c n)
other_byte c (b ∷ bs) (suc i) h n = and_right (b == c) (all_equal c bs) (other_byte c bs i (omega arith) n)

-- a pair of digits is tame where it is not below the pivot
pub tame_digits : (pivot : Option ℕ) (bs : List ℕ) → two_digits 48 bs ≡ true → tame_pair 48 pivot bs ≡ above pivot (two_digit_value 48 bs)
unfolding tame_pair
tame_digits pivot bs h =
    let first = (and_parts (is_digit 48 (slice_index bs 0)) (is_digit 48 (slice_index bs 1)) h).0 in
    let single : doubled 48 bs ≡ false = ap (λ t. not t && slice_index bs 1 == slice_index bs 0) first in
    ap (λ t. (t && above pivot (two_digit_value 48 bs)) || doubled 48 bs) h ∙ ap (λ t. above pivot (two_digit_value 48 bs) || t) single ∙ or-false (above pivot (two_digit_value 48 bs))

pub tame_other : (pivot : Option ℕ) (bs : List ℕ) → two_digits 48 bs ≡ false → tame_pair 48 pivot bs ≡ doubled 48 bs
unfolding tame_pair
tame_other pivot bs h = ap (λ t. (t && above pivot (two_digit_value 48 bs)) || doubled 48 bs) h

pub two_listed : (bs : List ℕ) → length bs ≡ 2 → bs ≡ slice_index bs 0 ∷ slice_index bs 1 ∷ []
two_listed [] e = absurd (omega arith)
two_listed (a ∷ []) e = absurd (omega arith)
two_listed (a ∷ b ∷ []) e = refl
two_listed (a ∷ b ∷ c ∷ bs) e = absurd (omega arith)

pub grow_digits : (bs : List ℕ) → length bs ≡ 2 → two_digits 48 bs ≡ true → grow 48 (Pair None) bs ≡ 49 ∷ 57 ∷ slice_index bs 0 ∷ slice_index bs 1 ∷ []
unfolding century
grow_digits bs e h = ap (λ t. cond t (49 ∷ 57 ∷ []) (slice_index bs 0 ∷ slice_index bs 0 ∷ []) ++ bs) h ∙ ap (λ (l : List ℕ). 49 ∷ 57 ∷ l) (two_listed bs e)

pub grow_other : (bs : List ℕ) → length bs ≡ 2 → two_digits 48 bs ≡ false → grow 48 (Pair None) bs ≡ slice_index bs 0 ∷ slice_index bs 0 ∷ slice_index bs 0 ∷ slice_index bs 1 ∷ []
unfolding century
grow_other bs e h = ap (λ t. cond t (49 ∷ 57 ∷ []) (slice_index bs 0 ∷ slice_index bs 0 ∷ []) ++ bs) h ∙ ap (λ (l : List ℕ). slice_index bs 0 ∷ slice_index bs 0 ∷ l) (two_listed bs e)

-- a packed number
pub packed_value : (at : ℕ) (hs : List ℕ) → two_digit_value 0 (drop at hs) ≡ slice_index hs at * 10 + slice_index hs (at + 1)
packed_value at hs =
    let e : at + 0 ≡ at = omega arith in
    let v0 : slice_index (drop at hs) 0 ≡ slice_index hs at = get_or-drop at hs 0 0 ∙ ap (slice_index hs) e in
    let v1 : slice_index (drop at hs) 1 ≡ slice_index hs (at + 1) = get_or-drop at hs 1 0 in
    omega (arith, v0, v1)

pub packed_is_tame_yes : (digits unit : ℕ) (pivot : Option ℕ) (bs : List ℕ) → is_packed digits bs ≡ true → above pivot (two_digit_value 0 (drop (year_at digits unit) (halves bs))) ≡ true → tame_packed digits unit pivot bs ≡ true
unfolding tame_packed
packed_is_tame_yes digits unit pivot bs h a = ap (λ t. t || all_equal (slice_index bs 0) bs) (and_from (is_packed digits bs) (above pivot (two_digit_value 0 (drop (year_at digits unit) (halves bs)))) h a)

pub packed_is_tame_below : (digits unit : ℕ) (pivot : Option ℕ) (bs : List ℕ) → above pivot (two_digit_value 0 (drop (year_at digits unit) (halves bs))) ≡ false → tame_packed digits unit pivot bs ≡ all_equal (slice_index bs 0) bs
unfolding tame_packed
packed_is_tame_below digits unit pivot bs a = ap (λ t. t || all_equal (slice_index bs 0) bs) (and_right (is_packed digits bs) (above pivot (two_digit_value 0 (drop (year_at digits unit) (halves bs)))) a)

pub packed_is_tame_other : (digits unit : ℕ) (pivot : Option ℕ) (bs : List ℕ) → is_packed digits bs ≡ false → tame_packed digits unit pivot bs ≡ all_equal (slice_index bs 0) bs
unfolding tame_packed
packed_is_tame_other digits unit pivot bs h = ap (λ t. t || all_equal (slice_index bs 0) bs) (and_left (is_packed digits bs) (above pivot (two_digit_value 0 (drop (year_at digits unit) (halves bs)))) h)

-- three parts that meet are one
three_parts : (bs : List ℕ) (at n m : ℕ) (xs ys zs : List ℕ) → n ≡ at + length xs → m ≡ n + length ys → m + length zs ≤ length bs → with_part (with_part (with_part bs at xs) n ys) m zs ≡ with_part bs at (xs ++ (ys ++ zs))
three_parts bs at n m xs ys zs e f h =
    let two : length (xs ++ ys) ≡ length xs + length ys = length-append xs ys in
    ap (λ (l : List ℕ). with_part l m zs) (with_part-with_part bs at n xs ys e (omega arith))
    ∙ with_part-with_part bs at m (xs ++ ys) zs (omega arith) (omega arith) ∙ ap (with_part bs at) (append_assoc xs ys zs)

pub write_even : (digits unit : ℕ) (bs into one two new : List ℕ) (at m : ℕ) → unit + 2 ≤ digits → is_packed digits bs ≡ true → length bs ≡ digits / 2 + 1 → year_at digits unit ≡ 2 * m → at + length bs + 1 ≤ length into →
    one ≡ with_part into at (take m bs) → two ≡ with_part one (at + m) (25 ∷ []) → new ≡ with_part two (at + m + 1) (take (length bs - m) (drop m bs)) → new ≡ with_part into at (grow_packed digits unit bs)
unfolding grow_packed
write_even digits unit bs into one two new at m fit h len e room e1 e2 e3 =
    let lt : length (take m bs) ≡ m = length-take-le m bs (omega arith) in
    let ld : length (drop m bs) ≡ length bs - m = length-drop m bs in
    e3 ∙ ap (with_part two (at + m + 1)) (take_rest bs m) ∙ ap (λ (l : List ℕ). with_part l (at + m + 1) (drop m bs)) (e2 ∙ ap (λ (l : List ℕ). with_part l (at + m) (25 ∷ [])) e1)
    ∙ three_parts into at (at + m) (at + m + 1) (take m bs) (25 ∷ []) (drop m bs) (omega arith) (omega arith) (omega arith)
    ∙ ap (with_part into at) (sym (century-even m (year_at digits unit) bs e (omega arith)) ∙ sym (ap (λ t. cond t (joined (with_century (year_at digits unit) (halves bs))) (slice_index bs 0 ∷ bs)) h))

pub write_odd : (digits unit : ℕ) (bs into one two new : List ℕ) (at m : ℕ) → unit + 2 ≤ digits → is_packed digits bs ≡ true → length bs ≡ digits / 2 + 1 → year_at digits unit ≡ 2 * m + 1 → at + length bs + 1 ≤ length into →
    one ≡ with_part into at (take m bs) → two ≡ with_part one (at + m) ((slice_index bs m / 16 * 16 + 1) ∷ (144 + slice_index bs m % 16) ∷ []) → new ≡ with_part two (at + m + 2) (take (length bs - (m + 1)) (drop (m + 1) bs)) → new ≡ with_part into at (grow_packed digits unit bs)
unfolding grow_packed
write_odd digits unit bs into one two new at m fit h len e room e1 e2 e3 =
    let lt : length (take m bs) ≡ m = length-take-le m bs (omega arith) in
    let ld : length (drop (m + 1) bs) ≡ length bs - (m + 1) = length-drop (m + 1) bs in
    e3 ∙ ap (with_part two (at + m + 2)) (take_rest bs (m + 1)) ∙ ap (λ (l : List ℕ). with_part l (at + m + 2) (drop (m + 1) bs)) (e2 ∙ ap (λ (l : List ℕ). with_part l (at + m) ((slice_index bs m / 16 * 16 + 1) ∷ (144 + slice_index bs m % 16) ∷ [])) e1)
    ∙ three_parts into at (at + m) (at + m + 2) (take m bs) ((slice_index bs m / 16 * 16 + 1) ∷ (144 + slice_index bs m % 16) ∷ []) (drop (m + 1) bs) (omega arith) (omega arith) (omega arith)
    ∙ ap (with_part into at) (sym (century-odd m (year_at digits unit) bs e (omega arith)) ∙ sym (ap (λ t. cond t (joined (with_century (year_at digits unit) (halves bs))) (slice_index bs 0 ∷ bs)) h))

pub write_other : (digits unit : ℕ) (bs into one new : List ℕ) (at : ℕ) → is_packed digits bs ≡ false → at + length bs + 1 ≤ length into →
    one ≡ with_part into at (slice_index bs 0 ∷ []) → new ≡ with_part one (at + 1) bs → new ≡ with_part into at (grow_packed digits unit bs)
unfolding grow_packed
write_other digits unit bs into one new at h room e1 e2 =
    e2 ∙ ap (λ (l : List ℕ). with_part l (at + 1) bs) e1 ∙ with_part-with_part into at (at + 1) (slice_index bs 0 ∷ []) bs (omega arith) (omega arith)
    ∙ ap (with_part into at) (sym (ap (λ t. cond t (joined (with_century (year_at digits unit) (halves bs))) (slice_index bs 0 ∷ bs)) h))
