-- Numbers written as texts, before and after.
use Rattle.std.proofs.Common.{◌≡◌, ℕ, zero, suc, ◌+◌, ◌/◌, ◌%◌, ◌^◌, ◌<◌, true, List, [], ◌∷◌, length, None, refl, sym, ap, ◌∙◌, arith}
use Rattle.std.specs.Prelude.{IsTrue, nat_le}
use Rattle.std.proofs.lemmas.Bool.{and_from, le-leb}
use Rattle.std.proofs.lemmas.List.{length-map}
use Rattle.year_image.specs.Piece.{Piece, Pair, size, grown_size, AllText}
use Rattle.byte_lists.specs.Digit.{is_digit, all_digits, number, decimal, codes, number_text}
use Rattle.year_image.specs.Image.{image}
use Rattle.year_image.specs.Lined.{Lined, CutOff}
use Rattle.year_image.proofs.Numbers.{decimal-aligned}
use Rattle.year_image.proofs.NumberImages.{all_digits-image, image-aligned}
use Rattle.year_image.proofs.Digits.{image-codes}
use Rattle.year_image.proofs.YearNumbers.{number-year, number-decimal_2}

pub length-decimal : (n v : ℕ) → length (decimal n v) ≡ n
length-decimal zero v = refl
length-decimal (suc n) v = ap suc (length-decimal n v)

pub length-number_text : (n v : ℕ) → length (number_text n v) ≡ n
length-number_text n v = length-map (decimal n v) (λ d. d + 48) ∙ length-decimal n v

digit_mod : (x : ℕ) → is_digit 0 (x % 10) ≡ true
digit_mod x = and_from (nat_le 0 (x % 10)) (nat_le (x % 10) (0 + 9)) (le-leb 0 (x % 10) (omega arith)) (le-leb (x % 10) (0 + 9) (omega arith))

pub all_digits-decimal : (n v : ℕ) → IsTrue (all_digits 0 (decimal n v))
all_digits-decimal zero v = refl
all_digits-decimal (suc n) v = and_from (is_digit 0 (v / 10 ^ n % 10)) (all_digits 0 (decimal n v)) (digit_mod (v / 10 ^ n)) (all_digits-decimal n v)

-- the text of a number in a receiver, before and after
pub text-image : (ps qs : List Piece) (ds : List ℕ) → Lined ps qs → AllText ps → AllText qs → length ds ≡ size ps → IsTrue (all_digits 0 ds) → number_text (grown_size qs) (number (image 0 ps ds)) ≡ image 48 qs (number_text (size qs) (number ds))
text-image ps qs ds l w v len dig =
    let after : decimal (grown_size qs) (number (image 0 ps ds)) ≡ image 0 qs (decimal (size qs) (number ds)) =
    decimal-aligned (grown_size qs) (image 0 ps ds) (all_digits-image 0 ps ds w len ∙ dig) ∙ image-aligned 0 ps qs ds l len ∙ ap (image 0 qs) (sym (decimal-aligned (size qs) ds dig)) in
    ap codes after ∙ sym (image-codes qs (decimal (size qs) (number ds)) v (length-decimal (size qs) (number ds)))

-- a year that is computed with its century is written as the image of what is written without
pub year_text : (v : ℕ) → v < 100 → number_text 4 (1900 + v) ≡ image 48 (Pair None ∷ []) (number_text 2 v)
year_text v h =
    let ds = decimal 2 v in
    let back : number ds ≡ v = number-decimal_2 v h in
    let up : number (image 0 (Pair None ∷ []) ds) ≡ 1900 + v = number-year ds (length-decimal 2 v) (all_digits-decimal 2 v) ∙ ap (λ n. 1900 + n) back in
    ap (number_text 4) (sym up) ∙ text-image (Pair None ∷ []) (Pair None ∷ []) ds (CutOff [] refl) tt tt (length-decimal 2 v) (all_digits-decimal 2 v) ∙ ap (λ n. image 48 (Pair None ∷ []) (number_text 2 n)) back
