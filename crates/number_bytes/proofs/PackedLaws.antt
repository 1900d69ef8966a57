-- What packed bytes hold, by places and by digits.
use Rattle.std.proofs.Common.{◌≡◌, ℕ, zero, suc, ◌+◌, ◌-◌, ◌*◌, ◌/◌, ◌%◌, ◌<◌, ◌≤◌, ◌==◌, Bool, true, false, cond, ◌&&◌, List, [], ◌∷◌, length, take, drop, get_or, map, slice_index, ℤ, Option, Some, None, refl, sym, ap, subst, ◌∙◌, inl, inr, arith, leb, ltb}
use Rattle.std.proofs.lemmas.Bool.{cases_lt, lt-ltb, le-ltb, le-leb, lt-leb, eq-eqb, ne_eqb, cases_eq}
use Rattle.std.proofs.lemmas.List.{length-take, length-drop, get_or-take, get_or-drop}
use Rattle.decimal_bytes.specs.Positional as places
use Rattle.decimal_bytes.specs.Signed.{signed_number}
use Rattle.decimal_bytes.specs.Packed as bytes
use Rattle.decimal_bytes.specs.Packed.{half_byte}
use Rattle.decimal_bytes.specs.declared.form.NumForm.{NumForm}
use Rattle.byte_lists.specs.Digit.{all_digits, all_zero, number}
use Rattle.byte_lists.specs.HalfBytes.{halves}
use Rattle.program_meaning.specs.Number.{Decimal, front, packed_sign, packed_of, packed_number}
use Rattle.number_bytes.specs.Held.{read_form}
use Rattle.number_bytes.proofs.PlaceLaws.{digit_in, decimal-list}
use Rattle.number_bytes.proofs.Agreement.{Agrees, digits_agree}

-- a half-byte by its place
pub half_byte-is : (bs : List ℕ) (place : ℕ) → half_byte bs place ≡ get_or (halves bs) place 0
half_byte-is [] place = tested (place % 2 == 0)
  where
    tested : (b : Bool) → cond b (0 / 16) (0 % 16) ≡ 0
    tested true = refl
    tested false = refl
half_byte-is (b ∷ bs) zero = refl
half_byte-is (b ∷ bs) (suc zero) = refl
half_byte-is (b ∷ bs) (suc (suc place)) =
    let parity : suc (suc place) % 2 ≡ place % 2 = omega arith in
    let index : suc (suc place) / 2 ≡ suc (place / 2) = omega arith in
    ap (λ r. cond (r == 0) (slice_index (b ∷ bs) (suc (suc place) / 2) / 16) (slice_index (b ∷ bs) (suc (suc place) / 2) % 16)) parity
    ∙ ap (λ i. cond (place % 2 == 0) (slice_index (b ∷ bs) i / 16) (slice_index (b ∷ bs) i % 16)) index
    ∙ half_byte-is bs place

pub length-halves : (bs : List ℕ) → length (halves bs) ≡ 2 * length bs
length-halves [] = refl
length-halves (b ∷ bs) = let rest = length-halves bs in omega arith

-- below ten is a digit
pub below_ten : (h : ℕ) → cond (ltb h 10) (Some h) None ≡ digit_in 0 h
below_ten h =
    let same : h - 0 ≡ h = omega arith in
    elim (cases_lt h 10) [
      | inl below ↦ let low : leb 0 h ≡ true = le-leb 0 h (omega arith) in
          let top : leb h 9 ≡ true = le-leb h 9 (omega arith) in
          rw (lt-ltb h 10 below, low, top, same) refl
      | inr above ↦ let low : leb 0 h ≡ true = le-leb 0 h (omega arith) in
          let top : leb h 9 ≡ false = lt-leb h 9 (omega arith) in
          rw (le-ltb h 10 above, low, top) refl
    ]

pub map-minus_zero : (ds : List ℕ) → map (λ d. d - 0) ds ≡ ds
map-minus_zero [] = refl
map-minus_zero (d ∷ ds) = let same : d - 0 ≡ d = omega arith in rw (same, map-minus_zero ds) refl

-- digits of half-bytes and a sign of one
signed_agree : (sign : Option Bool) (scale n : ℕ) (ds : List ℕ) (digit : ℕ → Option ℕ) → n ≤ 19 → length ds ≡ n → ((k : ℕ) → k < n → digit k ≡ digit_in 0 (get_or ds k 0)) →
    Agrees (signed_number sign (places.decimal n digit)) scale (packed_of sign scale ds)
signed_agree None scale n ds digit few size h = refl
signed_agree (Some minus) scale n ds digit few size h =
    rw (decimal-list 0 n ds digit size h) (digits_agree minus scale (number (map (λ d. d - 0) ds)) (all_digits 0 ds) ds (λ good. (ap number (map-minus_zero ds), good)) (omega arith))

guarded : (before before' : Bool) (v : Option ℤ) (scale : ℕ) (there : Option Decimal) → before ≡ before' → Agrees v scale there → Agrees (cond before v None) scale (cond before' there None)
guarded true true v scale there same h = h
guarded false false v scale there same h = refl
guarded true false v scale there same h = cc
guarded false true v scale there same h = cc

-- an even number of digits has a half-byte before them
pub front_size : (n : ℕ) → length (front n) ≡ (n + 1) % 2
front_size n =
    elim (cases_eq (n % 2) 0) [
      | inl even ↦ ap (λ b. length (cond {A = List ℕ} b (0 ∷ []) [])) (eq-eqb (n % 2) 0 even) ∙ (omega arith)
      | inr odd ↦ ap (λ b. length (cond {A = List ℕ} b (0 ∷ []) [])) (ne_eqb (n % 2) 0 odd) ∙ (omega arith)
    ]

first_zero : (hs : List ℕ) → 0 < length hs → all_zero (take 1 hs) ≡ (get_or hs 0 0 == 0)
first_zero [] some = absurd (omega arith)
first_zero (h ∷ hs) some = elim (h == 0) as (λ b. (b && true) ≡ b) [ true ↦ refl | false ↦ refl ]

pub front_zero : (form : NumForm) (bs : List ℕ) → length bs ≡ bytes.packed_length form → bytes.has_zero_front form bs ≡ all_zero (take (length (front form.digits)) (halves bs))
front_zero form bs size =
    let some : 0 < length (halves bs) = omega (arith, length-halves bs) in
    tested (form.digits % 2 == 0) some
  where
    tested : (even : Bool) → 0 < length (halves bs) → cond even (half_byte bs 0 == 0) true ≡ all_zero (take (length (cond {A = List ℕ} even (0 ∷ []) [])) (halves bs))
    tested true some = ap (λ h. h == 0) (half_byte-is bs 0) ∙ sym (first_zero (halves bs) some)
    tested false some = refl

-- a digit by its place
pub packed_digit-is : (form : NumForm) (bs : List ℕ) (k : ℕ) → k < form.digits → bytes.packed_digit form bs k ≡ digit_in 0 (get_or (take form.digits (drop (length (front form.digits)) (halves bs))) k 0)
packed_digit-is form bs k below =
    let n : ℕ = form.digits in
    let hs : List ℕ = halves bs in
    let before : ℕ = length (front n) in
    let start : before ≡ bytes.packed_start form = front_size n in
    let half : half_byte bs (bytes.packed_start form + k) ≡ get_or (take n (drop before hs)) k 0 =
    ap (λ s. half_byte bs (s + k)) (sym start) ∙ half_byte-is bs (before + k) ∙ sym (get_or-take n (drop before hs) k 0 below ∙ get_or-drop before hs k 0) in
    ap (λ h. cond {A = Option ℕ} (ltb h 10) (Some h) None) half ∙ below_ten (get_or (take n (drop before hs)) k 0)

pub packed_agrees : (form : NumForm) (bs : List ℕ) → 1 ≤ form.digits → form.digits ≤ 18 → length bs ≡ bytes.packed_length form →
    Agrees (bytes.packed_value form bs) form.scale (packed_number (read_form form) bs)
packed_agrees form bs some few size =
    let n : ℕ = form.digits in
    let hs : List ℕ = halves bs in
    let before : ℕ = length (front n) in
    let start : before ≡ bytes.packed_start form = front_size n in
    let whole : length hs ≡ 2 * length bs = length-halves bs in
    let ds : List ℕ = take n (drop before hs) in
    let length_ds : length ds ≡ n = omega (arith, length-take n (drop before hs), length-drop before hs) in
    let sign : bytes.is_minus_code (half_byte bs (bytes.sign_place form)) ≡ packed_sign (slice_index hs (before + n)) =
    ap (λ s. bytes.is_minus_code (half_byte bs (s + n))) (sym start) ∙ ap packed_sign (half_byte-is bs (before + n)) in
    let inner = signed_agree (packed_sign (slice_index hs (before + n))) form.scale n ds (bytes.packed_digit form bs) (omega arith) length_ds (λ k below. packed_digit-is form bs k below) in
    guarded (bytes.has_zero_front form bs) (all_zero (take before hs)) (signed_number (bytes.is_minus_code (half_byte bs (bytes.sign_place form))) (places.decimal n (bytes.packed_digit form bs))) form.scale (packed_of (packed_sign (slice_index hs (before + n))) form.scale ds)
    (front_zero form bs size) (subst (λ (o : Option Bool). Agrees (signed_number o (places.decimal n (bytes.packed_digit form bs))) form.scale (packed_of (packed_sign (slice_index hs (before + n))) form.scale ds)) (sym sign) inner)
