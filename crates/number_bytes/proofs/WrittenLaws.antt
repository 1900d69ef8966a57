-- Bytes that hold a number with its sign are the bytes that are written for it.
use Rattle.std.proofs.Common.{◌≡◌, ℕ, zero, suc, ◌+◌, ◌-◌, ◌*◌, ◌/◌, ◌%◌, ◌^◌, ◌<◌, ◌≤◌, ◌==◌, Bool, true, false, cond, ◌&&◌, List, [], ◌∷◌, ◌++◌, length, take, drop, get_or, slice_index, map, replicate, ℤ, pos, Option, Some, None, refl, sym, ap, ◌∙◌, inl, inr, arith, leb}
use Rattle.std.specs.Prelude.{unsigned_abs, ◌-ℤ◌}
use Rattle.std.proofs.lemmas.Bool.{and_parts, leb-true, cases_lt, cases_Bool, cond-true, cond-false, eqb-true, le-ltb, lt-ltb}
use Rattle.std.proofs.lemmas.Option.{cond_some, same_Some}
use Rattle.std.proofs.lemmas.List.{length-append, length-take, length-drop, length-map, take_at, get_or_at, take_more, take_all, take-append-drop, drop_more, drop_all, get_or-take, get_or-drop, drop-drop}
use Rattle.std.proofs.lemmas.Int.{ints}
use Rattle.std.proofs.lemmas.Nat.{pow-add}
use Rattle.std.proofs.Math.Nat.{mod-eq_of_lt, div-eq_of_lt, pow-zero, pow-suc, pow-succ', mul-add-div_right, mul-add-mod_self_right}
use Rattle.decimal_bytes.specs.Positional as places
use Rattle.decimal_bytes.specs.Signed.{signed_number, kept, written_minus}
use Rattle.decimal_bytes.specs.Packed as packed
use Rattle.decimal_bytes.specs.Packed.{written_code}
use Rattle.decimal_bytes.specs.Binary as binary
use Rattle.decimal_bytes.specs.Display as bytes
use Rattle.decimal_bytes.specs.declared.form.NumForm.{NumForm}
use Rattle.decimal_bytes.specs.declared.form.SignPlace.{SignPlace}
use Rattle.decimal_bytes.specs.declared.form.SignPlace.TheVariants.{Trailing, Leading, TrailingSeparate, LeadingSeparate}
use Rattle.byte_lists.specs.HalfBytes.{halves, joined}
use Rattle.byte_lists.specs.Digit.{all_digits, all_zero, number, decimal, codes, digits_in}
use Rattle.program_meaning.specs.Number.{with_sign, is_minus, without_minus, with_minus, mark_of, number_bytes, Display, Packed, Binary, front, sign_half, bytes_of, byte_number, complement_of, twos_complement}
use Rattle.number_bytes.specs.Held.{read_form}
use Rattle.number_bytes.proofs.DigitLaws.{decimal-number, number-decimal}
use Rattle.number_bytes.proofs.PlaceLaws.{digit_in, decimal-list}
use Rattle.number_bytes.proofs.Agreement.{unsigned_abs-with_sign, all_digits-digits_in}
use Rattle.number_bytes.proofs.PackedLaws.{half_byte-is, length-halves, map-minus_zero, front_size, front_zero, packed_digit-is}
use Rattle.number_bytes.proofs.BinaryLaws.{byte_number-is, byte_number_below, unsigned_abs-minus}
use Rattle.number_bytes.proofs.DisplayLaws.{form, plain_at, trailing_at, leading_at}

pub magnitude_from : (minus : Bool) (o : Option ℕ) (v : ℤ) → signed_number (Some minus) o ≡ Some v → o ≡ Some (unsigned_abs v)
magnitude_from minus None v h = cc
magnitude_from minus (Some n) v h =
    let same : with_sign minus n ≡ v = same_Some (with_sign minus n) v h in
    ap (λ m. Some m) (sym (unsigned_abs-with_sign minus n) ∙ ap unsigned_abs same)

pub kept_size : (form : NumForm) (v : ℤ) → unsigned_abs (kept form v) ≡ unsigned_abs v
kept_size form v = tested form.signed
  where
    tested : (b : Bool) → unsigned_abs (cond b v (pos (unsigned_abs v))) ≡ unsigned_abs v
    tested true = refl
    tested false = refl

codes-digits_in : (cs : List ℕ) → all_digits 48 cs ≡ true → codes (digits_in cs) ≡ cs
codes-digits_in [] h = refl
codes-digits_in (c ∷ cs) h =
    let parts = and_parts (leb 48 c && leb c 57) (all_digits 48 cs) h in
    let low : 48 ≤ c = leb-true 48 c (and_parts (leb 48 c) (leb c 57) parts.0).0 in
    let same : c - 48 + 48 ≡ c = omega arith in
    rw (same, codes-digits_in cs parts.1) refl

-- digits of a text are those of the number that they write
pub text_written : (n : ℕ) (cs : List ℕ) (digit : ℕ → Option ℕ) (v : ℕ) → length cs ≡ n → ((k : ℕ) → k < n → digit k ≡ digit_in 48 (get_or cs k 0)) → places.decimal n digit ≡ Some v → cs ≡ codes (decimal n v)
text_written n cs digit v size h is =
    let parts = cond_some (all_digits 48 cs) (number (digits_in cs)) v (sym (decimal-list 48 n cs digit size h) ∙ is) in
    let length' : length (digits_in cs) ≡ n = length-map cs (λ b. b - 48) ∙ size in
    sym (codes-digits_in cs parts.0)
    ∙ ap codes (sym (decimal-number (digits_in cs) (all_digits-digits_in cs parts.0)) ∙ ap (λ i. decimal i (number (digits_in cs))) length' ∙ ap (decimal n) parts.1)

last_byte : (bs : List ℕ) (n : ℕ) → 1 ≤ n → length bs ≡ n → take (n - 1) bs ++ get_or bs (n - 1) 0 ∷ [] ≡ bs
last_byte bs n some size =
    let e : n - 1 + 1 ≡ n = omega arith in
    sym (take_more bs (n - 1) 0 (omega arith)) ∙ ap (λ i. take i bs) e ∙ take_all n bs (omega arith)

first_byte : (bs : List ℕ) → 0 < length bs → get_or bs 0 0 ∷ drop 1 bs ≡ bs
first_byte [] h = absurd (omega arith)
first_byte (b ∷ bs) h = refl

sign_byte_again : (c : ℕ) (minus : Bool) → leb 112 c ≡ minus → with_minus minus (without_minus c) ≡ c
sign_byte_again c true h = let high : 112 ≤ c = leb-true 112 c h in ap (λ b. cond b (c - 64) c + 64) h ∙ (omega arith)
sign_byte_again c false h = ap (λ b. cond b (c - 64) c) h

mark_again : (c : ℕ) (minus : Bool) → bytes.separate_minus c ≡ Some minus → mark_of minus ≡ c
mark_again c minus h =
    elim (cases_Bool (c == 45)) [
      | inl dash ↦ let at : bytes.separate_minus c ≡ Some true = cond-true (c == 45) (Some true) (cond (c == 43) (Some false) None) dash in
          let same : minus ≡ true = same_Some minus true (sym h ∙ at) in
          ap mark_of same ∙ sym (eqb-true c 45 dash)
      | inr other ↦ let at : bytes.separate_minus c ≡ cond (c == 43) (Some false) None = cond-false (c == 45) (Some true) (cond (c == 43) (Some false) None) other in
          let parts = cond_some (c == 43) false minus (sym at ∙ h) in
          ap mark_of (sym parts.1) ∙ sym (eqb-true c 43 parts.0)
    ]

pub display_written : (n scale : ℕ) (signed : Bool) (sign : SignPlace) (bs : List ℕ) (v : ℤ) → 1 ≤ n → length bs ≡ bytes.display_length (form n scale signed sign) →
    bytes.display_value (form n scale signed sign) bs ≡ Some (kept (form n scale signed sign) v) → bytes.display_minus (form n scale signed sign) bs ≡ Some (written_minus (form n scale signed sign) v) →
    bs ≡ number_bytes Display (read_form (form n scale signed sign)) (signed && is_minus v) (decimal n (unsigned_abs v))
display_written n scale false sign bs v some size value minus =
    text_written n bs (bytes.display_digit (form n scale false sign) bs) (unsigned_abs v) size (λ k below. plain_at bs k) (magnitude_from false (places.decimal n (bytes.display_digit (form n scale false sign) bs)) (pos (unsigned_abs v)) value)
display_written n scale true Trailing bs v some size value minus =
    let last : ℕ = slice_index bs (n - 1) in
    let front : List ℕ = take (n - 1) bs in
    let xs : List ℕ = front ++ without_minus last ∷ [] in
    let length_front : length front ≡ n - 1 = omega (arith, length-take (n - 1) bs) in
    let whole : length xs ≡ n = omega (arith, length-append front (without_minus last ∷ [])) in
    let digits = places.decimal n (bytes.display_digit (form n scale true Trailing) bs) in
    let bears : leb 112 last ≡ is_minus v = same_Some (leb 112 last) (is_minus v) minus in
    let text : xs ≡ codes (decimal n (unsigned_abs v)) = text_written n xs (bytes.display_digit (form n scale true Trailing) bs) (unsigned_abs v) whole (λ k below. trailing_at n scale bs k some size below) (magnitude_from (leb 112 last) digits v value) in
    let start : take (n - 1) xs ≡ front = take_at front (without_minus last ∷ []) (n - 1) length_front in
    let end : slice_index xs (n - 1) ≡ without_minus last = get_or_at front (without_minus last) [] 0 (n - 1) length_front in
    sym (last_byte bs n some size)
    ∙ ap (λ c. front ++ c ∷ []) (sym (sign_byte_again last (is_minus v) bears))
    ∙ ap (λ c. front ++ with_minus (is_minus v) c ∷ []) (sym end)
    ∙ ap (λ (ys : List ℕ). ys ++ with_minus (is_minus v) (slice_index xs (n - 1)) ∷ []) (sym start)
    ∙ ap (λ (ys : List ℕ). take (n - 1) ys ++ with_minus (is_minus v) (slice_index ys (n - 1)) ∷ []) text
display_written n scale true Leading bs v some size value minus =
    let first : ℕ = slice_index bs 0 in
    let xs : List ℕ = without_minus first ∷ drop 1 bs in
    let whole : length xs ≡ n = omega (arith, length-drop 1 bs) in
    let digits = places.decimal n (bytes.display_digit (form n scale true Leading) bs) in
    let bears : leb 112 first ≡ is_minus v = same_Some (leb 112 first) (is_minus v) minus in
    let text : xs ≡ codes (decimal n (unsigned_abs v)) = text_written n xs (bytes.display_digit (form n scale true Leading) bs) (unsigned_abs v) whole (λ k below. leading_at n scale bs k) (magnitude_from (leb 112 first) digits v value) in
    sym (first_byte bs (omega arith))
    ∙ ap (λ c. c ∷ drop 1 bs) (sym (sign_byte_again first (is_minus v) bears))
    ∙ ap (λ (ys : List ℕ). with_minus (is_minus v) (slice_index ys 0) ∷ drop 1 ys) text
display_written n scale true TrailingSeparate bs v some size value minus =
    let xs : List ℕ = take n bs in
    let mark : ℕ = slice_index bs n in
    let whole : length xs ≡ n = omega (arith, length-take n bs) in
    let digits = places.decimal n (bytes.display_digit (form n scale true TrailingSeparate) bs) in
    let value' : signed_number (Some (is_minus v)) digits ≡ Some v = ap (λ o. signed_number o digits) (sym minus) ∙ value in
    let text : xs ≡ codes (decimal n (unsigned_abs v)) = text_written n xs (bytes.display_digit (form n scale true TrailingSeparate) bs) (unsigned_abs v) whole (λ k below. plain_at bs k ∙ ap (digit_in 48) (sym (get_or-take n bs k 0 below))) (magnitude_from (is_minus v) digits v value') in
    let e : n + 1 - 1 ≡ n = omega arith in
    sym (ap (λ i. take i bs ++ get_or bs i 0 ∷ []) (sym e) ∙ last_byte bs (n + 1) (omega arith) size)
    ∙ ap (λ c. xs ++ c ∷ []) (sym (mark_again mark (is_minus v) minus))
    ∙ ap (λ (ys : List ℕ). ys ++ mark_of (is_minus v) ∷ []) text
display_written n scale true LeadingSeparate bs v some size value minus =
    let xs : List ℕ = drop 1 bs in
    let mark : ℕ = slice_index bs 0 in
    let whole : length xs ≡ n = omega (arith, length-drop 1 bs) in
    let digits = places.decimal n (bytes.display_digit (form n scale true LeadingSeparate) bs) in
    let value' : signed_number (Some (is_minus v)) digits ≡ Some v = ap (λ o. signed_number o digits) (sym minus) ∙ value in
    let text : xs ≡ codes (decimal n (unsigned_abs v)) = text_written n xs (bytes.display_digit (form n scale true LeadingSeparate) bs) (unsigned_abs v) whole (λ k below. ap (digit_in 48) (sym (get_or-drop 1 bs k 0))) (magnitude_from (is_minus v) digits v value') in
    sym (first_byte bs (omega arith))
    ∙ ap (λ c. c ∷ drop 1 bs) (sym (mark_again mark (is_minus v) minus))
    ∙ ap (λ (ys : List ℕ). mark_of (is_minus v) ∷ ys) text

cond_there : {A : Type 0} (b : Bool) (o : Option A) (x : A) → cond b o None ≡ Some x → (b ≡ true) × (o ≡ Some x)
cond_there true o x h = (refl, h)
cond_there false o x h = cc

magnitude_from_any : (sign : Option Bool) (o : Option ℕ) (v : ℤ) → signed_number sign o ≡ Some v → o ≡ Some (unsigned_abs v)
magnitude_from_any None o v h = cc
magnitude_from_any (Some minus) o v h = magnitude_from minus o v h

zeros_from : (xs : List ℕ) → all_zero xs ≡ true → xs ≡ replicate (length xs) 0
zeros_from [] h = refl
zeros_from (x ∷ xs) h =
    let parts = and_parts (x == 0) (all_zero xs) h in
    rw (eqb-true x 0 parts.0, ← zeros_from xs parts.1) refl

front_zeros : (n : ℕ) → front n ≡ replicate (length (front n)) 0
front_zeros n = tested (n % 2 == 0)
  where
    tested : (even : Bool) → cond {A = List ℕ} even (0 ∷ []) [] ≡ replicate (length (cond {A = List ℕ} even (0 ∷ []) [])) 0
    tested true = refl
    tested false = refl

pub joined-halves : (bs : List ℕ) → joined (halves bs) ≡ bs
joined-halves [] = refl
joined-halves (b ∷ bs) = let same : b / 16 * 16 + b % 16 ≡ b = omega arith in rw (same, joined-halves bs) refl

sign_half-is : (form : NumForm) (v : ℤ) → written_code form v ≡ sign_half (read_form form) (form.signed && is_minus v)
sign_half-is form v = tested form.signed
  where
    tested : (signed : Bool) → cond signed (cond (signed && is_minus v) 13 12) 15 ≡ cond {A = ℕ} signed (cond (signed && is_minus v) 13 12) 15
    tested signed = refl

pub packed_written : (form : NumForm) (bs : List ℕ) (v : ℤ) → form.digits ≤ 18 → length bs ≡ packed.packed_length form → packed.packed_value form bs ≡ Some (kept form v) →
    packed.half_byte bs (packed.sign_place form) ≡ written_code form v → bs ≡ number_bytes Packed (read_form form) (form.signed && is_minus v) (decimal form.digits (unsigned_abs v))
packed_written form bs v few size value code =
    let n : ℕ = form.digits in
    let hs : List ℕ = halves bs in
    let before : ℕ = length (front n) in
    let start : before ≡ packed.packed_start form = front_size n in
    let whole : length hs ≡ 2 * length bs = length-halves bs in
    let ds : List ℕ = take n (drop before hs) in
    let length_ds : length ds ≡ n = omega (arith, length-take n (drop before hs), length-drop before hs) in
    let parts = cond_there (packed.has_zero_front form bs) (signed_number (packed.is_minus_code (packed.half_byte bs (packed.sign_place form))) (places.decimal n (packed.packed_digit form bs))) (kept form v) value in
    let magnitude : places.decimal n (packed.packed_digit form bs) ≡ Some (unsigned_abs (kept form v)) = magnitude_from_any (packed.is_minus_code (packed.half_byte bs (packed.sign_place form))) (places.decimal n (packed.packed_digit form bs)) (kept form v) parts.1 in
    let digits = cond_some (all_digits 0 ds) (number (map (λ d. d - 0) ds)) (unsigned_abs (kept form v)) (sym (decimal-list 0 n ds (packed.packed_digit form bs) length_ds (λ k below. packed_digit-is form bs k below)) ∙ magnitude) in
    let are_digits : ds ≡ decimal n (unsigned_abs v) =
    sym (decimal-number ds digits.0) ∙ ap (λ i. decimal i (number ds)) length_ds ∙ ap (decimal n) (ap number (sym (map-minus_zero ds)) ∙ digits.1 ∙ kept_size form v) in
    let zero_front : all_zero (take before hs) ≡ true = sym (front_zero form bs size) ∙ parts.0 in
    let length_front : length (take before hs) ≡ before = omega (arith, length-take before hs) in
    let is_front : take before hs ≡ front n = zeros_from (take before hs) zero_front ∙ ap (λ i. replicate i 0) length_front ∙ sym (front_zeros n) in
    let last : drop n (drop before hs) ≡ sign_half (read_form form) (form.signed && is_minus v) ∷ [] =
    drop-drop n before hs
    ∙ drop_more hs (before + n) 0 (omega arith)
    ∙ ap (λ (r : List ℕ). get_or hs (before + n) 0 ∷ r) (drop_all (before + n + 1) hs (omega arith))
    ∙ ap (λ h. h ∷ []) (sym (half_byte-is bs (before + n)) ∙ ap (λ s. packed.half_byte bs (s + n)) start ∙ code ∙ sign_half-is form v) in
    sym (joined-halves bs)
    ∙ ap joined (sym (take-append-drop before hs)
    ∙ ap (λ (r : List ℕ). take before hs ++ r) (sym (take-append-drop n (drop before hs)))
    ∙ ap (λ (f : List ℕ). f ++ (ds ++ drop n (drop before hs))) is_front
    ∙ ap (λ (r : List ℕ). front n ++ (ds ++ r)) last
    ∙ ap (λ (r : List ℕ). front n ++ (r ++ sign_half (read_form form) (form.signed && is_minus v) ∷ [])) are_digits)

byte_power : (n : ℕ) → 0 < 256 ^ n
byte_power zero = omega (arith, pow-zero 256)
byte_power (suc n) = omega (arith, pow-suc 256 n, byte_power n)

-- higher bytes don't show in the last ones
bytes_of-above : (n m a r : ℕ) → n ≤ m → bytes_of n (a * 256 ^ m + r) ≡ bytes_of n r
bytes_of-above zero m a r h = refl
bytes_of-above (suc n) m a r h =
    let k : ℕ = m - suc n in
    let exponent : m ≡ suc k + n = omega arith in
    let power : 256 ^ m ≡ 256 * 256 ^ k * 256 ^ n = ap (λ e. 256 ^ e) exponent ∙ pow-add 256 (suc k) n ∙ ap (λ p. p * 256 ^ n) (pow-succ' 256 k) in
    let shape : a * 256 ^ m + r ≡ (a * 256 ^ k * 256) * 256 ^ n + r = ap (λ p. a * p + r) power ∙ regrouped a (256 ^ k) (256 ^ n) r in
    let head : (a * 256 ^ m + r) / 256 ^ n % 256 ≡ r / 256 ^ n % 256 =
    ap (λ v. v / 256 ^ n % 256) shape ∙ ap (λ q. q % 256) (mul-add-div_right (byte_power n) (a * 256 ^ k * 256) r) ∙ mul-add-mod_self_right (a * 256 ^ k) 256 (r / 256 ^ n) in
    rw (head, bytes_of-above n m a r (omega arith)) refl
  where
    regrouped : (a x y r : ℕ) → a * (256 * x * y) + r ≡ (a * x * 256) * y + r
    regrouped a x y r = grind arith

pub bytes_of-byte_number : (bs : List ℕ) → ((k : ℕ) → get_or bs k 0 < 256) → bytes_of (length bs) (byte_number bs) ≡ bs
bytes_of-byte_number [] h = refl
bytes_of-byte_number (b ∷ bs) h =
    let n : ℕ = length bs in
    let first : b < 256 = h 0 in
    let below = byte_number_below bs (λ k. h (suc k)) in
    let quotient : (b * 256 ^ n + byte_number bs) / 256 ^ n ≡ b + byte_number bs / 256 ^ n = mul-add-div_right (byte_power n) b (byte_number bs) in
    let none : byte_number bs / 256 ^ n ≡ 0 = div-eq_of_lt below in
    let head : (b * 256 ^ n + byte_number bs) / 256 ^ n % 256 ≡ b = ap (λ q. q % 256) quotient ∙ omega (arith, none) in
    rw (head, bytes_of-above n n b (byte_number bs) (omega arith), bytes_of-byte_number bs (λ k. h (suc k))) refl

-- the unsigned number of a two's complement
complement-is : (k u : ℕ) → u < 256 ^ k → u ≡ complement_of k (is_minus (twos_complement k u)) (unsigned_abs (twos_complement k u))
complement-is k u below =
    elim (cases_lt (2 * u) (256 ^ k)) [
      | inl low ↦ let is : twos_complement k u ≡ pos u = cond-true _ _ _ (lt-ltb (2 * u) (256 ^ k) low) in
          let plus : is_minus (pos u) ≡ false = le-ltb u 0 (omega arith) in
          sym (ap (λ (z : ℤ). complement_of k (is_minus z) (unsigned_abs z)) is ∙ ap (λ b. complement_of k b u) plus)
      | inr high ↦ let is : twos_complement k u ≡ pos u -ℤ pos (256 ^ k) = cond-false _ _ _ (le-ltb (2 * u) (256 ^ k) high) in
          let minus : is_minus (pos u -ℤ pos (256 ^ k)) ≡ true = is_minus-minus u (256 ^ k) below in
          let size : unsigned_abs (pos u -ℤ pos (256 ^ k)) ≡ 256 ^ k - u = unsigned_abs-minus u (256 ^ k) (omega arith) in
          let back : 256 ^ k - (256 ^ k - u) ≡ u = omega arith in
          sym (ap (λ (z : ℤ). complement_of k (is_minus z) (unsigned_abs z)) is ∙ ap (λ b. complement_of k b (unsigned_abs (pos u -ℤ pos (256 ^ k)))) minus ∙ ap (λ (m : ℕ). 256 ^ k - m) size ∙ back)
    ]
  where
    is_minus-minus : (u p : ℕ) → u < p → is_minus (pos u -ℤ pos p) ≡ true
    is_minus-minus u p h = grind (arith, ints)

pub binary_written : (form : NumForm) (bs : List ℕ) (v : ℤ) → length bs ≡ binary.binary_length form → ((k : ℕ) → get_or bs k 0 < 256) → unsigned_abs v < 10 ^ form.digits → binary.binary_value bs ≡ kept form v →
    bs ≡ number_bytes Binary (read_form form) (form.signed && is_minus v) (decimal form.digits (unsigned_abs v))
binary_written form bs v size each fits value =
    let k : ℕ = length bs in
    let u : ℕ = byte_number bs in
    let z : twos_complement k u ≡ kept form v = ap (twos_complement k) (sym (byte_number-is bs)) ∙ value in
    let written : number (decimal form.digits (unsigned_abs v)) ≡ unsigned_abs v = number-decimal form.digits (unsigned_abs v) ∙ mod-eq_of_lt fits in
    sym (bytes_of-byte_number bs each)
    ∙ ap (bytes_of k) (complement-is k u (byte_number_below bs each) ∙ ap (λ (x : ℤ). complement_of k (is_minus x) (unsigned_abs x)) z ∙ ap (λ b. complement_of k b (unsigned_abs (kept form v))) (kept_sign form.signed v) ∙ ap (complement_of k (form.signed && is_minus v)) (kept_size form v ∙ sym written))
    ∙ ap (λ i. bytes_of i (complement_of i (form.signed && is_minus v) (number (decimal form.digits (unsigned_abs v))))) size
  where
    kept_sign : (signed : Bool) (v : ℤ) → is_minus (cond signed v (pos (unsigned_abs v))) ≡ (signed && is_minus v)
    kept_sign true v = refl
    kept_sign false v = le-ltb (unsigned_abs v) 0 (omega arith)
