-- What DISPLAY bytes hold, by places and by digits.
use Rattle.std.proofs.Common.{◌≡◌, ℕ, zero, suc, ◌+◌, ◌-◌, ◌<◌, ◌≤◌, ◌==◌, Bool, true, false, cond, List, [], ◌∷◌, ◌++◌, length, take, drop, get_or, slice_index, Option, Some, None, refl, sym, ap, ◌∙◌, inl, inr, arith, leb}
use Rattle.std.proofs.lemmas.Bool.{cases_eq, eq-eqb, ne_eqb}
use Rattle.std.proofs.lemmas.List.{length-append, length-take, length-drop, get_or_at, get_or_append_left, get_or-take, get_or-drop}
use Rattle.decimal_bytes.specs.Positional as places
use Rattle.decimal_bytes.specs.Signed.{signed_number}
use Rattle.decimal_bytes.specs.Display as bytes
use Rattle.decimal_bytes.specs.declared.form.NumForm.{NumForm}
use Rattle.decimal_bytes.specs.declared.form.SignPlace.{SignPlace}
use Rattle.decimal_bytes.specs.declared.form.SignPlace.TheVariants.{Trailing, Leading, TrailingSeparate, LeadingSeparate}
use Rattle.program_meaning.specs.Number.{text_number, without_minus, display_number}
use Rattle.number_bytes.specs.Held.{read_form}
use Rattle.number_bytes.proofs.PlaceLaws.{digit_in}
use Rattle.number_bytes.proofs.Agreement.{Agrees, text_agrees}

abbrev pub form : ℕ → ℕ → Bool → SignPlace → NumForm
form n scale signed sign = record { digits = n; scale = scale; signed = signed; sign = sign }

signed_digit-is : (c : ℕ) → bytes.signed_digit c ≡ digit_in 48 (without_minus c)
signed_digit-is c = tested (leb 112 c)
  where
    tested : (b : Bool) → cond b (bytes.plain_digit (c - 64)) (bytes.plain_digit c) ≡ digit_in 48 (cond b (c - 64) c)
    tested true = refl
    tested false = refl

pub plain_at : (bs : List ℕ) (k : ℕ) → bytes.plain_digit (slice_index bs (0 + k)) ≡ digit_in 48 (get_or bs k 0)
plain_at bs k = let e : 0 + k ≡ k = omega arith in ap (λ i. bytes.plain_digit (slice_index bs i)) e

-- a sign in a byte of its own
mark_agrees : (scale n : ℕ) (bs : List ℕ) (digit : ℕ → Option ℕ) (minus plus : Bool) → n ≤ 19 → length bs ≡ n → ((k : ℕ) → k < n → digit k ≡ digit_in 48 (get_or bs k 0)) →
    Agrees (signed_number (cond minus (Some true) (cond plus (Some false) None)) (places.decimal n digit)) scale (cond minus (text_number true scale bs) (cond plus (text_number false scale bs) None))
mark_agrees scale n bs digit true plus few size h = text_agrees true scale n bs digit few size h
mark_agrees scale n bs digit false true few size h = text_agrees false scale n bs digit few size h
mark_agrees scale n bs digit false false few size h = refl

pub trailing_at : (n scale : ℕ) (bs : List ℕ) (k : ℕ) → 1 ≤ n → length bs ≡ n → k < n →
    bytes.display_digit (form n scale true Trailing) bs k ≡ digit_in 48 (get_or (take (n - 1) bs ++ without_minus (slice_index bs (n - 1)) ∷ []) k 0)
trailing_at n scale bs k some size within =
    let last : ℕ = without_minus (slice_index bs (n - 1)) in
    let front : length (take (n - 1) bs) ≡ n - 1 = omega (arith, length-take (n - 1) bs) in
    elim (cases_eq (k + 1) n) [
      | inl here ↦ let place : k ≡ n - 1 = omega arith in
          let place' : 0 + k ≡ n - 1 = omega arith in
          ap (λ b. cond {A = Option ℕ} b (bytes.signed_digit (slice_index bs (0 + k))) (bytes.plain_digit (slice_index bs (0 + k)))) (eq-eqb (k + 1) n here)
          ∙ ap (λ i. bytes.signed_digit (slice_index bs i)) place'
          ∙ signed_digit-is (slice_index bs (n - 1))
          ∙ ap (digit_in 48) (sym (get_or_at (take (n - 1) bs) last [] 0 (n - 1) front) ∙ ap (λ i. get_or (take (n - 1) bs ++ last ∷ []) i 0) (sym place))
      | inr other ↦ let before : k < n - 1 = omega arith in
          ap (λ b. cond {A = Option ℕ} b (bytes.signed_digit (slice_index bs (0 + k))) (bytes.plain_digit (slice_index bs (0 + k)))) (ne_eqb (k + 1) n other)
          ∙ plain_at bs k
          ∙ ap (digit_in 48) (sym (get_or_append_left (take (n - 1) bs) (last ∷ []) 0 k (omega arith) ∙ get_or-take (n - 1) bs k 0 before))
    ]

pub leading_at : (n scale : ℕ) (bs : List ℕ) (k : ℕ) → bytes.display_digit (form n scale true Leading) bs k ≡ digit_in 48 (get_or (without_minus (slice_index bs 0) ∷ drop 1 bs) k 0)
leading_at n scale bs zero = let e : 0 + 0 ≡ 0 = omega arith in ap (λ i. bytes.signed_digit (slice_index bs i)) e ∙ signed_digit-is (slice_index bs 0)
leading_at n scale bs (suc k) =
    let e : 1 + k ≡ suc k = omega arith in
    ap (λ b. cond {A = Option ℕ} b (bytes.signed_digit (slice_index bs (0 + suc k))) (bytes.plain_digit (slice_index bs (0 + suc k)))) (ne_eqb (suc k) 0 (omega arith))
    ∙ plain_at bs (suc k) ∙ ap (digit_in 48) (sym (get_or-drop 1 bs k 0 ∙ ap (λ i. get_or bs i 0) e))

pub display_agrees : (n scale : ℕ) (signed : Bool) (sign : SignPlace) (bs : List ℕ) → 1 ≤ n → n ≤ 18 → length bs ≡ bytes.display_length (form n scale signed sign) →
    Agrees (bytes.display_value (form n scale signed sign) bs) scale (display_number (read_form (form n scale signed sign)) bs)
display_agrees n scale false sign bs some few size =
    text_agrees false scale n bs (bytes.display_digit (form n scale false sign) bs) (omega arith) size (λ k below. plain_at bs k)
display_agrees n scale true Trailing bs some few size =
    let last : ℕ = without_minus (slice_index bs (n - 1)) in
    let whole : length (take (n - 1) bs ++ last ∷ []) ≡ n = omega (arith, length-append (take (n - 1) bs) (last ∷ []), length-take (n - 1) bs) in
    text_agrees (leb 112 (slice_index bs (n - 1))) scale n (take (n - 1) bs ++ last ∷ []) (bytes.display_digit (form n scale true Trailing) bs) (omega arith) whole (λ k below. trailing_at n scale bs k some size below)
display_agrees n scale true Leading bs some few size =
    let whole : length (without_minus (slice_index bs 0) ∷ drop 1 bs) ≡ n = omega (arith, length-drop 1 bs) in
    text_agrees (leb 112 (slice_index bs 0)) scale n (without_minus (slice_index bs 0) ∷ drop 1 bs) (bytes.display_digit (form n scale true Leading) bs) (omega arith) whole (λ k below. leading_at n scale bs k)
display_agrees n scale true TrailingSeparate bs some few size =
    mark_agrees scale n (take n bs) (bytes.display_digit (form n scale true TrailingSeparate) bs) (slice_index bs n == 45) (slice_index bs n == 43) (omega arith) (omega (arith, length-take n bs)) (λ k below. plain_at bs k ∙ ap (digit_in 48) (sym (get_or-take n bs k 0 below)))
display_agrees n scale true LeadingSeparate bs some few size =
    mark_agrees scale n (drop 1 bs) (bytes.display_digit (form n scale true LeadingSeparate) bs) (slice_index bs 0 == 45) (slice_index bs 0 == 43) (omega arith) (omega (arith, length-drop 1 bs)) (λ k below. ap (digit_in 48) (sym (get_or-drop 1 bs k 0)))
