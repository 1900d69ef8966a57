-- What is gone over digit by digit is the number of its digits.
use Rattle.std.proofs.Common.{◌≡◌, ℕ, zero, suc, ◌+◌, ◌-◌, ◌*◌, ◌^◌, Bool, true, false, not, ◌||◌, ◌&&◌, ◌==◌, ◌<◌, ◌≤◌, List, [], ◌∷◌, length, Option, Some, None, refl, ap, sym, subst, ◌∙◌, arith, if◌then◌else◌}
use Rattle.std.specs.Prelude.{nat_lt, nat_le}
use Rattle.std.specs.Char.{is_ascii_digit}
use Rattle.std.specs.Str.{all_ascii_digits}
use Rattle.std.proofs.Math.Nat.{pow-zero, pow-suc, pow-le-pow_right}
use Rattle.std.proofs.lemmas.Bool.Decides.{nat_tests}
use Rattle.decimal_bytes.proofs.PositionalLemmas.{fits-more}
use Rattle.cond_reader.specs.Chars.{number, is_whole, whole, before_point, after_point, decimals, is_ended, is_decimal, decimal_of, decimal}
use Rattle.cond_reader.specs.Scans.{digits, unsigned}
use Rattle.cond_reader.proofs.Seen.{both_true}

digit-below : (b : ℕ) → is_ascii_digit b ≡ true → b - 48 < 10
digit-below b h = grind (arith, nat_tests)

digit-no-point : (b : ℕ) → is_ascii_digit b ≡ true → (b == 46) ≡ false
digit-no-point b h = grind (arith, nat_tests)

power-one : (n : ℕ) → 1 ≤ 10 ^ n
power-one zero = omega (arith, pow-zero 10)
power-one (suc n) = omega (arith, pow-suc 10 n, power-one n)

-- one digit more before the others
shifted : (v x n m : ℕ) → v * 10 ^ suc n + (x * 10 ^ n + m) ≡ (10 * v + x) * 10 ^ n + m
shifted v x n m = rw (pow-suc 10 n) (omega arith)

at-least : (a p : ℕ) → 1 ≤ p → a ≤ a * p
at-least a zero h = absurd (omega (arith, h))
at-least a (suc p) h = omega arith

-- ---- digits alone

abbrev Most : ℕ
Most = 4294967295

abbrev after_digit : ℕ → List ℕ → Bool → Bool → Option ℕ
after_digit longer bs is_digit is_large = if not is_digit then None else (if is_large then None else digits longer bs)

digits-by : (v b : ℕ) (bs : List ℕ) (p q : Bool) → is_ascii_digit b ≡ p → nat_lt Most (10 * v + (b - 48)) ≡ q → digits v (b ∷ bs) ≡ after_digit (10 * v + (b - 48)) bs p q
digits-by v b bs p q e f =
    let longer = 10 * v + (b - 48) in
    ap (λ x. after_digit longer bs x (nat_lt Most longer)) e ∙ ap (λ x. after_digit longer bs p x) f

digits-read : (v : ℕ) (text : List ℕ) → all_ascii_digits text ≡ true → v * 10 ^ length text + number text ≤ Most → digits v text ≡ Some (v * 10 ^ length text + number text)
digits-read v [] h le = let same : v ≡ v * 10 ^ 0 + 0 = omega (arith, pow-zero 10) in ap (λ (n : ℕ). Some n) same
digits-read v (b ∷ bs) h le =
    let parts = both_true (is_ascii_digit b) (all_ascii_digits bs) h in
    let longer = 10 * v + (b - 48) in
    let same = shifted v (b - 48) (length bs) (number bs) in
    let fits : longer * 10 ^ length bs + number bs ≤ Most = subst (λ (n : ℕ). n ≤ Most) same le in
    let small : longer ≤ Most = omega (arith, at-least longer (10 ^ length bs) (power-one (length bs)), fits) in
    let test : nat_lt Most longer ≡ false = grind (arith, nat_tests) in
    digits-by v b bs true false parts.0 test ∙ digits-read longer bs parts.1 fits ∙ ap (λ (n : ℕ). Some n) (sym same)

record AreDigits (v n : ℕ) (text : List ℕ) : Type 0 where
  all : all_ascii_digits text ≡ true
  value : v * 10 ^ length text + number text ≡ n
  small : n ≤ Most

digits-only : (v n : ℕ) (text : List ℕ) → v ≤ Most → digits v text ≡ Some n → AreDigits v n text
digits-only v n [] le h =
    let same : v ≡ n = cc in
    record { all = refl; value = omega (arith, pow-zero 10, same); small = omega (arith, le, same) }
digits-only v n (b ∷ bs) le h =
    let longer = 10 * v + (b - 48) in
    elim (is_ascii_digit b) as (λ (p : Bool). is_ascii_digit b ≡ p → AreDigits v n (b ∷ bs)) [
      | false ↦ λ e. let none : ◌≡◌ {A = Option ℕ} None (Some n) = sym (digits-by v b bs false _ e refl) ∙ h in absurd (cc)
      | true ↦ λ e.
          elim (nat_lt Most longer) as (λ (q : Bool). nat_lt Most longer ≡ q → AreDigits v n (b ∷ bs)) [
            | true ↦ λ f. let none : ◌≡◌ {A = Option ℕ} None (Some n) = sym (digits-by v b bs true true e f) ∙ h in absurd (cc)
            | false ↦ λ f.
                let fits : longer ≤ Most = grind (arith, nat_tests) in
                let rest = digits-only longer n bs fits (sym (digits-by v b bs true false e f) ∙ h) in
                record {
                  all = ap (λ (x : Bool). x && all_ascii_digits bs) e ∙ rest.all;
                  value = shifted v (b - 48) (length bs) (number bs) ∙ rest.value;
                  small = rest.small;
                }
          ] refl
    ] refl

abbrev whole_if : Bool → ℕ → Option ℕ
whole_if b n = if b then Some n else None

whole-by : (text : List ℕ) (b : Bool) → is_whole text ≡ b → whole text ≡ whole_if b (number text)
unfolding whole
whole-by text b e = ap (λ (x : Bool). whole_if x (number text)) e

whole-none : whole [] ≡ None
unfolding whole
whole-none = refl

whole-digits : (b : ℕ) (bs : List ℕ) → digits 0 (b ∷ bs) ≡ whole (b ∷ bs)
whole-digits b bs =
    let text = b ∷ bs in
    elim (is_whole text) as (λ (w : Bool). is_whole text ≡ w → digits 0 text ≡ whole text) [
      | true ↦ λ e.
          let rest = both_true (nat_lt 0 (length text)) (all_ascii_digits text && nat_le (number text) Most) e in
          let parts = both_true (all_ascii_digits text) (nat_le (number text) Most) rest.1 in
          let test = parts.1 in
          let small : number text ≤ Most = grind (arith, nat_tests) in
          digits-read 0 text parts.0 (omega (arith, small)) ∙ ap (λ (n : ℕ). Some n) (omega arith) ∙ sym (whole-by text true e)
      | false ↦ λ e.
          elim (digits 0 text) as (λ (r : Option ℕ). digits 0 text ≡ r → r ≡ whole text) [
            | None ↦ λ f. sym (whole-by text false e)
            | Some n ↦ λ f.
                let are = digits-only 0 n text (omega arith) f in
                let value : number text ≤ Most = omega (arith, are.value, are.small) in
                let some : nat_lt 0 (length text) ≡ true = grind (arith, nat_tests) in
                let test : nat_le (number text) Most ≡ true = grind (arith, nat_tests) in
                let yes_whole : is_whole text ≡ true = ap (λ (x : Bool). x && (all_ascii_digits text && nat_le (number text) Most)) some ∙ ap (λ (x : Bool). x && nat_le (number text) Most) are.all ∙ test in
                let both : true ≡ false = sym yes_whole ∙ e in absurd (cc)
          ] refl
    ] refl

-- ---- digits and a point

abbrev Digits : Type 0
Digits = ℕ × ℕ × ℕ

triple : (a b c a' b' c' : ℕ) → a ≡ a' → b ≡ b' → c ≡ c' → ◌≡◌ {A = Option Digits} (Some (a, b, c)) (Some (a', b', c'))
triple a b c a' b' c' e f g =
    ap (λ (x : ℕ). let r : Option Digits = Some (x, b, c) in r) e ∙ ap (λ (x : ℕ). let r : Option Digits = Some (a', x, c) in r) f
    ∙ ap (λ (x : ℕ). let r : Option Digits = Some (a', b', x) in r) g

abbrev end_if : Bool → ℕ → ℕ → ℕ → Option Digits
end_if lacks n c k = if lacks then None else Some (n, c, k)

abbrev lacks : Bool → ℕ → ℕ → Bool
lacks f c k = c == 0 || (f && k == 0)

abbrev scale_more : Bool → ℕ → ℕ
scale_more f k = if f then k + 1 else k

abbrev refuses : ℕ → ℕ → ℕ → Bool
refuses b n c = not (is_ascii_digit b) || nat_le 18 c || nat_le 100000000000000000 n

abbrev next_digit : Bool → ℕ → ℕ → ℕ → ℕ → List ℕ → Bool → Bool → Option Digits
next_digit f n c k b bs is_point is_refused =
    if is_point then (if f then None else unsigned true n c k bs)
    else (if is_refused then None else unsigned f (10 * n + (b - 48)) (c + 1) (scale_more f k) bs)

unsigned-by : (f : Bool) (n c k b : ℕ) (bs : List ℕ) (p q : Bool) → (b == 46) ≡ p → refuses b n c ≡ q → unsigned f n c k (b ∷ bs) ≡ next_digit f n c k b bs p q
unsigned-by f n c k b bs p q e g = ap (λ x. next_digit f n c k b bs x (refuses b n c)) e ∙ ap (λ x. next_digit f n c k b bs p x) g

-- fewer than 18 digits write a small number
not-large : (n c : ℕ) → c < 18 → n < 10 ^ c → n < 100000000000000000
not-large n c within below = let bound = pow-le-pow_right {n = 10} (omega arith) {i = c} {j = 17} (omega arith) in omega (arith, below, bound)

grown : (n b c : ℕ) → c < 18 → n < 10 ^ c → is_ascii_digit b ≡ true → 10 * n + (b - 48) < 10 ^ (c + 1)
grown n b c within below is = let more = fits-more c n (b - 48) within below (digit-below b is) in omega (arith, more.0)

accepts : (b n c : ℕ) → is_ascii_digit b ≡ true → c < 18 → n < 10 ^ c → refuses b n c ≡ false
accepts b n c is within below =
    let small = not-large n c within below in
    let count : nat_le 18 c ≡ false = grind (arith, nat_tests) in
    let size : nat_le 100000000000000000 n ≡ false = grind (arith, nat_tests) in
    ap (λ (x : Bool). not x || nat_le 18 c || nat_le 100000000000000000 n) is ∙ ap (λ (x : Bool). x || nat_le 100000000000000000 n) count ∙ size

step-digit : (f : Bool) (n c k b : ℕ) (bs : List ℕ) → is_ascii_digit b ≡ true → c < 18 → n < 10 ^ c → unsigned f n c k (b ∷ bs) ≡ unsigned f (10 * n + (b - 48)) (c + 1) (scale_more f k) bs
step-digit f n c k b bs is within below = unsigned-by f n c k b bs false false (digit-no-point b is) (accepts b n c is within below)

-- what the last digits after a point give
fraction-read : (n c k : ℕ) (ds : List ℕ) → all_ascii_digits ds ≡ true → c + length ds ≤ 18 → 0 < c + length ds → 0 < k + length ds → n < 10 ^ c
    → unsigned true n c k ds ≡ Some (n * 10 ^ length ds + number ds, c + length ds, k + length ds)
fraction-read n c k [] all fits some point below =
    let test : lacks true c k ≡ false = grind (arith, nat_tests) in
    ap (λ b. end_if b n c k) test ∙ triple n c k (n * 10 ^ 0 + 0) (c + 0) (k + 0) (omega (arith, pow-zero 10)) (omega arith) (omega arith)
fraction-read n c k (b ∷ bs) all fits some point below =
    let parts = both_true (is_ascii_digit b) (all_ascii_digits bs) all in
    let within : c < 18 = omega (arith, fits) in
    let longer = 10 * n + (b - 48) in
    step-digit true n c k b bs parts.0 within below
    ∙ fraction-read longer (c + 1) (k + 1) bs parts.1 (omega (arith, fits)) (omega arith) (omega arith) (grown n b c within below parts.0)
    ∙ triple (longer * 10 ^ length bs + number bs) (c + 1 + length bs) (k + 1 + length bs) (n * 10 ^ length (b ∷ bs) + number (b ∷ bs)) (c + length (b ∷ bs)) (k + length (b ∷ bs))
    (sym (shifted n (b - 48) (length bs) (number bs))) (omega arith) (omega arith)

record IsFraction (c k : ℕ) (ds : List ℕ) : Type 0 where
  all : all_ascii_digits ds ≡ true
  fits : c + length ds ≤ 18
  some : 0 < c + length ds
  point : 0 < k + length ds

record IsAccepted (b n c : ℕ) : Type 0 where
  digit : is_ascii_digit b ≡ true
  within : c < 18

accepted : (b n c : ℕ) → refuses b n c ≡ false → IsAccepted b n c
accepted b n c e =
    elim (is_ascii_digit b) as (λ (p : Bool). is_ascii_digit b ≡ p → IsAccepted b n c) [
      | false ↦ λ g. let both : true ≡ false = sym (ap (λ (x : Bool). not x || nat_le 18 c || nat_le 100000000000000000 n) g) ∙ e in absurd (cc)
      | true ↦ λ g.
          elim (nat_le 18 c) as (λ (q : Bool). nat_le 18 c ≡ q → IsAccepted b n c) [
            | true ↦ λ h.
                let both : true ≡ false = sym (ap (λ (x : Bool). not x || nat_le 18 c || nat_le 100000000000000000 n) g ∙ ap (λ (x : Bool). x || nat_le 100000000000000000 n) h) ∙ e in absurd (cc)
            | false ↦ λ h. record { digit = g; within = grind (arith, nat_tests) }
          ] refl
    ] refl

fraction-only : (n c k : ℕ) (ds : List ℕ) (r : Digits) → c ≤ 18 → unsigned true n c k ds ≡ Some r → IsFraction c k ds
fraction-only n c k [] r le h =
    elim (lacks true c k) as (λ (b : Bool). lacks true c k ≡ b → IsFraction c k []) [
      | true ↦ λ e. let none : ◌≡◌ {A = Option Digits} None (Some r) = sym (ap (λ b. end_if b n c k) e) ∙ h in absurd (cc)
      | false ↦ λ e.
          let some : 0 < c = grind (arith, nat_tests) in
          let point : 0 < k = grind (arith, nat_tests) in
          record { all = refl; fits = omega (arith, le); some = omega (arith, some); point = omega (arith, point) }
    ] refl
fraction-only n c k (b ∷ bs) r le h =
    elim (b == 46) as (λ (p : Bool). (b == 46) ≡ p → IsFraction c k (b ∷ bs)) [
      | true ↦ λ e. let none : ◌≡◌ {A = Option Digits} None (Some r) = sym (unsigned-by true n c k b bs true _ e refl) ∙ h in absurd (cc)
      | false ↦ λ e.
          elim (refuses b n c) as (λ (q : Bool). refuses b n c ≡ q → IsFraction c k (b ∷ bs)) [
            | true ↦ λ g. let none : ◌≡◌ {A = Option Digits} None (Some r) = sym (unsigned-by true n c k b bs false true e g) ∙ h in absurd (cc)
            | false ↦ λ g.
                let here = accepted b n c g in
                let rest = fraction-only (10 * n + (b - 48)) (c + 1) (k + 1) bs r (omega (arith, here.within)) (sym (unsigned-by true n c k b bs false false e g) ∙ h) in
                record {
                  all = ap (λ (x : Bool). x && all_ascii_digits bs) here.digit ∙ rest.all;
                  fits = omega (arith, rest.fits);
                  some = omega arith;
                  point = omega arith;
                }
          ] refl
    ] refl

-- a text in two at its first point
data Split : List ℕ → List ℕ → Option (List ℕ) → Type 0 where
  none : Split [] [] None
  point : {b : ℕ} {bs : List ℕ} → (b == 46) ≡ true → Split (b ∷ bs) [] (Some bs)
  more : {b : ℕ} {bs front : List ℕ} {rest : Option (List ℕ)} → (b == 46) ≡ false → Split bs front rest → Split (b ∷ bs) (b ∷ front) rest

abbrev front_if : ℕ → List ℕ → Bool → List ℕ
front_if b bs p = if p then [] else b ∷ before_point bs

abbrev rest_if : List ℕ → Bool → Option (List ℕ)
rest_if bs p = if p then Some bs else after_point bs

split : (text : List ℕ) → Split text (before_point text) (after_point text)
split [] = none
split (b ∷ bs) =
    elim (b == 46) as (λ (p : Bool). (b == 46) ≡ p → Split (b ∷ bs) (front_if b bs p) (rest_if bs p)) [
      | true ↦ λ e. point e
      | false ↦ λ e. more e (split bs)
    ] refl

decimal-read : (n c : ℕ) (text front : List ℕ) (rest : Option (List ℕ)) → Split text front rest → all_ascii_digits front ≡ true → all_ascii_digits (decimals rest) ≡ true → is_ended rest ≡ true
    → 0 < c + (length front + length (decimals rest)) → c + (length front + length (decimals rest)) ≤ 18 → n < 10 ^ c
    → unsigned false n c 0 text
    ≡ Some ((n * 10 ^ length front + number front) * 10 ^ length (decimals rest) + number (decimals rest), c + (length front + length (decimals rest)), length (decimals rest))
decimal-read n c _ _ _ none a d ended some fits below =
    let test : lacks false c 0 ≡ false = grind (arith, nat_tests) in
    let first : n ≡ n * 10 ^ 0 + 0 = omega (arith, pow-zero 10) in
    let second : n * 10 ^ 0 + 0 ≡ (n * 10 ^ 0 + 0) * 10 ^ 0 + 0 = omega (arith, pow-zero 10) in
    ap (λ b. end_if b n c 0) test ∙ triple n c 0 ((n * 10 ^ 0 + 0) * 10 ^ 0 + 0) (c + (0 + 0)) 0 (first ∙ second) (omega arith) refl
decimal-read n c _ _ _ (point {b = b} {bs = bs} e) a d ended some fits below =
    let has : 0 < length bs = grind (arith, nat_tests) in
    let same : n ≡ n * 10 ^ 0 + 0 = omega (arith, pow-zero 10) in
    unsigned-by false n c 0 b bs true _ e refl
    ∙ fraction-read n c 0 bs d (omega (arith, fits)) (omega (arith, some)) (omega (arith, has)) below
    ∙ triple (n * 10 ^ length bs + number bs) (c + length bs) (0 + length bs) ((n * 10 ^ 0 + 0) * 10 ^ length bs + number bs) (c + (0 + length bs)) (length bs)
    (ap (λ (x : ℕ). x * 10 ^ length bs + number bs) same) (omega arith) (omega arith)
decimal-read n c _ _ rest (more {b = b} {bs = bs} {front = front} e s) a d ended some fits below =
    let parts = both_true (is_ascii_digit b) (all_ascii_digits front) a in
    let ds = decimals rest in
    let within : c < 18 = omega (arith, fits) in
    let longer = 10 * n + (b - 48) in
    step-digit false n c 0 b bs parts.0 within below
    ∙ decimal-read longer (c + 1) bs front rest s parts.1 d ended (omega arith) (omega (arith, fits)) (grown n b c within below parts.0)
    ∙ triple ((longer * 10 ^ length front + number front) * 10 ^ length ds + number ds) (c + 1 + (length front + length ds)) (length ds)
    ((n * 10 ^ length (b ∷ front) + number (b ∷ front)) * 10 ^ length ds + number ds) (c + (length (b ∷ front) + length ds)) (length ds)
    (ap (λ (x : ℕ). x * 10 ^ length ds + number ds) (sym (shifted n (b - 48) (length front) (number front)))) (omega arith) refl

record IsDecimal (c : ℕ) (front : List ℕ) (rest : Option (List ℕ)) : Type 0 where
  all : all_ascii_digits front ≡ true
  others : all_ascii_digits (decimals rest) ≡ true
  ended : is_ended rest ≡ true
  some : 0 < c + (length front + length (decimals rest))
  fits : c + (length front + length (decimals rest)) ≤ 18

decimal-only : (n c : ℕ) (text front : List ℕ) (rest : Option (List ℕ)) (r : Digits) → Split text front rest → c ≤ 18 → unsigned false n c 0 text ≡ Some r → IsDecimal c front rest
decimal-only n c _ _ _ r none le h =
    elim (lacks false c 0) as (λ (b : Bool). lacks false c 0 ≡ b → IsDecimal c [] None) [
      | true ↦ λ e. let none_read : ◌≡◌ {A = Option Digits} None (Some r) = sym (ap (λ b. end_if b n c 0) e) ∙ h in absurd (cc)
      | false ↦ λ e.
          let some : 0 < c = grind (arith, nat_tests) in
          record { all = refl; others = refl; ended = refl; some = omega (arith, some); fits = omega (arith, le) }
    ] refl
decimal-only n c _ _ _ r (point {b = b} {bs = bs} e) le h =
    let is = fraction-only n c 0 bs r le (sym (unsigned-by false n c 0 b bs true _ e refl) ∙ h) in
    let has : 0 < length bs = omega (arith, is.point) in
    let test : nat_lt 0 (length bs) ≡ true = grind (arith, nat_tests) in
    record { all = refl; others = is.all; ended = test; some = omega (arith, is.some); fits = omega (arith, is.fits) }
decimal-only n c _ _ rest r (more {b = b} {bs = bs} {front = front} e s) le h =
    elim (refuses b n c) as (λ (q : Bool). refuses b n c ≡ q → IsDecimal c (b ∷ front) rest) [
      | true ↦ λ g. let none_read : ◌≡◌ {A = Option Digits} None (Some r) = sym (unsigned-by false n c 0 b bs false true e g) ∙ h in absurd (cc)
      | false ↦ λ g.
          let here = accepted b n c g in
          let later = decimal-only (10 * n + (b - 48)) (c + 1) bs front rest r s (omega (arith, here.within)) (sym (unsigned-by false n c 0 b bs false false e g) ∙ h) in
          record {
            all = ap (λ (x : Bool). x && all_ascii_digits front) here.digit ∙ later.all;
            others = later.others;
            ended = later.ended;
            some = omega arith;
            fits = omega (arith, later.fits);
          }
    ] refl

abbrev decimal_if : Bool → List ℕ → Option (List ℕ) → Option Digits
decimal_if b front rest = if b then Some (decimal_of front (decimals rest)) else None

decimal-by : (text : List ℕ) (b : Bool) → is_decimal (before_point text) (after_point text) ≡ b → decimal text ≡ decimal_if b (before_point text) (after_point text)
unfolding decimal
decimal-by text b e = ap (λ (x : Bool). decimal_if x (before_point text) (after_point text)) e

tests-hold : (front : List ℕ) (rest : Option (List ℕ)) → is_decimal front rest ≡ true → IsDecimal 0 front rest
tests-hold front rest e =
    let n = length front + length (decimals rest) in
    let a = both_true (all_ascii_digits front) (all_ascii_digits (decimals rest) && (is_ended rest && (nat_lt 0 n && nat_le n 18))) e in
    let b = both_true (all_ascii_digits (decimals rest)) (is_ended rest && (nat_lt 0 n && nat_le n 18)) a.1 in
    let c = both_true (is_ended rest) (nat_lt 0 n && nat_le n 18) b.1 in
    let d = both_true (nat_lt 0 n) (nat_le n 18) c.1 in
    let low = d.0 in
    let high = d.1 in
    let some : 0 < n = grind (arith, nat_tests) in
    let fits : n ≤ 18 = grind (arith, nat_tests) in
    record { all = a.0; others = b.0; ended = c.0; some = omega (arith, some); fits = omega (arith, fits) }

tests-are : (front : List ℕ) (rest : Option (List ℕ)) → IsDecimal 0 front rest → is_decimal front rest ≡ true
tests-are front rest w =
    let n = length front + length (decimals rest) in
    let some = w.some in
    let fits = w.fits in
    let low : nat_lt 0 n ≡ true = grind (arith, nat_tests) in
    let high : nat_le n 18 ≡ true = grind (arith, nat_tests) in
    ap (λ (x : Bool). x && (all_ascii_digits (decimals rest) && (is_ended rest && (nat_lt 0 n && nat_le n 18)))) w.all
    ∙ ap (λ (x : Bool). x && (is_ended rest && (nat_lt 0 n && nat_le n 18))) w.others
    ∙ ap (λ (x : Bool). x && (nat_lt 0 n && nat_le n 18)) w.ended
    ∙ ap (λ (x : Bool). x && nat_le n 18) low
    ∙ high

pub decimal-is : (text : List ℕ) → unsigned false 0 0 0 text ≡ decimal text
decimal-is text =
    let front = before_point text in
    let rest = after_point text in
    elim (is_decimal front rest) as (λ (b : Bool). is_decimal front rest ≡ b → unsigned false 0 0 0 text ≡ decimal text) [
      | true ↦ λ e.
          let w = tests-hold front rest e in
          let ds = decimals rest in
          decimal-read 0 0 text front rest (split text) w.all w.others w.ended w.some w.fits (omega (arith, pow-zero 10))
          ∙ triple ((0 * 10 ^ length front + number front) * 10 ^ length ds + number ds) (0 + (length front + length ds)) (length ds) (number front * 10 ^ length ds + number ds) (length front + length ds) (length ds)
          (ap (λ (x : ℕ). x * 10 ^ length ds + number ds) (omega arith)) (omega arith) refl
          ∙ sym (decimal-by text true e)
      | false ↦ λ e.
          elim (unsigned false 0 0 0 text) as (λ (r : Option Digits). unsigned false 0 0 0 text ≡ r → r ≡ decimal text) [
            | None ↦ λ f. sym (decimal-by text false e)
            | Some r ↦ λ f.
                let both : true ≡ false = sym (tests-are front rest (decimal-only 0 0 text front rest r (split text) (omega arith) f)) ∙ e in absurd (cc)
          ] refl
    ] refl

pub whole-empty : (text : List ℕ) → length text < 1 → None ≡ whole text
whole-empty [] h = sym whole-none
whole-empty (b ∷ bs) h = absurd (omega (arith, h))

pub whole-some : (text : List ℕ) → 0 < length text → digits 0 text ≡ whole text
whole-some [] h = absurd (omega (arith, h))
whole-some (b ∷ bs) h = whole-digits b bs
