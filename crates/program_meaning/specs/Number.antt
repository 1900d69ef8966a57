-- Numbers in bytes: DISPLAY, PACKED-DECIMAL and BINARY.
use Rattle.std.specs.Prelude.{replicate, ℕ, zero, suc, ◌+◌, ◌-◌, ◌*◌, ◌/◌, ◌%◌, ◌^◌, Bool, true, false, cond, ◌&&◌, ◌||◌, not, ◌==◌, nat_le, nat_lt, List, [], ◌∷◌, ◌++◌, length, take, drop, slice_index, ℤ, pos, neg_ℤ, ◌-ℤ◌, unsigned_abs, int_lt, Option, Some, None}
use Rattle.byte_lists.specs.Digit.{all_digits, number, decimal, codes, digits_in, all_zero}
use Rattle.byte_lists.specs.HalfBytes.{halves, joined}

pub data Usage : Type 0 where
  Display : Usage
  Packed : Usage
  Binary : Usage

-- over the last or the first digit, or in a byte of its own
pub data SignPlace : Type 0 where
  Trailing : SignPlace
  Leading : SignPlace
  TrailingSeparate : SignPlace
  LeadingSeparate : SignPlace

-- how many digits, how many of them after the point, whether with a sign, and where a DISPLAY number has it
pub record NumForm : Type 0 where
  pub digits : ℕ
  pub scale : ℕ
  pub signed : Bool
  pub sign : SignPlace

-- a sign and digits, of which the last `scale` stand after the point
pub record Decimal : Type 0 where
  pub minus : Bool
  pub digits : List ℕ
  pub scale : ℕ

-- the number of a sign and a magnitude
abbrev pub with_sign : Bool → ℕ → ℤ
with_sign minus n = cond minus (neg_ℤ (pos n)) (pos n)

abbrev pub is_minus : ℤ → Bool
is_minus v = int_lt v (pos 0)

-- digits and sign, if every one of these bytes is a digit
abbrev pub text_number : Bool → ℕ → List ℕ → Option Decimal
text_number minus scale bs = cond (all_digits 48 bs) (Some (record { minus = minus; digits = digits_in bs; scale = scale })) None

-- a minus adds 40 hexadecimal to the byte that bears the sign
abbrev pub bears_minus : ℕ → Bool
bears_minus c = nat_le 112 c

abbrev pub without_minus : ℕ → ℕ
without_minus c = cond (bears_minus c) (c - 64) c

-- a sign in a byte of its own: `-` or `+`
abbrev pub by_mark : ℕ → ℕ → List ℕ → Option Decimal
by_mark mark scale bs = cond (mark == 45) (text_number true scale bs) (cond (mark == 43) (text_number false scale bs) None)

-- a signed DISPLAY number of n digits
abbrev pub signed_text : SignPlace → ℕ → ℕ → List ℕ → Option Decimal
signed_text Trailing n scale bs =
    text_number (bears_minus (slice_index bs (n - 1))) scale (take (n - 1) bs ++ without_minus (slice_index bs (n - 1)) ∷ [])
signed_text Leading n scale bs = text_number (bears_minus (slice_index bs 0)) scale (without_minus (slice_index bs 0) ∷ drop 1 bs)
signed_text TrailingSeparate n scale bs = by_mark (slice_index bs n) scale (take n bs)
signed_text LeadingSeparate n scale bs = by_mark (slice_index bs 0) scale (drop 1 bs)

-- an unsigned number has digits alone
abbrev pub display_number : NumForm → List ℕ → Option Decimal
display_number form bs = cond form.signed (signed_text form.sign form.digits form.scale bs) (text_number false form.scale bs)

-- the half-byte in front of an even number of digits
abbrev pub front : ℕ → List ℕ
front n = cond (n % 2 == 0) (0 ∷ []) []

-- C and F are plus, D is minus, in an unsigned item too
abbrev pub packed_sign : ℕ → Option Bool
packed_sign h = cond (h == 13) (Some true) (cond (h == 12 || h == 15) (Some false) None)

abbrev pub packed_of : Option Bool → ℕ → List ℕ → Option Decimal
packed_of None scale ds = None
packed_of (Some minus) scale ds = cond (all_digits 0 ds) (Some (record { minus = minus; digits = ds; scale = scale })) None

-- two digits in a byte, the sign in the last half-byte
abbrev pub packed_number : NumForm → List ℕ → Option Decimal
packed_number form bs =
    let hs : List ℕ = halves bs in
    let before : ℕ = length (front form.digits) in
    cond (all_zero (take before hs)) (packed_of (packed_sign (slice_index hs (before + form.digits))) form.scale (take form.digits (drop before hs))) None

-- the unsigned number that bytes write, the first one the highest
abbrev pub byte_number : List ℕ → ℕ
byte_number [] = 0
byte_number (b ∷ bs) = b * 256 ^ length bs + byte_number bs

-- the last k bytes of a number
abbrev pub bytes_of : ℕ → ℕ → List ℕ
bytes_of zero v = []
bytes_of (suc k) v = v / 256 ^ k % 256 ∷ bytes_of k v

-- two's complement of k bytes, of an unsigned item too: the upper half of the numbers stands for those below 0
abbrev pub twos_complement : ℕ → ℕ → ℤ
twos_complement k v = cond (nat_lt (2 * v) (256 ^ k)) (pos v) (pos v -ℤ pos (256 ^ k))

-- a number as a sign and n digits
abbrev pub spelled : ℕ → ℕ → ℤ → Decimal
spelled n scale v = record { minus = is_minus v; digits = decimal n (unsigned_abs v); scale = scale }

-- eight bytes hold at most 19 digits
abbrev pub binary_number : NumForm → List ℕ → Option Decimal
binary_number form bs = Some (spelled 19 form.scale (twos_complement (length bs) (byte_number bs)))

-- the number that bytes hold, if they hold one
abbrev pub number_in : Usage → NumForm → List ℕ → Option Decimal
number_in Display form bs = display_number form bs
number_in Packed form bs = packed_number form bs
number_in Binary form bs = binary_number form bs

-- as an exact number: of its digits, to be divided by 10 to the scale
abbrev pub value_of : Decimal → ℤ
value_of d = with_sign d.minus (number d.digits)

-- a number below 0; minus zero is 0
abbrev pub value_minus : Decimal → Bool
value_minus d = d.minus && not (all_zero d.digits)

-- how many bytes a binary number has
abbrev pub binary_size : ℕ → ℕ
binary_size digits = cond (nat_le digits 4) 2 (cond (nat_le digits 9) 4 8)

abbrev pub with_minus : Bool → ℕ → ℕ
with_minus minus c = cond minus (c + 64) c

abbrev pub mark_of : Bool → ℕ
mark_of minus = cond minus 45 43

-- the DISPLAY bytes of a sign and n digits
abbrev pub signed_bytes : SignPlace → ℕ → Bool → List ℕ → List ℕ
signed_bytes Trailing n minus bs = take (n - 1) bs ++ with_minus minus (slice_index bs (n - 1)) ∷ []
signed_bytes Leading n minus bs = with_minus minus (slice_index bs 0) ∷ drop 1 bs
signed_bytes TrailingSeparate n minus bs = bs ++ mark_of minus ∷ []
signed_bytes LeadingSeparate n minus bs = mark_of minus ∷ bs

-- the last half-byte that is written: C or D where the item is signed, else F
abbrev pub sign_half : NumForm → Bool → ℕ
sign_half form minus = cond form.signed (cond minus 13 12) 15

-- a number below 0 is written as its two's complement
abbrev pub complement_of : ℕ → Bool → ℕ → ℕ
complement_of k minus n = cond minus (256 ^ k - n) n

-- the bytes of a sign and digits, as many as the form has
abbrev pub number_bytes : Usage → NumForm → Bool → List ℕ → List ℕ
number_bytes Display form minus ds = cond form.signed (signed_bytes form.sign form.digits minus (codes ds)) (codes ds)
number_bytes Packed form minus ds = joined (front form.digits ++ (ds ++ sign_half form minus ∷ []))
number_bytes Binary form minus ds = bytes_of (binary_size form.digits) (complement_of (binary_size form.digits) minus (number ds))

-- digits aligned at the point: those after `scale` are cut, or zeros filled in
abbrev pub at_point : ℕ → Decimal → List ℕ
at_point scale d = take (length d.digits - (d.scale - scale)) d.digits ++ replicate (scale - d.scale) 0

-- a sign that is kept: none in an unsigned form, and none of zero
abbrev pub kept_minus : Bool → Bool → List ℕ → Bool
kept_minus signed minus ds = signed && (minus && not (all_zero ds))
