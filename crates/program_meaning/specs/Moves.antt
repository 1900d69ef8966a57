-- Moves: what a sender gives to a receiver of a kind, what a receiver makes of it, and what DISPLAY shows.
use Rattle.std.specs.Prelude.{ℕ, ◌+◌, Bool, true, false, cond, ◌&&◌, ◌||◌, not, ◌==◌, nat_le, nat_lt, List, [], ◌∷◌, ◌++◌, length, replicate, unsigned_abs, ℤ, None}
use Rattle.byte_lists.specs.Digit.{decimal, aligned, codes}
use Rattle.byte_lists.specs.Text.{copied}
use Rattle.program_meaning.specs.Answer.{or_fault, Data, Answer, Gives, and_then}
use Rattle.program_meaning.specs.Tree.{Place, Operand, At, Number, Text, Figure}
use Rattle.program_meaning.specs.Number.{Usage, NumForm, Decimal, number_in, is_minus, value_minus, text_number, number_bytes, at_point, kept_minus}
use Rattle.program_meaning.specs.Kind.{Kind, form_of, is_numeric, is_display, is_plain, Symbol, Nine, Zee, Comma, Show, Dash}
use Rattle.program_meaning.specs.Kind as kind
use Rattle.program_meaning.specs.Layout.{Layout, Span}
use Rattle.program_meaning.specs.Storage.{Storage, View, write, view, bytes_at, kind_of}

-- what a sender gives: bytes, a number, or a byte that fills
pub data Sent : Type 0 where
  Bytes : (bytes : List ℕ) → Sent
  Amount : (number : Decimal) → Sent
  Fill : (byte : ℕ) → Sent

-- the number 0
abbrev pub nothing : Decimal
nothing = record { minus = false; digits = []; scale = 0 }

-- a number literal with the digits that are written
abbrev pub literal_number : ℤ → ℕ → ℕ → Decimal
literal_number n scale digits = record { minus = is_minus n; digits = decimal digits (unsigned_abs n); scale = scale }

-- its digits as a text, without point and sign
abbrev pub literal_text : ℤ → ℕ → List ℕ
literal_text n digits = codes (decimal digits (unsigned_abs n))

-- a text of 1 to 18 digits is an unsigned integer
abbrev pub text_amount : List ℕ → Answer Sent
text_amount bs =
    and_then (or_fault Data (cond (nat_lt 0 (length bs) && nat_le (length bs) 18) (text_number false 0 bs) None)) (λ d. Gives (Amount d))

-- to a number it is one, else it is its bytes
abbrev pub sent_text : Bool → List ℕ → Answer Sent
sent_text true bs = text_amount bs
sent_text false bs = Gives (Bytes bs)

-- as many digits as the picture has, as a text without sign; those of a BINARY number beyond them are cut
abbrev pub picture_text : NumForm → Decimal → List ℕ
picture_text form d = codes (aligned form.digits d.digits)

abbrev pub amount_in : Usage → NumForm → List ℕ → Answer Sent
amount_in usage form bs = and_then (or_fault Data (number_in usage form bs)) (λ d. Gives (Amount d))

abbrev pub digits_in_picture : Usage → NumForm → List ℕ → Answer Sent
digits_in_picture usage form bs = and_then (or_fault Data (number_in usage form bs)) (λ d. Gives (Bytes (picture_text form d)))

-- a number gives a group its bytes; to a text it gives its digits, which an unsigned DISPLAY integer has as its bytes
abbrev pub sent_number : Usage → NumForm → Kind → List ℕ → Answer Sent
sent_number usage form kind.Group bs = Gives (Bytes bs)
sent_number usage form kind.Text bs = cond (is_plain usage form) (Gives (Bytes bs)) (digits_in_picture usage form bs)
sent_number usage form (kind.Edited picture) bs = amount_in usage form bs
sent_number usage form (kind.Number to to_form) bs = amount_in usage form bs

-- what bytes of a kind give to a receiver of a kind: a group as sender gives its bytes
abbrev pub sent_bytes : Kind → Kind → List ℕ → Answer Sent
sent_bytes kind.Group to bs = Gives (Bytes bs)
sent_bytes kind.Text to bs = sent_text (is_numeric to) bs
sent_bytes (kind.Edited picture) to bs = sent_text (is_numeric to) bs
sent_bytes (kind.Number usage form) to bs = sent_number usage form to bs

-- what an operand gives to a receiver of a kind. ZERO is the number 0 for a number or edited item
abbrev pub sent : Layout → Storage → Operand → Kind → Answer Sent
sent layout store (At p) to = and_then (view layout store p) (λ v. sent_bytes v.kind to (bytes_at layout store v))
sent layout store (Number n scale digits) to =
    Gives (cond (is_numeric to) (Amount (literal_number n scale digits)) (Bytes (literal_text n digits)))
sent layout store (Text bs) to = sent_text (is_numeric to) bs
sent layout store (Figure b) to = Gives (cond (is_numeric to) (Amount nothing) (Fill b))

-- the bytes that a picture shows of digits. `shown` says that a digit has been shown before. A 9 shows its digit;
-- a Z shows a space where it and all digits before it are zero; a comma shows a space where no digit was shown
abbrev pub edited : Bool → Bool → List Symbol → List ℕ → List ℕ
edited minus shown [] ds = []
edited minus shown (Nine ∷ ss) [] = []
edited minus shown (Nine ∷ ss) (d ∷ ds) = (d + 48) ∷ edited minus true ss ds
edited minus shown (Zee ∷ ss) [] = []
edited minus shown (Zee ∷ ss) (d ∷ ds) = cond (shown || not (d == 0)) ((d + 48) ∷ edited minus true ss ds) (32 ∷ edited minus false ss ds)
edited minus shown (Comma ∷ ss) ds = cond shown 44 32 ∷ edited minus shown ss ds
edited minus shown (Show byte ∷ ss) ds = byte ∷ edited minus shown ss ds
edited minus shown (Dash ∷ ss) ds = cond minus 45 32 ∷ edited minus shown ss ds

-- a sign and digits, as many as the form has, in the bytes of a kind
abbrev pub stored : Kind → Bool → List ℕ → List ℕ
stored kind.Group minus ds = codes ds
stored kind.Text minus ds = codes ds
stored (kind.Edited picture) minus ds = edited minus false picture ds
stored (kind.Number usage form) minus ds = number_bytes usage form minus ds

-- digits as a receiver gets them: cut at the high end or filled with zeros, with the sign that it keeps
abbrev pub stored_digits : Kind → Bool → List ℕ → List ℕ
stored_digits k minus ds =
    let kept : List ℕ = aligned (form_of k).digits ds in
    stored k (kept_minus (form_of k).signed minus kept) kept

-- a number as a receiver gets it, aligned at the point
abbrev pub stored_number : Kind → Decimal → List ℕ
stored_number k d = stored_digits k d.minus (at_point (form_of k).scale d)

-- what a receiver of a kind with so many bytes makes of what is sent
abbrev pub received : Kind → ℕ → Sent → List ℕ
received k count (Bytes bs) = copied count bs
received k count (Fill b) = replicate count b
received k count (Amount d) = stored_number k d

-- what DISPLAY shows of bytes of a kind: texts and DISPLAY numbers as they are, other numbers as their digits after
-- a minus if negative
abbrev pub shown_number : NumForm → Decimal → List ℕ
shown_number form d = cond (value_minus d) (45 ∷ []) [] ++ picture_text form d

abbrev pub shown_bytes : Kind → List ℕ → Answer (List ℕ)
shown_bytes kind.Group bs = Gives bs
shown_bytes kind.Text bs = Gives bs
shown_bytes (kind.Edited picture) bs = Gives bs
shown_bytes (kind.Number usage form) bs =
    cond (is_display usage) (Gives bs) (and_then (or_fault Data (number_in usage form bs)) (λ d. Gives (shown_number form d)))

module _ (layout : Layout) (store : Storage) where
  -- the sender is read whole, and then where the receiver is
  abbrev pub deliver : Place → Sent → Answer Storage
  deliver to s = and_then (view layout store to) (λ v. Gives (write store v.span (received v.kind v.span.count s)))

  abbrev pub move : Operand → Place → Answer Storage
  move from to = and_then (sent layout store from (kind_of layout to)) (λ s. deliver to s)

  -- bytes as from a group
  abbrev pub move_group : List ℕ → Place → Answer Storage
  move_group bs to = deliver to (Bytes bs)

  -- an operand to bytes of a record, as to a group
  abbrev pub move_record : Operand → Span → Answer Storage
  move_record from to = and_then (sent layout store from kind.Group) (λ s. Gives (write store to (received kind.Group to.count s)))

  -- a part of what DISPLAY shows. A figure shows one byte
  abbrev pub show : Operand → Answer (List ℕ)
  show (At p) = and_then (view layout store p) (λ v. shown_bytes v.kind (bytes_at layout store v))
  show (Number n scale digits) = Gives (cond (is_minus n) (45 ∷ []) [] ++ literal_text n digits)
  show (Text bs) = Gives bs
  show (Figure b) = Gives (b ∷ [])

  -- the parts of the operands, from the left
  abbrev pub show_all : List Operand → Answer (List (List ℕ))
  show_all [] = Gives []
  show_all (o ∷ os) = and_then (show o) (λ bs. and_then (show_all os) (λ rest. Gives (bs ∷ rest)))
