-- Single rules, computed where they are easily read in another way.
use Rattle.std.proofs.Common.{◌≡◌, ℕ, true, false, List, [], ◌∷◌, Option, Some, None, refl}
use Rattle.std.specs.Prelude.{map, pos, neg_ℤ, codes, ◌^◌}
use Rattle.program_meaning.specs.Answer.{Gives, Fails, Wide, Zero, Range, and_then}
use Rattle.program_meaning.specs.Tree.{Operand, Number, Day, Through, Inline, Once, Times, Perform, GoTo, Stop, Nothing}
use Rattle.program_meaning.specs.Number.{NumForm, Display, Packed, Binary, Trailing, number_in}
use Rattle.program_meaning.specs.Kind.{Kind, Edited, symbol_of}
use Rattle.program_meaning.specs.Kind as kind
use Rattle.program_meaning.specs.Layout.{Layout}
use Rattle.program_meaning.specs.Storage.{within}
use Rattle.program_meaning.specs.Moves.{stored_number, stored_digits, show, shown_bytes}
use Rattle.program_meaning.specs.Arithmetic.{scaled, divide, remainder, at_scale, multiply, narrow}
use Rattle.program_meaning.specs.Compare.{is_numeric_text, bytes_cmp, Whole, Repeated}
use Rattle.std.specs.declared.cmp.Ordering.TheVariants as ordering
use Rattle.program_meaning.specs.Entries.{TextPicture, NumberPicture, layout_of}
use Rattle.program_meaning.specs.Step.{register}
use Rattle.program_meaning.specs.State.{Program}
use Rattle.program_meaning.specs.Job.{Ended, job_after, ends_of}
use Rattle.program_meaning.specs.Job as job
use Rattle.program_meaning.proofs.Examples.{unsigned, signed, numbered, paragraph, whole_number, group, elementary, redefining, some_day}

-- D is a minus in an unsigned packed item too; a letter over a digit is none in an unsigned DISPLAY item
pub packed_minus : number_in Packed (unsigned 3) (18 ∷ 61 ∷ []) ≡ Some (record { minus = true; digits = 1 ∷ 2 ∷ 3 ∷ []; scale = 0 })
packed_minus = refl

pub no_sign_byte : number_in Display (unsigned 2) (49 ∷ 114 ∷ []) ≡ None
no_sign_byte = refl

-- zero is written as plus
pub zero_is_plus : stored_digits (kind.Number Display (signed 2)) true (0 ∷ 0 ∷ []) ≡ codes "00"
zero_is_plus = refl

-- digits are NUMERIC whatever the item, and so is what its bytes hold
pub digits_are_numeric : is_numeric_text (kind.Number Packed (signed 3)) (codes "12") ≡ true
digits_are_numeric = refl

pub packed_is_numeric : is_numeric_text (kind.Number Packed (signed 3)) (18 ∷ 61 ∷ []) ≡ true
packed_is_numeric = refl

-- the shorter text is filled with spaces; a figure is as long as the other side
pub filled_is_equal : bytes_cmp (Whole (codes "AB")) (Whole (codes "AB  ")) ≡ ordering.Equal
filled_is_equal = refl

pub figure_is_as_long : bytes_cmp (Whole (codes "000")) (Repeated 48) ≡ ordering.Equal
figure_is_as_long = refl

-- DISPLAY of -1.5, and of a binary number with more digits than its picture
abbrev no_layout : Layout
no_layout = record { areas = []; items = []; conds = [] }

pub shows_no_point : show no_layout [] (Number (neg_ℤ (pos 15)) 1 2) ≡ Gives (codes "-15")
shows_no_point = refl

pub shows_low_digits : shown_bytes (kind.Number Binary (signed 3)) (255 ∷ 252 ∷ []) ≡ Gives (codes "-004")
shows_low_digits = refl

-- 580702 and 19580702 in dates; a minus is shown of what is left after the cut alone
abbrev edited_by : List ℕ → Kind
edited_by picture = Edited (map symbol_of picture)

pub short_date : stored_digits (edited_by (codes "99/99/99")) false (5 ∷ 8 ∷ 0 ∷ 7 ∷ 0 ∷ 2 ∷ []) ≡ codes "58/07/02"
short_date = refl

pub long_date : stored_digits (edited_by (codes "9999/99/99")) false (1 ∷ 9 ∷ 5 ∷ 8 ∷ 0 ∷ 7 ∷ 0 ∷ 2 ∷ []) ≡ codes "1958/07/02"
long_date = refl

pub cut_to_zero : stored_number (edited_by (codes "9-")) (record { minus = true; digits = 4 ∷ []; scale = 1 }) ≡ codes "0 "
cut_to_zero = refl

-- a quotient is cut toward zero, a result rounded away from it; 128 bits end at 2 ^ 127
pub rounds_away : at_scale true 0 (scaled (neg_ℤ (pos 25)) 1) ≡ Gives (neg_ℤ (pos 3))
rounds_away = refl

pub cuts_to_zero : at_scale false 0 (scaled (neg_ℤ (pos 25)) 1) ≡ Gives (neg_ℤ (pos 2))
cuts_to_zero = refl

pub least_number : narrow (neg_ℤ (pos (2 ^ 127))) ≡ Gives (neg_ℤ (pos (2 ^ 127)))
least_number = refl

pub too_wide : narrow (pos (2 ^ 127)) ≡ Fails Wide
too_wide = refl

pub scale_too_great : multiply (scaled (pos 1) 20) (scaled (pos 1) 19) ≡ Fails Wide
scale_too_great = refl

-- -7 / 2 goes to an unsigned receiver as 3, so that the remainder is -13
pub remainder_of_stored : and_then (divide (scaled (neg_ℤ (pos 7)) 0) (scaled (pos 2) 0)) (λ q. remainder no_layout [] (unsigned 2) (scaled (neg_ℤ (pos 7)) 0) (scaled (pos 2) 0) q) ≡ Gives (scaled (neg_ℤ (pos 13)) 0)
remainder_of_stored = refl

-- a length of 0 leaves its item
pub no_length : within (pos 0) 5 ≡ Fails Range
no_length = refl

-- 01 A, 77 B, 01 C REDEFINES A: C stands in the area of A
pub redefines_its_level : map (λ i. i.span.area) (layout_of [] (elementary 1 (codes "A") (TextPicture (codes "XX")) ∷ elementary 77 (codes "B") (TextPicture (codes "X")) ∷ redefining 1 (codes "C") (TextPicture (codes "X")) ∷ [])).items ≡ 0 ∷ 1 ∷ 0 ∷ []
redefines_its_level = refl

-- the last day of a leap year
pub last_day : register (record { yy = 96; mm = 12; dd = 31 }) Day ≡ Number (pos 96366) 0 5
last_day = refl

-- PERFORM A THRU B. STOP RUN. A. PERFORM 5 TIMES GO TO B END-PERFORM. B. EXIT. The GO TO leaves the inline PERFORM
-- and not that of the paragraphs
abbrev leaving : Program
leaving =
    record { paragraphs = paragraph [] 0 (Perform (Through (codes "A") (codes "B")) Once ∷ Stop ∷ []) ∷ paragraph (codes "A") 2 (Perform (Inline (numbered 3 (GoTo (codes "B") ∷ []))) (Times (whole_number 5)) ∷ []) ∷ paragraph (codes "B") 4 (Nothing ∷ []) ∷ []; layout = no_layout; channels = [] }

pub leaves_the_loop : ends_of (job_after some_day (leaving ∷ []) [] 5) ≡ Ended ∷ []
leaves_the_loop = refl

pub not_before : ends_of (job_after some_day (leaving ∷ []) [] 4) ≡ job.Open ∷ []
not_before = refl

-- where the bound is used up at a STOP RUN the next program has begun; with bound 0 the first has
abbrev stopping : Program
stopping = record { paragraphs = paragraph [] 0 (Stop ∷ []) ∷ []; layout = no_layout; channels = [] }

pub next_has_begun : ends_of (job_after some_day (stopping ∷ stopping ∷ []) [] 1) ≡ Ended ∷ job.Open ∷ []
next_has_begun = refl

pub first_has_begun : ends_of (job_after some_day (stopping ∷ []) [] 0) ≡ job.Open ∷ []
first_has_begun = refl

pub empty_job : ends_of (job_after some_day [] [] 9) ≡ []
empty_job = refl
