-- What the code keeps of a text that may go on: where in its last piece it ends, and whether that is an open literal.
use Rattle.std.specs.Prelude.{ℕ, Bool, true, false, ◌==◌, ◌||◌, if◌then◌else◌, List, [], ◌∷◌, Option, Some, None}
use Rattle.std.specs.Char.{to_ascii_uppercase}
use Rattle.fixed_format.specs.declared.runs.Placed.{Placed}
use Rattle.fixed_format.specs.declared.piece.Expected.{Expected}
use Rattle.fixed_format.specs.declared.piece.Expected.TheVariants as e
use Rattle.fixed_format.specs.declared.mode.Mode.{Mode}
use Rattle.fixed_format.specs.declared.mode.Mode.TheVariants as m
use Rattle.fixed_format.specs.declared.mode.Spelling.{Spelling}
use Rattle.fixed_format.specs.declared.mode.Spelling.TheVariants as p
use Rattle.fixed_format.specs.Columns.{is_letter, is_number_byte, is_name_byte}
use Rattle.fixed_format.specs.Pieces.{is_quote, is_sign}
use Rattle.fixed_format.specs.Words.{is_gap}

abbrev pub next_if : ℕ → ℕ → Spelling → Spelling
next_if b letter next = if to_ascii_uppercase b == letter then next else p.Other

abbrev pub spelled : Spelling → ℕ → Spelling
spelled p.P b = next_if b 73 p.Pi
spelled p.Pi b = next_if b 67 p.Pic
spelled p.Pic b = next_if b 84 p.Pict
spelled p.Pict b = next_if b 85 p.Pictu
spelled p.Pictu b = next_if b 82 p.Pictur
spelled p.Pictur b = next_if b 69 p.Picture
spelled p.Picture b = p.Other
spelled p.Other b = p.Other

abbrev pub expected_behind_name : Spelling → Expected
expected_behind_name p.P = e.Any
expected_behind_name p.Pi = e.Any
expected_behind_name p.Pic = e.IsOrPicture
expected_behind_name p.Pict = e.Any
expected_behind_name p.Pictu = e.Any
expected_behind_name p.Pictur = e.Any
expected_behind_name p.Picture = e.IsOrPicture
expected_behind_name p.Other = e.Any

-- between pieces
abbrev pub behind_piece : Mode
behind_piece = m.Front e.Any false

abbrev pub behind_blank : Expected → Mode
behind_blank expected = m.Front expected true

-- at the front of a text
abbrev pub front_mode : Expected → Mode
front_mode expected = m.Front expected true

abbrev pub mark_step : Bool → ℕ → Mode
mark_step behind_gap b =
    if is_sign b then (if behind_gap then m.Sign else m.Front e.Any false)
    else (if b == 46 then (if behind_gap then m.Fraction else m.Front e.Any false)
    else (if b == 61 || (b == 60 || b == 62) then m.Comparison else m.Front e.Any (is_gap b)))

abbrev pub any_step : Bool → ℕ → Mode
any_step behind_gap b =
    if b == 32 then m.Front e.Any true
    else (if is_quote b then m.Literal b
    else (if is_letter b then m.Name (next_if b 80 p.P)
    else (if is_number_byte b then m.Digits else mark_step behind_gap b)))

abbrev pub picture_step : ℕ → Mode
picture_step b = if b == 32 then m.Front e.Any true else (if b == 61 then m.PictureEqual else m.Picture (is_gap b))

abbrev pub is_step : ℕ → Mode
is_step b = if to_ascii_uppercase b == 73 then m.IsI else picture_step b

abbrev pub front_step : Expected → Bool → ℕ → Mode
front_step e.Any behind_gap b = any_step behind_gap b
front_step e.IsOrPicture behind_gap b = if b == 32 then m.Front e.IsOrPicture true else is_step b
front_step e.Picture behind_gap b = if b == 32 then m.Front e.Picture true else picture_step b

abbrev pub name_step : Spelling → ℕ → Mode
name_step so_far b = if is_name_byte b then m.Name (spelled so_far b) else front_step (expected_behind_name so_far) false b

abbrev pub digits_step : ℕ → Mode
digits_step b =
    if is_letter b then m.Name p.Other
    else (if is_number_byte b then m.Digits
    else (if b == 45 then m.Hyphen else (if b == 46 then m.Fraction else any_step false b)))

abbrev pub hyphen_step : ℕ → Mode
hyphen_step b =
    if is_letter b then m.Name p.Other
    else (if is_number_byte b then m.Digits else (if b == 45 then m.Hyphen else any_step false b))

abbrev pub sign_step : ℕ → Mode
sign_step b = if is_number_byte b then m.Digits else (if b == 46 then m.Fraction else any_step false b)

abbrev pub fraction_step : ℕ → Mode
fraction_step b = if is_number_byte b then m.Fraction else any_step false b

abbrev pub is_i_step : ℕ → Mode
is_i_step b = if to_ascii_uppercase b == 83 then m.IsIs else picture_step b

abbrev pub is_is_step : ℕ → Mode
is_is_step b = if is_name_byte b then picture_step b else front_step e.Picture false b

abbrev pub equal_step : ℕ → Mode
equal_step b = if b == 61 then behind_piece else picture_step b

abbrev pub comparison_step : ℕ → Mode
comparison_step b = if b == 61 then behind_piece else any_step false b

abbrev pub literal_step : ℕ → ℕ → Mode
literal_step mark b = if b == mark then m.Closed mark else m.Literal mark

abbrev pub closed_step : ℕ → ℕ → Mode
closed_step mark b = if b == mark then m.Literal mark else any_step (is_gap mark) b

abbrev pub step : Mode → ℕ → Mode
step (m.Front expected behind_gap) b = front_step expected behind_gap b
step m.Sign b = sign_step b
step m.Fraction b = fraction_step b
step m.Digits b = digits_step b
step m.Hyphen b = hyphen_step b
step (m.Name so_far) b = name_step so_far b
step m.IsI b = is_i_step b
step m.IsIs b = is_is_step b
step (m.Picture behind_gap) b = picture_step b
step m.PictureEqual b = equal_step b
step m.Comparison b = comparison_step b
step (m.Literal mark) b = literal_step mark b
step (m.Closed mark) b = closed_step mark b

-- behind some characters
abbrev pub steps : Mode → List Placed → Mode
steps mode [] = mode
steps mode (c ∷ cs) = steps (step mode c.byte) cs

-- the mark of the literal that is open
abbrev pub open_mark : Mode → Option ℕ
open_mark (m.Front expected behind_gap) = None
open_mark m.Sign = None
open_mark m.Fraction = None
open_mark m.Digits = None
open_mark m.Hyphen = None
open_mark (m.Name so_far) = None
open_mark m.IsI = None
open_mark m.IsIs = None
open_mark (m.Picture behind_gap) = None
open_mark m.PictureEqual = None
open_mark m.Comparison = None
open_mark (m.Literal mark) = Some mark
open_mark (m.Closed mark) = None
