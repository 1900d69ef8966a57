-- The mode at the end of a text tells whether a literal is open there.
use Rattle.std.proofs.Common.{◌≡◌, ℕ, suc, ◌==◌, Bool, true, false, not, ◌&&◌, ◌||◌, if◌then◌else◌, List, [], ◌∷◌, ◌≤◌, ◌<◌, Option, Some, None, option_map, codes, refl, ap, sym, subst, ◌∙◌, arith}
use Rattle.std.proofs.lemmas.Bool.{eqb-true, and_right}
use Rattle.std.specs.Char.{to_ascii_uppercase}
use Rattle.fixed_format.specs.declared.runs.Placed.{Placed}
use Rattle.fixed_format.specs.declared.piece.Expected.{Expected}
use Rattle.fixed_format.specs.declared.piece.Expected.TheVariants as e
use Rattle.fixed_format.specs.declared.piece.Sort.TheVariants as s
use Rattle.fixed_format.specs.declared.piece.Piece.{Piece}
use Rattle.fixed_format.specs.declared.mode.Mode.{Mode}
use Rattle.fixed_format.specs.declared.mode.Mode.TheVariants as m
use Rattle.fixed_format.specs.declared.mode.Spelling.{Spelling}
use Rattle.fixed_format.specs.declared.mode.Spelling.TheVariants as p
use Rattle.fixed_format.specs.Columns.{is_letter, is_number_byte, is_name_byte}
use Rattle.fixed_format.specs.Runs.{first_byte, run_length, has_letter, is_run, digits_length, number_length, fraction_length, ends_picture, picture_length, closing}
use Rattle.fixed_format.specs.Pieces.{of_sort, literal_until, is_quote, is_sign, is_mark, begins_number, begins_unsigned, mark_of_bytes, run_piece, plain_piece, expected_after}
use Rattle.fixed_format.specs.Words.{Part, is_gap, is_open, pieces_of, open_literal}
use Rattle.fixed_format.specs.Modes.{next_if, spelled, expected_behind_name, mark_step, any_step, picture_step, is_step, front_step, step, steps, open_mark, front_mode}
use Rattle.fixed_format.proofs.PartLaws.{parts, parts_of}

-- the mark of the literal that is open behind so many characters of a piece
abbrev O : ℕ → Expected → Bool → List Placed → Option ℕ
O k e g cs = open_literal (parts k e g cs)

abbrev at : ℕ → ℕ → ℕ → Placed
at b l k = record { byte = b; line = l; column = k }

-- the same, where this piece stands first
abbrev went : Piece → ℕ → List Placed → Option ℕ
went piece b cs = if is_open piece.sort then Some b else O piece.further piece.after (is_gap b) cs

abbrev closed_at : ℕ → Option ℕ → List Placed → Option ℕ
closed_at mark None cs = Some mark
closed_at mark (Some n) cs = O (suc n) e.Any false cs

abbrev behind_close : ℕ → List Placed → Option ℕ
behind_close mark [] = None
behind_close mark (d ∷ ds) = if d.byte == mark then closed_at mark (closing mark ds) ds else O 0 e.Any (is_gap mark) (d ∷ ds)

-- what follows spells PIC or PICTURE to its end
abbrev spells : Spelling → List Placed → Bool
spells p.P cs = is_run cs (codes "IC") || is_run cs (codes "ICTURE")
spells p.Pi cs = is_run cs (codes "C") || is_run cs (codes "CTURE")
spells p.Pic cs = is_run cs [] || is_run cs (codes "TURE")
spells p.Pict cs = is_run cs (codes "URE")
spells p.Pictu cs = is_run cs (codes "RE")
spells p.Pictur cs = is_run cs (codes "E")
spells p.Picture cs = is_run cs []
spells p.Other cs = false

abbrev after_name : Spelling → List Placed → Expected
after_name so_far cs = if spells so_far cs then e.IsOrPicture else e.Any

-- the mark of the literal that is open at the end of what follows
abbrev resume : Mode → List Placed → Option ℕ
resume (m.Front expected g) cs = O 0 expected g cs
resume m.Sign cs = if begins_unsigned cs then O (number_length cs) e.Any false cs else O 0 e.Any false cs
resume m.Fraction cs = O (digits_length cs) e.Any false cs
resume m.Digits cs = if has_letter cs then O (run_length cs) e.Any false cs else O (number_length cs) e.Any false cs
resume m.Hyphen cs = if has_letter cs then O (run_length cs) e.Any false cs else O 0 e.Any false cs
resume (m.Name so_far) cs = O (run_length cs) (after_name so_far cs) false cs
resume m.IsI cs = if is_run cs (codes "S") then O 1 e.Picture false cs else O (picture_length cs) e.Any false cs
resume m.IsIs cs = if not (is_name_byte (first_byte cs)) then O 0 e.Picture false cs else O (picture_length cs) e.Any false cs
resume (m.Picture g) cs = O (picture_length cs) e.Any g cs
resume m.PictureEqual cs = if first_byte cs == 61 then O 1 e.Any false cs else O (picture_length cs) e.Any false cs
resume m.Comparison cs = if first_byte cs == 61 then O 1 e.Any false cs else O 0 e.Any false cs
resume (m.Literal mark) cs = closed_at mark (closing mark cs) cs
resume (m.Closed mark) cs = behind_close mark cs

yes : {A : Type 0} (t : Bool) (x y : A) → t ≡ true → (if t then x else y) ≡ x
yes t x y h = ap (λ (b : Bool). if b then x else y) h

no : {A : Type 0} (t : Bool) (x y : A) → t ≡ false → (if t then x else y) ≡ y
no t x y h = ap (λ (b : Bool). if b then x else y) h

-- facts on bytes
sign_is : (b : ℕ) → is_sign b ≡ true → (is_gap b ≡ false) × (((b == 46) ≡ false) × ((b == 61 || (b == 60 || b == 62)) ≡ false))
sign_is b = grind arith

letter_is : (b : ℕ) → is_letter b ≡ true → (is_gap b ≡ false) × (is_name_byte b ≡ true)
letter_is b = grind arith

digit_is : (b : ℕ) → is_number_byte b ≡ true → (is_gap b ≡ false) × ((is_name_byte b ≡ true) × ((is_letter b ≡ false) × ((b == 46) ≡ false)))
digit_is b = grind arith

digit_more : (b : ℕ) → is_number_byte b ≡ true → ((b == 32) ≡ false) × (is_quote b ≡ false)
digit_more b = grind arith

digit_upper : (b : ℕ) → is_number_byte b ≡ true → (to_ascii_uppercase b == 80) ≡ false
digit_upper b = grind arith

name_is : (b : ℕ) → is_name_byte b ≡ true → (is_gap b ≡ false) × (((b == 32) ≡ false) × (((b == 61) ≡ false) × ((b == 46) ≡ false)))
name_is b = grind arith

equal_is : (b : ℕ) → (b == 61) ≡ true → is_gap b ≡ false
equal_is b = grind arith

-- a letter that is one of these, small or capital
upper_name : (b letter : ℕ) → (to_ascii_uppercase b == letter) ≡ true → 65 ≤ letter → letter < 91 → is_name_byte b ≡ true
upper_name b letter = grind arith

-- a byte of no name is none of these letters, small or capital
name_upper : (b letter : ℕ) → is_name_byte b ≡ false → 65 ≤ letter → letter < 91 → (to_ascii_uppercase b == letter) ≡ false
name_upper b letter = grind arith

comparison_is : (b : ℕ) → (b == 61 || (b == 60 || b == 62)) ≡ true → (is_gap b ≡ false) × ((b == 44 || b == 59) ≡ false)
comparison_is b = grind arith

skips_gap : (n : ℕ) (e : Expected) (g h : Bool) (cs : List Placed) → O (suc n) e g cs ≡ O (suc n) e h cs
skips_gap n e g h [] = refl
skips_gap n e g h (c ∷ cs) = refl

no_digits : (cs : List Placed) → is_number_byte (first_byte cs) ≡ false → digits_length cs ≡ 0
no_digits [] h = refl
no_digits (c ∷ cs) h = no (is_number_byte c.byte) (suc (digits_length cs)) 0 h

gap_of : (k : ℕ) (e : Expected) (cs : List Placed) (b : ℕ) → is_gap b ≡ false → O k e (is_gap b) cs ≡ O k e false cs
gap_of k e cs b h = ap (λ (g : Bool). O k e g cs) h

quote_until : (b : ℕ) (cs : List Placed) (o : Option ℕ) → went (literal_until o cs) b cs ≡ closed_at b o cs
quote_until b cs None = refl
quote_until b cs (Some n) = skips_gap n e.Any (is_gap b) false cs

mark_zero : (b second : ℕ) (cs : List Placed) → (b == 61 || (b == 60 || b == 62)) ≡ false → went (mark_of_bytes b second) b cs ≡ O 0 e.Any (is_gap b) cs
mark_zero b second cs h =
    let one : (second == 61 && (b == 61 || (b == 60 || b == 62))) ≡ false = and_right (second == 61) (b == 61 || (b == 60 || b == 62)) h in
    elim ((b == 44 || b == 59) && second == 32) as (λ (t : Bool). went (if t then of_sort s.Blank 0
    else (if second == 61 && (b == 61 || (b == 60 || b == 62)) then of_sort s.Mark 1 else (if is_mark b then of_sort s.Mark 0 else of_sort s.Foreign 0))) b cs ≡ O 0 e.Any (is_gap b) cs) [
      | true ↦ refl
      | false ↦ ap (λ (t : Bool). went (if t then of_sort s.Mark 1 else (if is_mark b then of_sort s.Mark 0 else of_sort s.Foreign 0)) b cs) one
          ∙ elim (is_mark b) as (λ (t : Bool). went (if t then of_sort s.Mark 0 else of_sort s.Foreign 0) b cs ≡ O 0 e.Any (is_gap b) cs) [ true ↦ refl | false ↦ refl ]
    ]

mark_two : (b second : ℕ) (cs : List Placed) → (b == 61 || (b == 60 || b == 62)) ≡ true
    → went (mark_of_bytes b second) b cs ≡ (if second == 61 then O 1 e.Any false cs else O 0 e.Any false cs)
mark_two b second cs h =
    let is = comparison_is b h in
    ap (λ (t : Bool). went (if t && second == 32 then of_sort s.Blank 0
    else (if second == 61 && (b == 61 || (b == 60 || b == 62)) then of_sort s.Mark 1 else (if is_mark b then of_sort s.Mark 0 else of_sort s.Foreign 0))) b cs) is.1
    ∙ ap (λ (t : Bool). went (if second == 61 && t then of_sort s.Mark 1 else (if is_mark b then of_sort s.Mark 0 else of_sort s.Foreign 0)) b cs) h
    ∙ elim (second == 61) as (λ (t : Bool). went (if t && true then of_sort s.Mark 1 else (if is_mark b then of_sort s.Mark 0 else of_sort s.Foreign 0)) b cs
    ≡ (if t then O 1 e.Any false cs else O 0 e.Any false cs)) [
      | true ↦ gap_of 1 e.Any cs b is.0
      | false ↦ elim (is_mark b) as (λ (t : Bool). went (if t then of_sort s.Mark 0 else of_sort s.Foreign 0) b cs ≡ O 0 e.Any false cs)
          [ true ↦ gap_of 0 e.Any cs b is.0 | false ↦ gap_of 0 e.Any cs b is.0 ]
    ]

-- a sign or a point that begins no number
no_number : (g : Bool) (b l k : ℕ) (cs : List Placed) → is_sign b ≡ false → (b == 46) ≡ false → begins_number g (at b l k ∷ cs) ≡ false
no_number false b l k cs h i = refl
no_number true b l k cs h i =
    ap (λ (t : Bool). (t && is_number_byte (first_byte cs)) || (is_sign b && begins_unsigned cs)) i
    ∙ ap (λ (t : Bool). t && begins_unsigned cs) h

-- the piece of a character that is no blank, quote, letter or digit
abbrev mark_piece : Bool → ℕ → ℕ → ℕ → List Placed → Piece
mark_piece g b l k cs =
    if begins_number g (at b l k ∷ cs) then of_sort s.Number (if is_sign b then number_length cs else digits_length cs)
    else mark_of_bytes b (first_byte cs)

sign_piece : (g : Bool) (b l k : ℕ) (cs : List Placed) → is_sign b ≡ true → went (mark_piece g b l k cs) b cs ≡ resume (if g then m.Sign else m.Front e.Any false) cs
sign_piece false b l k cs h = mark_zero b (first_byte cs) cs (sign_is b h).1.1 ∙ gap_of 0 e.Any cs b (sign_is b h).0
sign_piece true b l k cs h =
    ap (λ (t : Bool). went (if (t && is_number_byte (first_byte cs)) || (is_sign b && begins_unsigned cs) then of_sort s.Number (if is_sign b then number_length cs else digits_length cs)
    else mark_of_bytes b (first_byte cs)) b cs) (sign_is b h).1.0
    ∙ ap (λ (t : Bool). went (if t && begins_unsigned cs then of_sort s.Number (if t then number_length cs else digits_length cs) else mark_of_bytes b (first_byte cs)) b cs) h
    ∙ elim (begins_unsigned cs) as (λ (t : Bool). went (if t then of_sort s.Number (number_length cs) else mark_of_bytes b (first_byte cs)) b cs
    ≡ (if t then O (number_length cs) e.Any false cs else O 0 e.Any false cs)) [
      | true ↦ gap_of (number_length cs) e.Any cs b (sign_is b h).0
      | false ↦ mark_zero b (first_byte cs) cs (sign_is b h).1.1 ∙ gap_of 0 e.Any cs b (sign_is b h).0
    ]

-- a point, and what of a number follows it
point_piece : (g : Bool) (l k : ℕ) (cs : List Placed) → went (mark_piece g 46 l k cs) 46 cs ≡ resume (if g then m.Fraction else m.Front e.Any false) cs
point_piece false l k cs = mark_zero 46 (first_byte cs) cs refl
point_piece true l k cs =
    elim (is_number_byte (first_byte cs)) as (λ (t : Bool). is_number_byte (first_byte cs) ≡ t
    → went (if t || false then of_sort s.Number (digits_length cs) else mark_of_bytes 46 (first_byte cs)) 46 cs ≡ O (digits_length cs) e.Any false cs) [
      | true ↦ λ h. refl
      | false ↦ λ h. mark_zero 46 (first_byte cs) cs refl ∙ sym (ap (λ (n : ℕ). O n e.Any false cs) (no_digits cs h))
    ] refl

mark_one : (g : Bool) (b l k : ℕ) (cs : List Placed) → went (mark_piece g b l k cs) b cs ≡ resume (mark_step g b) cs
mark_one g b l k cs =
    elim (is_sign b) as (λ (t : Bool). is_sign b ≡ t → went (mark_piece g b l k cs) b cs
    ≡ resume (if t then (if g then m.Sign else m.Front e.Any false) else (if b == 46 then (if g then m.Fraction else m.Front e.Any false)
    else (if b == 61 || (b == 60 || b == 62) then m.Comparison else m.Front e.Any (is_gap b)))) cs) [
      | true ↦ λ h. sign_piece g b l k cs h
      | false ↦ λ h. elim (b == 46) as (λ (t : Bool). (b == 46) ≡ t → went (mark_piece g b l k cs) b cs
          ≡ resume (if t then (if g then m.Fraction else m.Front e.Any false) else (if b == 61 || (b == 60 || b == 62) then m.Comparison else m.Front e.Any (is_gap b))) cs) [
            | true ↦ λ i. subst (λ (x : ℕ). went (mark_piece g x l k cs) x cs ≡ resume (if g then m.Fraction else m.Front e.Any false) cs) (sym (eqb-true b 46 i)) (point_piece g l k cs)
            | false ↦ λ i. ap (λ (t : Bool). went (if t then of_sort s.Number (if is_sign b then number_length cs else digits_length cs) else mark_of_bytes b (first_byte cs)) b cs) (no_number g b l k cs h i)
                ∙ elim (b == 61 || (b == 60 || b == 62)) as (λ (t : Bool). (b == 61 || (b == 60 || b == 62)) ≡ t
                → went (mark_of_bytes b (first_byte cs)) b cs ≡ resume (if t then m.Comparison else m.Front e.Any (is_gap b)) cs) [
                  | true ↦ λ j. mark_two b (first_byte cs) cs j
                  | false ↦ λ j. mark_zero b (first_byte cs) cs j
                ] refl
          ] refl
    ] refl

-- PIC and PICTURE begin with a P
after_first : (b l k : ℕ) (cs : List Placed) → expected_after (at b l k ∷ cs) ≡ after_name (next_if b 80 p.P) cs
after_first b l k cs =
    elim (to_ascii_uppercase b == 80) as (λ (t : Bool). (if (if t then is_run cs (codes "IC") else false) || (if t then is_run cs (codes "ICTURE") else false) then e.IsOrPicture else e.Any)
    ≡ after_name (if t then p.P else p.Other) cs) [ true ↦ refl | false ↦ refl ]

letter_one : (b l k : ℕ) (cs : List Placed) → is_letter b ≡ true → went (run_piece (at b l k ∷ cs)) b cs ≡ resume (m.Name (next_if b 80 p.P)) cs
letter_one b l k cs h =
    let letter : has_letter (at b l k ∷ cs) ≡ true
    = ap (λ (t : Bool). if not t then false else (if is_letter b then true else has_letter cs)) (letter_is b h).1 ∙ ap (λ (t : Bool). if t then true else has_letter cs) h in
    ap (λ (t : Bool). went (if t then record { sort = s.Name; further = run_length cs; after = expected_after (at b l k ∷ cs) } else of_sort s.Number (number_length cs)) b cs) letter
    ∙ gap_of (run_length cs) (expected_after (at b l k ∷ cs)) cs b (letter_is b h).0
    ∙ ap (λ (x : Expected). O (run_length cs) x false cs) (after_first b l k cs)

has_letter_more : (b l k : ℕ) (cs : List Placed) → is_name_byte b ≡ true → is_letter b ≡ false → has_letter (at b l k ∷ cs) ≡ has_letter cs
has_letter_more b l k cs h i =
    ap (λ (t : Bool). if not t then false else (if is_letter b then true else has_letter cs)) h ∙ ap (λ (t : Bool). if t then true else has_letter cs) i

digit_one : (b l k : ℕ) (cs : List Placed) → is_number_byte b ≡ true → went (run_piece (at b l k ∷ cs)) b cs ≡ resume m.Digits cs
digit_one b l k cs h =
    let is = digit_is b h in
    let any : expected_after (at b l k ∷ cs) ≡ e.Any = after_first b l k cs ∙ ap (λ (t : Bool). after_name (if t then p.P else p.Other) cs) (digit_upper b h) in
    ap (λ (t : Bool). went (if t then record { sort = s.Name; further = run_length cs; after = expected_after (at b l k ∷ cs) } else of_sort s.Number (number_length cs)) b cs)
    (has_letter_more b l k cs is.1.0 is.1.1.0)
    ∙ elim (has_letter cs) as (λ (t : Bool). went (if t then record { sort = s.Name; further = run_length cs; after = expected_after (at b l k ∷ cs) } else of_sort s.Number (number_length cs)) b cs
    ≡ (if t then O (run_length cs) e.Any false cs else O (number_length cs) e.Any false cs)) [
      | true ↦ gap_of (run_length cs) (expected_after (at b l k ∷ cs)) cs b is.0 ∙ ap (λ (x : Expected). O (run_length cs) x false cs) any
      | false ↦ gap_of (number_length cs) e.Any cs b is.0
    ]

plain_one : (g : Bool) (b l k : ℕ) (cs : List Placed) → went (plain_piece g (at b l k ∷ cs)) b cs
    ≡ resume (if is_quote b then m.Literal b else (if is_letter b then m.Name (next_if b 80 p.P) else (if is_number_byte b then m.Digits else mark_step g b))) cs
plain_one g b l k cs =
    elim (is_quote b) as (λ (t : Bool). went (if t then literal_until (closing b cs) cs
    else (if is_letter b || is_number_byte b then run_piece (at b l k ∷ cs) else mark_piece g b l k cs)) b cs
    ≡ resume (if t then m.Literal b else (if is_letter b then m.Name (next_if b 80 p.P) else (if is_number_byte b then m.Digits else mark_step g b))) cs) [
      | true ↦ quote_until b cs (closing b cs)
      | false ↦ elim (is_letter b) as (λ (t : Bool). is_letter b ≡ t → went (if t || is_number_byte b then run_piece (at b l k ∷ cs) else mark_piece g b l k cs) b cs
          ≡ resume (if t then m.Name (next_if b 80 p.P) else (if is_number_byte b then m.Digits else mark_step g b)) cs) [
            | true ↦ λ h. letter_one b l k cs h
            | false ↦ λ h. elim (is_number_byte b) as (λ (t : Bool). is_number_byte b ≡ t → went (if t then run_piece (at b l k ∷ cs) else mark_piece g b l k cs) b cs
                ≡ resume (if t then m.Digits else mark_step g b) cs) [
                  | true ↦ λ i. digit_one b l k cs i
                  | false ↦ λ i. mark_one g b l k cs
                ] refl
          ] refl
    ]

any_one : (g : Bool) (b l k : ℕ) (cs : List Placed) → O 0 e.Any g (at b l k ∷ cs) ≡ resume (any_step g b) cs
any_one g b l k cs =
    elim (b == 32) as (λ (t : Bool). (b == 32) ≡ t → went (if t then record { sort = s.Blank; further = 0; after = e.Any } else plain_piece g (at b l k ∷ cs)) b cs
    ≡ resume (if t then m.Front e.Any true else (if is_quote b then m.Literal b else (if is_letter b then m.Name (next_if b 80 p.P) else (if is_number_byte b then m.Digits else mark_step g b)))) cs) [
      | true ↦ λ h. ap (λ (t : Bool). O 0 e.Any (t || b == 40) cs) h
      | false ↦ λ h. plain_one g b l k cs
    ] refl

-- a digit that stands first
digit_step : (g : Bool) (b : ℕ) → is_number_byte b ≡ true → any_step g b ≡ m.Digits
digit_step g b h =
    no (b == 32) _ _ (digit_more b h).0 ∙ no (is_quote b) _ _ (digit_more b h).1 ∙ no (is_letter b) _ _ (digit_is b h).1.1.0 ∙ yes (is_number_byte b) _ _ h

front_digit : (b l k : ℕ) (cs : List Placed) → is_number_byte b ≡ true → O 0 e.Any false (at b l k ∷ cs) ≡ resume m.Digits cs
front_digit b l k cs h = any_one false b l k cs ∙ ap (λ (mode : Mode). resume mode cs) (digit_step false b h)

-- one more character of a run or of a number
run_more : (x : Expected) (g : Bool) (b l k : ℕ) (cs : List Placed) → is_name_byte b ≡ true → O (run_length (at b l k ∷ cs)) x g (at b l k ∷ cs) ≡ O (run_length cs) x false cs
run_more x g b l k cs h = ap (λ (t : Bool). O (if t then suc (run_length cs) else 0) x g (at b l k ∷ cs)) h ∙ gap_of (run_length cs) x cs b (name_is b h).0

number_more : (b l k : ℕ) (cs : List Placed) → is_number_byte b ≡ true → O (number_length (at b l k ∷ cs)) e.Any false (at b l k ∷ cs) ≡ O (number_length cs) e.Any false cs
number_more b l k cs h =
    ap (λ (t : Bool). O (if t then suc (number_length cs) else fraction_length (at b l k ∷ cs)) e.Any false (at b l k ∷ cs)) h
    ∙ gap_of (number_length cs) e.Any cs b (digit_is b h).0

point_more : (l k : ℕ) (cs : List Placed) → O (fraction_length (at 46 l k ∷ cs)) e.Any false (at 46 l k ∷ cs) ≡ O (digits_length cs) e.Any false cs
point_more l k cs =
    elim (is_number_byte (first_byte cs)) as (λ (t : Bool). is_number_byte (first_byte cs) ≡ t
    → O (if t then suc (digits_length cs) else 0) e.Any false (at 46 l k ∷ cs) ≡ O (digits_length cs) e.Any false cs) [
      | true ↦ λ h. refl
      | false ↦ λ h. any_one false 46 l k cs ∙ sym (ap (λ (n : ℕ). O n e.Any false cs) (no_digits cs h))
    ] refl

hyphen_more : (l k : ℕ) (cs : List Placed) → (if has_letter cs then O (run_length cs) e.Any false cs else O 0 e.Any false (at 45 l k ∷ cs)) ≡ resume m.Hyphen cs
hyphen_more l k cs = ap (λ (x : Option ℕ). if has_letter cs then O (run_length cs) e.Any false cs else x) (any_one false 45 l k cs)

-- what follows a letter in a run
letter_more : (b l k : ℕ) (cs : List Placed) (other : Option ℕ) → is_letter b ≡ true
    → (if has_letter (at b l k ∷ cs) then O (run_length (at b l k ∷ cs)) e.Any false (at b l k ∷ cs) else other) ≡ resume (m.Name p.Other) cs
letter_more b l k cs other h =
    let letter : has_letter (at b l k ∷ cs) ≡ true
    = ap (λ (t : Bool). if not t then false else (if is_letter b then true else has_letter cs)) (letter_is b h).1 ∙ ap (λ (t : Bool). if t then true else has_letter cs) h in
    yes (has_letter (at b l k ∷ cs)) (O (run_length (at b l k ∷ cs)) e.Any false (at b l k ∷ cs)) other letter
    ∙ run_more e.Any false b l k cs (letter_is b h).1

no_name : (b : ℕ) → is_letter b ≡ false → is_number_byte b ≡ false → (b == 45) ≡ false → is_name_byte b ≡ false
no_name b h i j = ap (λ (t : Bool). t || (is_number_byte b || b == 45)) h ∙ ap (λ (t : Bool). t || b == 45) i ∙ j

no_letter : (b l k : ℕ) (cs : List Placed) → is_name_byte b ≡ false → has_letter (at b l k ∷ cs) ≡ false
no_letter b l k cs h = ap (λ (t : Bool). if not t then false else (if is_letter b then true else has_letter cs)) h

no_point : (b l k : ℕ) (cs : List Placed) → is_number_byte b ≡ false → (b == 46) ≡ false → number_length (at b l k ∷ cs) ≡ 0
no_point b l k cs h i =
    ap (λ (t : Bool). if t then suc (number_length cs) else fraction_length (at b l k ∷ cs)) h
    ∙ ap (λ (t : Bool). if t && is_number_byte (first_byte cs) then suc (digits_length cs) else 0) i

sign_one : (b l k : ℕ) (cs : List Placed) → resume m.Sign (at b l k ∷ cs) ≡ resume (step m.Sign b) cs
sign_one b l k cs =
    elim (is_number_byte b) as (λ (t : Bool). is_number_byte b ≡ t → resume m.Sign (at b l k ∷ cs)
    ≡ resume (if t then m.Digits else (if b == 46 then m.Fraction else any_step false b)) cs) [
      | true ↦ λ h.
          (let is = digit_is b h in
          let begins : begins_unsigned (at b l k ∷ cs) ≡ (not (has_letter cs) || false)
          = ap (λ (t : Bool). (t && not (has_letter (at b l k ∷ cs))) || (b == 46 && is_number_byte (first_byte cs))) h
          ∙ ap (λ (t : Bool). not t || (b == 46 && is_number_byte (first_byte cs))) (has_letter_more b l k cs is.1.0 is.1.1.0)
          ∙ ap (λ (t : Bool). not (has_letter cs) || (t && is_number_byte (first_byte cs))) is.1.1.1 in
          ap (λ (t : Bool). if t then O (number_length (at b l k ∷ cs)) e.Any false (at b l k ∷ cs) else O 0 e.Any false (at b l k ∷ cs)) begins
          ∙ elim (has_letter cs) as (λ (t : Bool). has_letter cs ≡ t
          → (if not t || false then O (number_length (at b l k ∷ cs)) e.Any false (at b l k ∷ cs) else O 0 e.Any false (at b l k ∷ cs))
          ≡ (if t then O (run_length cs) e.Any false cs else O (number_length cs) e.Any false cs)) [
            | true ↦ λ j. front_digit b l k cs h ∙ yes (has_letter cs) (O (run_length cs) e.Any false cs) (O (number_length cs) e.Any false cs) j
            | false ↦ λ j. number_more b l k cs h
          ] refl)
      | false ↦ λ h. elim (b == 46) as (λ (t : Bool). (b == 46) ≡ t → resume m.Sign (at b l k ∷ cs) ≡ resume (if t then m.Fraction else any_step false b) cs) [
        | true ↦ λ i. subst (λ (x : ℕ). resume m.Sign (at x l k ∷ cs) ≡ resume m.Fraction cs) (sym (eqb-true b 46 i)) (sign_then_point l k cs)
        | false ↦ λ i.
            (let begins : begins_unsigned (at b l k ∷ cs) ≡ false
            = ap (λ (t : Bool). (t && not (has_letter (at b l k ∷ cs))) || (b == 46 && is_number_byte (first_byte cs))) h
            ∙ ap (λ (t : Bool). t && is_number_byte (first_byte cs)) i in
            no (begins_unsigned (at b l k ∷ cs)) (O (number_length (at b l k ∷ cs)) e.Any false (at b l k ∷ cs)) (O 0 e.Any false (at b l k ∷ cs)) begins
            ∙ any_one false b l k cs)
      ] refl
    ] refl
  where
    sign_then_point : (l k : ℕ) (cs : List Placed) → resume m.Sign (at 46 l k ∷ cs) ≡ resume m.Fraction cs
    sign_then_point l k cs =
        elim (is_number_byte (first_byte cs)) as (λ (t : Bool). is_number_byte (first_byte cs) ≡ t
        → (if t then O (if t then suc (digits_length cs) else 0) e.Any false (at 46 l k ∷ cs) else O 0 e.Any false (at 46 l k ∷ cs)) ≡ O (digits_length cs) e.Any false cs) [
          | true ↦ λ h. refl
          | false ↦ λ h. any_one false 46 l k cs ∙ sym (ap (λ (n : ℕ). O n e.Any false cs) (no_digits cs h))
        ] refl

fraction_one : (b l k : ℕ) (cs : List Placed) → resume m.Fraction (at b l k ∷ cs) ≡ resume (step m.Fraction b) cs
fraction_one b l k cs =
    elim (is_number_byte b) as (λ (t : Bool). is_number_byte b ≡ t → O (if t then suc (digits_length cs) else 0) e.Any false (at b l k ∷ cs)
    ≡ resume (if t then m.Fraction else any_step false b) cs) [
      | true ↦ λ h. gap_of (digits_length cs) e.Any cs b (digit_is b h).0
      | false ↦ λ h. any_one false b l k cs
    ] refl

digits_one : (b l k : ℕ) (cs : List Placed) → resume m.Digits (at b l k ∷ cs) ≡ resume (step m.Digits b) cs
digits_one b l k cs =
    elim (is_letter b) as (λ (t : Bool). is_letter b ≡ t → resume m.Digits (at b l k ∷ cs)
    ≡ resume (if t then m.Name p.Other else (if is_number_byte b then m.Digits else (if b == 45 then m.Hyphen else (if b == 46 then m.Fraction else any_step false b)))) cs) [
      | true ↦ λ h. letter_more b l k cs (O (number_length (at b l k ∷ cs)) e.Any false (at b l k ∷ cs)) h
      | false ↦ λ h. elim (is_number_byte b) as (λ (t : Bool). is_number_byte b ≡ t → resume m.Digits (at b l k ∷ cs)
          ≡ resume (if t then m.Digits else (if b == 45 then m.Hyphen else (if b == 46 then m.Fraction else any_step false b))) cs) [
            | true ↦ λ i.
                ap (λ (t : Bool). if t then O (run_length (at b l k ∷ cs)) e.Any false (at b l k ∷ cs) else O (number_length (at b l k ∷ cs)) e.Any false (at b l k ∷ cs))
                (has_letter_more b l k cs (digit_is b i).1.0 h)
                ∙ ap (λ (x : Option ℕ). if has_letter cs then x else O (number_length (at b l k ∷ cs)) e.Any false (at b l k ∷ cs)) (run_more e.Any false b l k cs (digit_is b i).1.0)
                ∙ ap (λ (x : Option ℕ). if has_letter cs then O (run_length cs) e.Any false cs else x) (number_more b l k cs i)
            | false ↦ λ i. elim (b == 45) as (λ (t : Bool). (b == 45) ≡ t → resume m.Digits (at b l k ∷ cs)
                ≡ resume (if t then m.Hyphen else (if b == 46 then m.Fraction else any_step false b)) cs) [
                  | true ↦ λ j. subst (λ (x : ℕ). resume m.Digits (at x l k ∷ cs) ≡ resume m.Hyphen cs) (sym (eqb-true b 45 j)) (hyphen_more l k cs)
                  | false ↦ λ j. elim (b == 46) as (λ (t : Bool). (b == 46) ≡ t → resume m.Digits (at b l k ∷ cs) ≡ resume (if t then m.Fraction else any_step false b) cs) [
                    | true ↦ λ q. subst (λ (x : ℕ). resume m.Digits (at x l k ∷ cs) ≡ resume m.Fraction cs) (sym (eqb-true b 46 q)) (point_more l k cs)
                    | false ↦ λ q.
                        no (has_letter (at b l k ∷ cs)) (O (run_length (at b l k ∷ cs)) e.Any false (at b l k ∷ cs)) (O (number_length (at b l k ∷ cs)) e.Any false (at b l k ∷ cs))
                        (no_letter b l k cs (no_name b h i j))
                        ∙ ap (λ (n : ℕ). O n e.Any false (at b l k ∷ cs)) (no_point b l k cs i q)
                        ∙ any_one false b l k cs
                  ] refl
                ] refl
          ] refl
    ] refl

hyphen_one : (b l k : ℕ) (cs : List Placed) → resume m.Hyphen (at b l k ∷ cs) ≡ resume (step m.Hyphen b) cs
hyphen_one b l k cs =
    elim (is_letter b) as (λ (t : Bool). is_letter b ≡ t → resume m.Hyphen (at b l k ∷ cs)
    ≡ resume (if t then m.Name p.Other else (if is_number_byte b then m.Digits else (if b == 45 then m.Hyphen else any_step false b))) cs) [
      | true ↦ λ h. letter_more b l k cs (O 0 e.Any false (at b l k ∷ cs)) h
      | false ↦ λ h. elim (is_number_byte b) as (λ (t : Bool). is_number_byte b ≡ t → resume m.Hyphen (at b l k ∷ cs)
          ≡ resume (if t then m.Digits else (if b == 45 then m.Hyphen else any_step false b)) cs) [
            | true ↦ λ i.
                ap (λ (t : Bool). if t then O (run_length (at b l k ∷ cs)) e.Any false (at b l k ∷ cs) else O 0 e.Any false (at b l k ∷ cs))
                (has_letter_more b l k cs (digit_is b i).1.0 h)
                ∙ elim (has_letter cs) as (λ (t : Bool). has_letter cs ≡ t
                → (if t then O (run_length (at b l k ∷ cs)) e.Any false (at b l k ∷ cs) else O 0 e.Any false (at b l k ∷ cs)) ≡ resume m.Digits cs) [
                  | true ↦ λ j. run_more e.Any false b l k cs (digit_is b i).1.0 ∙ sym (yes (has_letter cs) (O (run_length cs) e.Any false cs) (O (number_length cs) e.Any false cs) j)
                  | false ↦ λ j. front_digit b l k cs i
                ] refl
            | false ↦ λ i. elim (b == 45) as (λ (t : Bool). (b == 45) ≡ t → resume m.Hyphen (at b l k ∷ cs) ≡ resume (if t then m.Hyphen else any_step false b) cs) [
              | true ↦ λ j. subst (λ (x : ℕ). resume m.Hyphen (at x l k ∷ cs) ≡ resume m.Hyphen cs) (sym (eqb-true b 45 j)) (hyphen_more l k cs)
              | false ↦ λ j.
                  no (has_letter (at b l k ∷ cs)) (O (run_length (at b l k ∷ cs)) e.Any false (at b l k ∷ cs)) (O 0 e.Any false (at b l k ∷ cs))
                  (no_letter b l k cs (no_name b h i j))
                  ∙ any_one false b l k cs
            ] refl
          ] refl
    ] refl

-- inside a PICTURE word, and where one may begin
ends_no : (b l k : ℕ) (cs : List Placed) → (b == 32) ≡ false → (b == 61) ≡ false → (b == 46) ≡ false → ends_picture (at b l k ∷ cs) ≡ false
ends_no b l k cs h i j =
    ap (λ (t : Bool). t || ((b == 61 && first_byte cs == 61) || (b == 46 && first_byte cs == 32))) h
    ∙ ap (λ (t : Bool). (t && first_byte cs == 61) || (b == 46 && first_byte cs == 32)) i
    ∙ ap (λ (t : Bool). t && first_byte cs == 32) j

picture_more : (g : Bool) (b l k : ℕ) (cs : List Placed) → ends_picture (at b l k ∷ cs) ≡ false
    → O (picture_length (at b l k ∷ cs)) e.Any g (at b l k ∷ cs) ≡ O (picture_length cs) e.Any (is_gap b) cs
picture_more g b l k cs h = ap (λ (t : Bool). O (if t then 0 else suc (picture_length cs)) e.Any g (at b l k ∷ cs)) h

picture_none : (cs : List Placed) → (first_byte cs == 32) ≡ true → picture_length cs ≡ 0
picture_none [] h = refl
picture_none (c ∷ cs) h =
    ap (λ (t : Bool). if t || ((c.byte == 61 && first_byte cs == 61) || (c.byte == 46 && first_byte cs == 32)) then 0 else suc (picture_length cs)) h

blank_digit : (cs : List Placed) → (first_byte cs == 32) ≡ true → is_number_byte (first_byte cs) ≡ false
blank_digit cs h = ap (λ (b : ℕ). is_number_byte b) (eqb-true (first_byte cs) 32 h)

point_last : (g : Bool) (l k : ℕ) (cs : List Placed) → (first_byte cs == 32) ≡ true → O 0 e.Any g (at 46 l k ∷ cs) ≡ O 0 e.Any false cs
point_last false l k cs h = any_one false 46 l k cs
point_last true l k cs h = any_one true 46 l k cs ∙ ap (λ (n : ℕ). O n e.Any false cs) (no_digits cs (blank_digit cs h))

picture_point : (g : Bool) (l k : ℕ) (cs : List Placed) → O (picture_length (at 46 l k ∷ cs)) e.Any g (at 46 l k ∷ cs) ≡ O (picture_length cs) e.Any false cs
picture_point g l k cs =
    elim (first_byte cs == 32) as (λ (t : Bool). (first_byte cs == 32) ≡ t
    → O (if t then 0 else suc (picture_length cs)) e.Any g (at 46 l k ∷ cs) ≡ O (picture_length cs) e.Any false cs) [
      | true ↦ λ h. point_last g l k cs h ∙ sym (ap (λ (n : ℕ). O n e.Any false cs) (picture_none cs h))
      | false ↦ λ h. refl
    ] refl

picture_equal : (g : Bool) (l k : ℕ) (cs : List Placed) → O (picture_length (at 61 l k ∷ cs)) e.Any g (at 61 l k ∷ cs) ≡ resume m.PictureEqual cs
picture_equal g l k cs =
    elim (first_byte cs == 61) as (λ (t : Bool). (first_byte cs == 61) ≡ t
    → O (if t || false then 0 else suc (picture_length cs)) e.Any g (at 61 l k ∷ cs) ≡ (if t then O 1 e.Any false cs else O (picture_length cs) e.Any false cs)) [
      | true ↦ λ h. any_one g 61 l k cs ∙ yes (first_byte cs == 61) (O 1 e.Any false cs) (O 0 e.Any false cs) h
      | false ↦ λ h. refl
    ] refl

picture_one : (g : Bool) (b l k : ℕ) (cs : List Placed) → O (picture_length (at b l k ∷ cs)) e.Any g (at b l k ∷ cs) ≡ resume (picture_step b) cs
picture_one g b l k cs =
    elim (b == 32) as (λ (t : Bool). (b == 32) ≡ t → O (picture_length (at b l k ∷ cs)) e.Any g (at b l k ∷ cs)
    ≡ resume (if t then m.Front e.Any true else (if b == 61 then m.PictureEqual else m.Picture (is_gap b))) cs) [
      | true ↦ λ h. subst (λ (x : ℕ). O (picture_length (at x l k ∷ cs)) e.Any g (at x l k ∷ cs) ≡ O 0 e.Any true cs) (sym (eqb-true b 32 h)) refl
      | false ↦ λ h. elim (b == 61) as (λ (t : Bool). (b == 61) ≡ t → O (picture_length (at b l k ∷ cs)) e.Any g (at b l k ∷ cs)
          ≡ resume (if t then m.PictureEqual else m.Picture (is_gap b)) cs) [
            | true ↦ λ i. subst (λ (x : ℕ). O (picture_length (at x l k ∷ cs)) e.Any g (at x l k ∷ cs) ≡ resume m.PictureEqual cs) (sym (eqb-true b 61 i)) (picture_equal g l k cs)
            | false ↦ λ i. elim (b == 46) as (λ (t : Bool). (b == 46) ≡ t → O (picture_length (at b l k ∷ cs)) e.Any g (at b l k ∷ cs) ≡ O (picture_length cs) e.Any (is_gap b) cs) [
              | true ↦ λ j. subst (λ (x : ℕ). O (picture_length (at x l k ∷ cs)) e.Any g (at x l k ∷ cs) ≡ O (picture_length cs) e.Any (is_gap x) cs) (sym (eqb-true b 46 j)) (picture_point g l k cs)
              | false ↦ λ j. picture_more g b l k cs (ends_no b l k cs h i j)
            ] refl
          ] refl
    ] refl

picture_name : (g : Bool) (b l k : ℕ) (cs : List Placed) → is_name_byte b ≡ true → O (picture_length (at b l k ∷ cs)) e.Any g (at b l k ∷ cs) ≡ O (picture_length cs) e.Any false cs
picture_name g b l k cs h =
    picture_more g b l k cs (ends_no b l k cs (name_is b h).1.0 (name_is b h).1.1.0 (name_is b h).1.1.1) ∙ gap_of (picture_length cs) e.Any cs b (name_is b h).0

-- where a PICTURE word may stand: one that is not empty, or what stands elsewhere
picture_or_plain : (g : Bool) (b l k : ℕ) (cs : List Placed) → (b == 32) ≡ false
    → went (if not (ends_picture (at b l k ∷ cs)) then of_sort s.Picture (picture_length cs) else plain_piece g (at b l k ∷ cs)) b cs
    ≡ O (picture_length (at b l k ∷ cs)) e.Any g (at b l k ∷ cs)
picture_or_plain g b l k cs h =
    elim (ends_picture (at b l k ∷ cs)) as (λ (t : Bool). went (if not t then of_sort s.Picture (picture_length cs) else plain_piece g (at b l k ∷ cs)) b cs
    ≡ O (if t then 0 else suc (picture_length cs)) e.Any g (at b l k ∷ cs)) [
      | true ↦ sym (ap (λ (t : Bool). went (if t then record { sort = s.Blank; further = 0; after = e.Any } else plain_piece g (at b l k ∷ cs)) b cs) h)
      | false ↦ refl
    ]

front_picture : (g : Bool) (b l k : ℕ) (cs : List Placed) → O 0 e.Picture g (at b l k ∷ cs) ≡ resume (front_step e.Picture g b) cs
front_picture g b l k cs =
    elim (b == 32) as (λ (t : Bool). (b == 32) ≡ t
    → went (if t then record { sort = s.Blank; further = 0; after = e.Picture }
    else (if not (ends_picture (at b l k ∷ cs)) then of_sort s.Picture (picture_length cs) else plain_piece g (at b l k ∷ cs))) b cs
    ≡ resume (if t then m.Front e.Picture true else picture_step b) cs) [
      | true ↦ λ h. ap (λ (t : Bool). O 0 e.Picture (t || b == 40) cs) h
      | false ↦ λ h. picture_or_plain g b l k cs h ∙ picture_one g b l k cs
    ] refl

front_is : (g : Bool) (b l k : ℕ) (cs : List Placed) → O 0 e.IsOrPicture g (at b l k ∷ cs) ≡ resume (front_step e.IsOrPicture g b) cs
front_is g b l k cs =
    elim (b == 32) as (λ (t : Bool). (b == 32) ≡ t
    → went (if t then record { sort = s.Blank; further = 0; after = e.IsOrPicture }
    else (if is_run (at b l k ∷ cs) (codes "IS") then record { sort = s.Name; further = 1; after = e.Picture }
    else (if not (ends_picture (at b l k ∷ cs)) then of_sort s.Picture (picture_length cs) else plain_piece g (at b l k ∷ cs)))) b cs
    ≡ resume (if t then m.Front e.IsOrPicture true else is_step b) cs) [
      | true ↦ λ h. ap (λ (t : Bool). O 0 e.IsOrPicture (t || b == 40) cs) h
      | false ↦ λ h. elim (to_ascii_uppercase b == 73) as (λ (t : Bool). (to_ascii_uppercase b == 73) ≡ t
          → went (if (if t then is_run cs (codes "S") else false) then record { sort = s.Name; further = 1; after = e.Picture }
          else (if not (ends_picture (at b l k ∷ cs)) then of_sort s.Picture (picture_length cs) else plain_piece g (at b l k ∷ cs))) b cs
          ≡ resume (if t then m.IsI else picture_step b) cs) [
            | true ↦ λ i. elim (is_run cs (codes "S")) as (λ (t : Bool). went (if t then record { sort = s.Name; further = 1; after = e.Picture }
                else (if not (ends_picture (at b l k ∷ cs)) then of_sort s.Picture (picture_length cs) else plain_piece g (at b l k ∷ cs))) b cs
                ≡ (if t then O 1 e.Picture false cs else O (picture_length cs) e.Any false cs)) [
                  | true ↦ skips_gap 0 e.Picture (is_gap b) false cs
                  | false ↦ picture_or_plain g b l k cs h ∙ picture_name g b l k cs (upper_name b 73 i (omega arith) (omega arith))
                ]
            | false ↦ λ i. picture_or_plain g b l k cs h ∙ picture_one g b l k cs
          ] refl
    ] refl

front_one : (x : Expected) (g : Bool) (b l k : ℕ) (cs : List Placed) → O 0 x g (at b l k ∷ cs) ≡ resume (front_step x g b) cs
front_one e.Any g b l k cs = any_one g b l k cs
front_one e.IsOrPicture g b l k cs = front_is g b l k cs
front_one e.Picture g b l k cs = front_picture g b l k cs

-- a name goes on, or ends
next_spells : (b letter : ℕ) (next : Spelling) (cs : List Placed) (word : List ℕ) → spells next cs ≡ is_run cs word
    → (if to_ascii_uppercase b == letter then is_run cs word else false) ≡ spells (next_if b letter next) cs
next_spells b letter next cs word e =
    elim (to_ascii_uppercase b == letter) as (λ (t : Bool). (if t then is_run cs word else false) ≡ spells (if t then next else p.Other) cs) [ true ↦ sym e | false ↦ refl ]

spells_more : (so_far : Spelling) (b l k : ℕ) (cs : List Placed) → is_name_byte b ≡ true → spells so_far (at b l k ∷ cs) ≡ spells (spelled so_far b) cs
spells_more p.P b l k cs h =
    elim (to_ascii_uppercase b == 73) as (λ (t : Bool). ((if t then is_run cs (codes "C") else false) || (if t then is_run cs (codes "CTURE") else false))
    ≡ spells (if t then p.Pi else p.Other) cs) [ true ↦ refl | false ↦ refl ]
spells_more p.Pi b l k cs h =
    elim (to_ascii_uppercase b == 67) as (λ (t : Bool). ((if t then is_run cs [] else false) || (if t then is_run cs (codes "TURE") else false))
    ≡ spells (if t then p.Pic else p.Other) cs) [ true ↦ refl | false ↦ refl ]
spells_more p.Pic b l k cs h =
    ap (λ (t : Bool). not t || (if to_ascii_uppercase b == 84 then is_run cs (codes "URE") else false)) h ∙ next_spells b 84 p.Pict cs (codes "URE") refl
spells_more p.Pict b l k cs h = next_spells b 85 p.Pictu cs (codes "RE") refl
spells_more p.Pictu b l k cs h = next_spells b 82 p.Pictur cs (codes "E") refl
spells_more p.Pictur b l k cs h = next_spells b 69 p.Picture cs [] refl
spells_more p.Picture b l k cs h = ap (λ (t : Bool). not t) h
spells_more p.Other b l k cs h = refl

abbrev expected_if : Bool → Expected
expected_if t = if t then e.IsOrPicture else e.Any

name_ends : (so_far : Spelling) (b l k : ℕ) (cs : List Placed) → is_name_byte b ≡ false → after_name so_far (at b l k ∷ cs) ≡ expected_behind_name so_far
name_ends p.P b l k cs h =
    ap (λ (t : Bool). expected_if ((if t then is_run cs (codes "C") else false) || (if t then is_run cs (codes "CTURE") else false))) (name_upper b 73 h (omega arith) (omega arith))
name_ends p.Pi b l k cs h =
    ap (λ (t : Bool). expected_if ((if t then is_run cs [] else false) || (if t then is_run cs (codes "TURE") else false))) (name_upper b 67 h (omega arith) (omega arith))
name_ends p.Pic b l k cs h =
    ap (λ (t : Bool). expected_if (not t || (if to_ascii_uppercase b == 84 then is_run cs (codes "URE") else false))) h
name_ends p.Pict b l k cs h = ap (λ (t : Bool). expected_if (if t then is_run cs (codes "RE") else false)) (name_upper b 85 h (omega arith) (omega arith))
name_ends p.Pictu b l k cs h = ap (λ (t : Bool). expected_if (if t then is_run cs (codes "E") else false)) (name_upper b 82 h (omega arith) (omega arith))
name_ends p.Pictur b l k cs h = ap (λ (t : Bool). expected_if (if t then is_run cs [] else false)) (name_upper b 69 h (omega arith) (omega arith))
name_ends p.Picture b l k cs h = ap (λ (t : Bool). expected_if (not t)) h
name_ends p.Other b l k cs h = refl

name_one : (so_far : Spelling) (b l k : ℕ) (cs : List Placed) → resume (m.Name so_far) (at b l k ∷ cs) ≡ resume (step (m.Name so_far) b) cs
name_one so_far b l k cs =
    elim (is_name_byte b) as (λ (t : Bool). is_name_byte b ≡ t → resume (m.Name so_far) (at b l k ∷ cs)
    ≡ resume (if t then m.Name (spelled so_far b) else front_step (expected_behind_name so_far) false b) cs) [
      | true ↦ λ h. run_more (after_name so_far (at b l k ∷ cs)) false b l k cs h
          ∙ ap (λ (t : Bool). O (run_length cs) (expected_if t) false cs) (spells_more so_far b l k cs h)
      | false ↦ λ h. ap (λ (t : Bool). O (if t then suc (run_length cs) else 0) (after_name so_far (at b l k ∷ cs)) false (at b l k ∷ cs)) h
          ∙ ap (λ (x : Expected). O 0 x false (at b l k ∷ cs)) (name_ends so_far b l k cs h)
          ∙ front_one (expected_behind_name so_far) false b l k cs
    ] refl

is_i_one : (b l k : ℕ) (cs : List Placed) → resume m.IsI (at b l k ∷ cs) ≡ resume (step m.IsI b) cs
is_i_one b l k cs =
    elim (to_ascii_uppercase b == 83) as (λ (t : Bool). (to_ascii_uppercase b == 83) ≡ t
    → (if (if t then not (is_name_byte (first_byte cs)) else false) then O 1 e.Picture false (at b l k ∷ cs) else O (picture_length (at b l k ∷ cs)) e.Any false (at b l k ∷ cs))
    ≡ resume (if t then m.IsIs else picture_step b) cs) [
      | true ↦ λ h.
          (let name : is_name_byte b ≡ true = upper_name b 83 h (omega arith) (omega arith) in
          elim (not (is_name_byte (first_byte cs))) as (λ (t : Bool). (if t then O 1 e.Picture false (at b l k ∷ cs) else O (picture_length (at b l k ∷ cs)) e.Any false (at b l k ∷ cs))
          ≡ (if t then O 0 e.Picture false cs else O (picture_length cs) e.Any false cs)) [
            | true ↦ gap_of 0 e.Picture cs b (name_is b name).0
            | false ↦ picture_name false b l k cs name
          ])
      | false ↦ λ h. picture_one false b l k cs
    ] refl

is_is_one : (b l k : ℕ) (cs : List Placed) → resume m.IsIs (at b l k ∷ cs) ≡ resume (step m.IsIs b) cs
is_is_one b l k cs =
    elim (is_name_byte b) as (λ (t : Bool). (if not t then O 0 e.Picture false (at b l k ∷ cs) else O (picture_length (at b l k ∷ cs)) e.Any false (at b l k ∷ cs))
    ≡ resume (if t then picture_step b else front_step e.Picture false b) cs) [ true ↦ picture_one false b l k cs | false ↦ front_picture false b l k cs ]

equal_one : (b l k : ℕ) (cs : List Placed) → resume m.PictureEqual (at b l k ∷ cs) ≡ resume (step m.PictureEqual b) cs
equal_one b l k cs =
    elim (b == 61) as (λ (t : Bool). (b == 61) ≡ t → (if t then O 1 e.Any false (at b l k ∷ cs) else O (picture_length (at b l k ∷ cs)) e.Any false (at b l k ∷ cs))
    ≡ resume (if t then m.Front e.Any false else picture_step b) cs) [ true ↦ λ h. gap_of 0 e.Any cs b (equal_is b h) | false ↦ λ h. picture_one false b l k cs ] refl

comparison_one : (b l k : ℕ) (cs : List Placed) → resume m.Comparison (at b l k ∷ cs) ≡ resume (step m.Comparison b) cs
comparison_one b l k cs =
    elim (b == 61) as (λ (t : Bool). (b == 61) ≡ t → (if t then O 1 e.Any false (at b l k ∷ cs) else O 0 e.Any false (at b l k ∷ cs))
    ≡ resume (if t then m.Front e.Any false else any_step false b) cs) [ true ↦ λ h. gap_of 0 e.Any cs b (equal_is b h) | false ↦ λ h. any_one false b l k cs ] refl

-- a literal goes on, or may be closed
closed_two : (mark b l k : ℕ) (d : Placed) (ds : List Placed) (o : Option ℕ) → closed_at mark (option_map (λ n. suc (suc n)) o) (at b l k ∷ d ∷ ds) ≡ closed_at mark o ds
closed_two mark b l k d ds None = refl
closed_two mark b l k d ds (Some n) = skips_gap n e.Any (is_gap d.byte) false ds

closed_more : (mark b l k : ℕ) (d : Placed) (ds : List Placed) (o : Option ℕ) → closed_at mark (option_map (λ n. suc n) o) (at b l k ∷ d ∷ ds) ≡ closed_at mark o (d ∷ ds)
closed_more mark b l k d ds None = refl
closed_more mark b l k d ds (Some n) = refl

literal_one : (mark b l k : ℕ) (cs : List Placed) → resume (m.Literal mark) (at b l k ∷ cs) ≡ resume (step (m.Literal mark) b) cs
literal_one mark b l k [] =
    elim (b == mark) as (λ (t : Bool). closed_at mark (if t then Some 0 else None) (at b l k ∷ []) ≡ resume (if t then m.Closed mark else m.Literal mark) []) [ true ↦ refl | false ↦ refl ]
literal_one mark b l k (d ∷ ds) =
    elim (b == mark) as (λ (t : Bool). (b == mark) ≡ t
    → closed_at mark (if t then (if d.byte == mark then option_map (λ n. suc (suc n)) (closing mark ds) else Some 0) else option_map (λ n. suc n) (closing mark (d ∷ ds))) (at b l k ∷ d ∷ ds)
    ≡ resume (if t then m.Closed mark else m.Literal mark) (d ∷ ds)) [
      | true ↦ λ h. elim (d.byte == mark) as (λ (t : Bool). closed_at mark (if t then option_map (λ n. suc (suc n)) (closing mark ds) else Some 0) (at b l k ∷ d ∷ ds)
          ≡ (if t then closed_at mark (closing mark ds) ds else O 0 e.Any (is_gap mark) (d ∷ ds))) [
            | true ↦ closed_two mark b l k d ds (closing mark ds)
            | false ↦ ap (λ (x : ℕ). O 0 e.Any (is_gap x) (d ∷ ds)) (eqb-true b mark h)
          ]
      | false ↦ λ h. closed_more mark b l k d ds (closing mark (d ∷ ds))
    ] refl

closed_one : (mark b l k : ℕ) (cs : List Placed) → resume (m.Closed mark) (at b l k ∷ cs) ≡ resume (step (m.Closed mark) b) cs
closed_one mark b l k cs =
    elim (b == mark) as (λ (t : Bool). (if t then closed_at mark (closing mark cs) cs else O 0 e.Any (is_gap mark) (at b l k ∷ cs))
    ≡ resume (if t then m.Literal mark else any_step (is_gap mark) b) cs) [ true ↦ refl | false ↦ any_one (is_gap mark) b l k cs ]

one_more : (mode : Mode) (b l k : ℕ) (cs : List Placed) → resume mode (at b l k ∷ cs) ≡ resume (step mode b) cs
one_more (m.Front x g) b l k cs = front_one x g b l k cs
one_more m.Sign b l k cs = sign_one b l k cs
one_more m.Fraction b l k cs = fraction_one b l k cs
one_more m.Digits b l k cs = digits_one b l k cs
one_more m.Hyphen b l k cs = hyphen_one b l k cs
one_more (m.Name so_far) b l k cs = name_one so_far b l k cs
one_more m.IsI b l k cs = is_i_one b l k cs
one_more m.IsIs b l k cs = is_is_one b l k cs
one_more (m.Picture g) b l k cs = picture_one g b l k cs
one_more m.PictureEqual b l k cs = equal_one b l k cs
one_more m.Comparison b l k cs = comparison_one b l k cs
one_more (m.Literal mark) b l k cs = literal_one mark b l k cs
one_more (m.Closed mark) b l k cs = closed_one mark b l k cs

at_end : (mode : Mode) → resume mode [] ≡ open_mark mode
at_end (m.Front x g) = refl
at_end m.Sign = refl
at_end m.Fraction = refl
at_end m.Digits = refl
at_end m.Hyphen = refl
at_end (m.Name so_far) = refl
at_end m.IsI = refl
at_end m.IsIs = refl
at_end (m.Picture g) = refl
at_end m.PictureEqual = refl
at_end m.Comparison = refl
at_end (m.Literal mark) = refl
at_end (m.Closed mark) = refl

mode_resumes : (mode : Mode) (cs : List Placed) → open_mark (steps mode cs) ≡ resume mode cs
mode_resumes mode [] = sym (at_end mode)
mode_resumes mode (c ∷ cs) = mode_resumes (step mode c.byte) cs ∙ sym (one_more mode c.byte c.line c.column cs)

pub mode_tells : (e : Expected) (cs : List Placed) → open_mark (steps (front_mode e) cs) ≡ open_literal (pieces_of e cs)
mode_tells e cs = mode_resumes (front_mode e) cs ∙ ap (λ (ps : List Part). open_literal ps) (parts_of e cs)
