-- What is known of the run that stands first, and the piece of a literal.
use Rattle.std.proofs.Common.{◌≡◌, ℕ, zero, suc, ◌-◌, ◌==◌, ◌&&◌, ◌||◌, not, Bool, true, false, List, [], ◌∷◌, length, take, drop, codes, Option, Some, None, if◌then◌else◌, refl, ap, sym, ◌∙◌, arith}
use Rattle.std.proofs.Common.{inl, inr}
use Rattle.std.proofs.Math.Seq.{take-length}
use Rattle.std.proofs.lemmas.Bool.{true≢false, false≢true, and_parts, or_cases, or_right}
use Rattle.fixed_format.specs.declared.piece.Piece.{Piece}
use Rattle.fixed_format.specs.declared.piece.Sort.TheVariants as s
use Rattle.fixed_format.specs.declared.runs.Placed.{Placed}
use Rattle.fixed_format.specs.declared.piece.Expected.{Expected}
use Rattle.fixed_format.specs.declared.piece.Sort.{Sort}
use Rattle.fixed_format.specs.Columns.{is_letter, is_number_byte, is_name_byte}
use Rattle.fixed_format.specs.Runs.{first_byte, second_byte, behind, has_letter, run_length, number_length, is_run, ends_picture, closing}
use Rattle.fixed_format.specs.Pieces.{is_quote, literal_until, literal_piece, expected_after, run_piece, begins_number, of_sort, signed_further, mark_of_bytes, plain_piece, is_is_or_picture, is_any, first_piece}
use Rattle.fixed_format.specs.Scanning.{begins_digits, are_run, stays_unlettered}

pub tail_of : (c : Placed) (cs : List Placed) → take (length (c ∷ cs) - 1) (drop 1 (c ∷ cs)) ≡ cs
tail_of c cs =
    let fits : length (c ∷ cs) - 1 ≡ length cs = omega arith in
    ap (λ (n : ℕ). take n cs) fits ∙ take-length cs

-- a literal stands first
pub quote_piece : (g : Bool) (cs after : List Placed) (b : ℕ) (t : Bool) (answer : Piece) → b ≡ first_byte cs → t ≡ is_quote b → t ≡ true
    → after ≡ behind cs → answer ≡ literal_piece b after → answer ≡ plain_piece g cs
quote_piece g cs after b t answer e f h i j =
    let quote : is_quote (first_byte cs) ≡ true = sym (ap (λ (x : ℕ). is_quote x) e) ∙ sym f ∙ h in
    j
    ∙ ap (λ (x : ℕ). literal_piece x after) e
    ∙ ap (λ (xs : List Placed). literal_piece (first_byte cs) xs) i
    ∙ sym (ap (λ (u : Bool). if u then literal_piece (first_byte cs) (behind cs)
    else (if is_letter (first_byte cs) || is_number_byte (first_byte cs) then run_piece cs
    else (if begins_number g cs then of_sort s.Number (signed_further cs) else mark_of_bytes (first_byte cs) (second_byte cs)))) quote)

-- a number that begins with a digit stands in a run without a letter
abbrev NoDigits : List Placed → Piece → Type 0
NoDigits cs piece = begins_digits piece.sort cs ≡ false

either : (cs : List Placed) (t : Bool) (x y : Piece) → NoDigits cs x → NoDigits cs y → NoDigits cs (if t then x else y)
either cs t x y h i = elim t as (λ (u : Bool). NoDigits cs (if u then x else y)) [ true ↦ h | false ↦ i ]

literal_no : (cs : List Placed) (o : Option ℕ) (after : List Placed) → NoDigits cs (literal_until o after)
literal_no cs None after = refl
literal_no cs (Some n) after = refl

run_no : (cs : List Placed) → has_letter cs ≡ true → NoDigits cs (run_piece cs)
run_no cs h =
    ap (λ (t : Bool). begins_digits (if t then record { sort = s.Name; further = run_length (behind cs); after = expected_after cs } else of_sort s.Number (number_length (behind cs))).sort cs) h

letter_no : (e : Expected) (g : Bool) (cs : List Placed) → is_number_byte (first_byte cs) ≡ true → has_letter cs ≡ true → NoDigits cs (first_piece e g cs)
letter_no e g cs h i =
    let digit : (is_letter (first_byte cs) || is_number_byte (first_byte cs)) ≡ true = or_right (is_letter (first_byte cs)) (is_number_byte (first_byte cs)) h in
    let run : NoDigits cs (if is_letter (first_byte cs) || is_number_byte (first_byte cs) then run_piece cs
    else (if begins_number g cs then of_sort s.Number (signed_further cs) else mark_of_bytes (first_byte cs) (second_byte cs)))
    = ap (λ (t : Bool). begins_digits (if t then run_piece cs else (if begins_number g cs then of_sort s.Number (signed_further cs) else mark_of_bytes (first_byte cs) (second_byte cs))).sort cs) digit
    ∙ run_no cs i in
    either cs (first_byte cs == 32) _ _ refl
    (either cs (is_is_or_picture e && is_run cs (codes "IS")) _ _ refl
    (either cs (not (is_any e) && not (ends_picture cs)) _ _ refl
    (either cs (is_quote (first_byte cs)) _ _ (literal_no cs (closing (first_byte cs) (behind cs)) (behind cs)) run)))

digit_first : (sort : Sort) (cs : List Placed) → begins_digits sort cs ≡ true → is_number_byte (first_byte cs) ≡ true
digit_first s.Number cs h = h
digit_first s.Blank cs h = absurd (false≢true h)
digit_first s.Name cs h = absurd (false≢true h)
digit_first s.Literal cs h = absurd (false≢true h)
digit_first s.OpenLiteral cs h = absurd (false≢true h)
digit_first s.Picture cs h = absurd (false≢true h)
digit_first s.Mark cs h = absurd (false≢true h)
digit_first s.Foreign cs h = absurd (false≢true h)

number_no : (e : Expected) (g : Bool) (cs : List Placed) → begins_digits (first_piece e g cs).sort cs ≡ true → has_letter cs ≡ false
number_no e g cs h =
    elim (has_letter cs) as (λ (t : Bool). has_letter cs ≡ t → t ≡ false) [
      | true ↦ λ i. absurd (false≢true (sym (letter_no e g cs (digit_first (first_piece e g cs).sort cs h) i) ∙ h))
      | false ↦ λ i. refl
    ] refl

more_no : (c : Placed) (cs : List Placed) → is_name_byte c.byte ≡ true → has_letter (c ∷ cs) ≡ false → has_letter cs ≡ false
more_no c cs h i =
    elim (is_letter c.byte) as (λ (t : Bool). (if t then true else has_letter cs) ≡ false → has_letter cs ≡ false) [ true ↦ λ j. absurd (true≢false j) | false ↦ λ j. j ]
    (sym (ap (λ (t : Bool). if not t then false else (if is_letter c.byte then true else has_letter cs)) h) ∙ i)

drop_no : (n : ℕ) (cs : List Placed) → are_run (take n cs) ≡ true → has_letter cs ≡ false → has_letter (drop n cs) ≡ false
drop_no zero cs h i = i
drop_no (suc n) [] h i = refl
drop_no (suc n) (c ∷ cs) h i =
    elim (is_name_byte c.byte) as (λ (t : Bool). is_name_byte c.byte ≡ t → (if t then are_run (take n cs) else false) ≡ true → has_letter (drop n cs) ≡ false) [
      | true ↦ λ j m. drop_no n cs m (more_no c cs j i)
      | false ↦ λ j m. absurd (false≢true m)
    ] refl h

-- what is known of the run that stands first is known behind the first piece
pub keeps : (u v : Bool) (e : Expected) (g : Bool) (rest own further : List Placed) (piece : Piece) → (u ≡ true → has_letter rest ≡ false)
    → piece ≡ first_piece e g rest → own ≡ take (suc piece.further) rest → v ≡ stays_unlettered u piece rest own → further ≡ drop (suc piece.further) rest
    → v ≡ true → has_letter further ≡ false
keeps u v e g rest own further piece known e1 e2 e3 e4 h =
    let both : ((u || begins_digits piece.sort rest) && are_run own) ≡ true = sym e3 ∙ h in
    let parts = and_parts (u || begins_digits piece.sort rest) (are_run own) both in
    let run : are_run (take (suc piece.further) rest) ≡ true = sym (ap (λ (os : List Placed). are_run os) e2) ∙ parts.1 in
    let no : has_letter rest ≡ false = elim (or_cases u (begins_digits piece.sort rest) parts.0)
    [ inl j ↦ known j | inr j ↦ number_no e g rest (sym (ap (λ (q : Piece). begins_digits q.sort rest) e1) ∙ j) ] in
    ap (λ (xs : List Placed). has_letter xs) e4 ∙ drop_no (suc piece.further) rest run no
