-- Laws of what is stored.
use Rattle.std.proofs.Common.{◌≡◌, ℕ, ◌+◌, ◌-◌, ◌≤◌, true, false, List, [], ◌∷◌, ◌++◌, length, take, drop, replicate, cond, slice_set, slice_index_or, sym, ap, ◌∙◌, arith}
use Rattle.std.specs.Prelude.{◌==◌, Bool}
use Rattle.std.proofs.Math.Seq.{drop-length}
use Rattle.std.proofs.lemmas.List.{set-get_or, take-append-drop}
use Rattle.byte_lists.specs.Digit.{aligned, codes}
use Rattle.byte_lists.specs.Part.{with_part}
use Rattle.program_meaning.specs.Kind.{Symbol, Nine, Zee, Comma, Show, Dash, digits_shown, digits_after}
use Rattle.program_meaning.specs.Storage.{write}
use Rattle.layout_reading.specs.Reading.{read_span}
use Rattle.y2k_base.specs.declared.place.Span.{Span}

with_part-none : (bs : List ℕ) (start : ℕ) → with_part bs start [] ≡ bs
with_part-none bs start =
    let same : start + 0 ≡ start = omega arith in
    ap (λ (n : ℕ). take start bs ++ drop n bs) same ∙ take-append-drop start bs

write-none : (areas : List (List ℕ)) (first : ℕ) (span : Span) → write areas (read_span first span) [] ≡ areas
write-none areas first span =
    let k : ℕ = (read_span first span).area in
    ap (λ (bs : List ℕ). slice_set areas k bs) (with_part-none (slice_index_or areas k []) span.offset) ∙ set-get_or areas k []

-- a form without digits keeps none
aligned-none : (ds : List ℕ) → aligned 0 ds ≡ []
aligned-none ds =
    let none : 0 - length ds ≡ 0 = omega arith in
    let all : length ds - 0 ≡ length ds = omega arith in
    ap (λ (n : ℕ). replicate n 0 ++ drop (length ds - 0) ds) none ∙ ap (λ (n : ℕ). drop n ds) all ∙ drop-length ds

-- no digits are written
pub write-digits-none : (areas : List (List ℕ)) (first : ℕ) (span : Span) (ds : List ℕ) → areas ≡ write areas (read_span first span) (codes (aligned 0 ds))
write-digits-none areas first span ds =
    sym (ap (λ (kept : List ℕ). write areas (read_span first span) (codes kept)) (aligned-none ds) ∙ write-none areas first span)

after-by : (b : Bool) (after shown : ℕ) → after ≤ shown → cond b shown after ≤ shown
after-by true after shown below = omega arith
after-by false after shown below = below

-- of the digits that a picture shows, some stand after the point
pub after-shown : (ss : List Symbol) → digits_after ss ≤ digits_shown ss
after-shown [] = omega arith
after-shown (Nine ∷ ss) = omega (arith, after-shown ss)
after-shown (Zee ∷ ss) = omega (arith, after-shown ss)
after-shown (Comma ∷ ss) = after-shown ss
after-shown (Show byte ∷ ss) = after-by (byte == 46) (digits_after ss) (digits_shown ss) (after-shown ss)
after-shown (Dash ∷ ss) = after-shown ss
