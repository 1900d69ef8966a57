-- Bytes that are kept stand before those of the next year.
use Rattle.std.proofs.Common.{◌≡◌, ℕ, zero, suc, ◌+◌, ◌-◌, ◌<◌, ◌≤◌, ◌&&◌, Bool, true, false, List, [], ◌∷◌, ◌++◌, length, take, drop, refl, sym, ap, ◌∙◌, arith, length-drop, get_or, append_assoc}
use Rattle.std.proofs.Math.Seq.{take-length}
use Rattle.std.specs.Prelude.{replicate}
use Rattle.y2k_base.specs.declared.place.Span.{Span}
use Rattle.year_image.specs.Piece.{Piece, Keep, width}
use Rattle.year_image.specs.Image.{image, grow, tame}
use Rattle.window_modes.specs.declared.modes.YearMode.{YearMode}
use Rattle.literal_images.specs.Texts.{are_tame, piece_of, start_in, pieces_from}

take_none : (k : ℕ) → take {A = ℕ} k [] ≡ []
take_none zero = refl
take_none (suc k) = refl

drop_none : (k : ℕ) → drop {A = ℕ} k [] ≡ []
drop_none zero = refl
drop_none (suc k) = refl

pub image_kept : (k : ℕ) (ps : List Piece) (bs : List ℕ) → image 48 (replicate k Keep ++ ps) bs ≡ take k bs ++ image 48 ps (drop k bs)
image_kept zero ps bs = refl
image_kept (suc k) ps [] =
    image_kept k ps [] ∙ ap (λ (front : List ℕ). front ++ image 48 ps (drop k [])) (take_none k)
    ∙ ap (λ (rest : List ℕ). image 48 ps rest) (drop_none k)
image_kept (suc k) ps (b ∷ bs) = ap (λ (rest : List ℕ). b ∷ rest) (image_kept k ps bs)

-- nothing but kept bytes
pub image_rest : (k : ℕ) (bs : List ℕ) → length bs ≤ k → image 48 (replicate k Keep) bs ≡ bs
image_rest zero [] h = refl
image_rest zero (b ∷ bs) h = absurd (omega arith)
image_rest (suc k) [] h = image_rest k [] (omega arith)
image_rest (suc k) (b ∷ bs) h = ap (λ (rest : List ℕ). b ∷ rest) (image_rest k bs (omega arith))

pub tame_kept : (k : ℕ) (ps : List Piece) (bs : List ℕ) → are_tame (replicate k Keep ++ ps) bs ≡ are_tame ps (drop k bs)
tame_kept zero ps bs = refl
tame_kept (suc k) ps [] = tame_kept k ps [] ∙ ap (λ (rest : List ℕ). are_tame ps rest) (drop_none k)
tame_kept (suc k) ps (b ∷ bs) = tame_kept k ps bs

pub tame_rest : (k : ℕ) (bs : List ℕ) → are_tame (replicate k Keep) bs ≡ true
tame_rest zero bs = refl
tame_rest (suc k) [] = tame_rest k []
tame_rest (suc k) (b ∷ bs) = tame_rest k bs

-- no more years
pub tame_end : (span : Span) (at end : ℕ) (modes : List YearMode) (bs : List ℕ) (t : Bool) →
    length modes < 1 → are_tame (pieces_from span at end modes) bs ≡ t → true ≡ t
tame_end span at end [] bs t few e = sym (tame_rest (end - at) bs) ∙ e
tame_end span at end (mode ∷ modes) bs t few e = absurd (omega (arith, few))

pub image_end : (span : Span) (at end : ℕ) (modes : List YearMode) (text bs whole : List ℕ) →
    length modes < 1 → length bs ≤ end - at → text ++ image 48 (pieces_from span at end modes) bs ≡ whole → text ++ bs ≡ whole
image_end span at end [] text bs whole few short e = ap (λ (rest : List ℕ). text ++ rest) (sym (image_rest (end - at) bs short)) ∙ e
image_end span at end (mode ∷ modes) text bs whole few short e = absurd (omega (arith, few))

-- the next year, with the bytes before it
pub image_year : (span : Span) (at end : ℕ) (mode : YearMode) (modes : List YearMode) (bs : List ℕ) →
    image 48 (pieces_from span at end (mode ∷ modes)) bs ≡ take (start_in span mode - at) bs
    ++ (grow 48 (piece_of mode) (take (width (piece_of mode)) (drop (start_in span mode - at) bs))
    ++ image 48 (pieces_from span (start_in span mode + width (piece_of mode)) end modes) (drop (width (piece_of mode)) (drop (start_in span mode - at) bs)))
image_year span at end mode modes bs =
    image_kept (start_in span mode - at) (piece_of mode ∷ pieces_from span (start_in span mode + width (piece_of mode)) end modes) bs

pub tame_year : (span : Span) (at end : ℕ) (mode : YearMode) (modes : List YearMode) (bs : List ℕ) →
    are_tame (pieces_from span at end (mode ∷ modes)) bs
    ≡ (tame 48 (piece_of mode) (take (width (piece_of mode)) (drop (start_in span mode - at) bs))
    && are_tame (pieces_from span (start_in span mode + width (piece_of mode)) end modes) (drop (width (piece_of mode)) (drop (start_in span mode - at) bs)))
tame_year span at end mode modes bs =
    tame_kept (start_in span mode - at) (piece_of mode ∷ pieces_from span (start_in span mode + width (piece_of mode)) end modes) bs

-- the years behind the first
behind_first : (mode : YearMode) (modes : List YearMode) → take (length (mode ∷ modes) - 1) (drop 1 (mode ∷ modes)) ≡ modes
behind_first mode modes =
    let count : length (mode ∷ modes) - 1 ≡ length modes = omega arith in
    ap (λ (n : ℕ). take n modes) count ∙ take-length modes

-- how the loops go on to the next year
pub tame_next : (span : Span) (at end gap next : ℕ) (blank : YearMode) (years : List YearMode) (bs year rest : List ℕ) (t : Bool) →
    1 ≤ length years →
    gap ≡ start_in span (get_or years 0 blank) - at →
    year ≡ take (width (piece_of (get_or years 0 blank))) (drop gap bs) →
    tame 48 (piece_of (get_or years 0 blank)) year ≡ true →
    rest ≡ drop (width (piece_of (get_or years 0 blank))) (drop gap bs) →
    next ≡ start_in span (get_or years 0 blank) + width (piece_of (get_or years 0 blank)) →
    are_tame (pieces_from span at end years) bs ≡ t →
    are_tame (pieces_from span next end (take (length years - 1) (drop 1 years))) rest ≡ t
tame_next span at end gap next blank [] bs year rest t some gap_is year_is tame_is rest_is next_is e = absurd (omega (arith, some))
tame_next span at end gap next blank (mode ∷ modes) bs year rest t some gap_is year_is tame_is rest_is next_is e =
    let tame_there : tame 48 (piece_of mode) (take (width (piece_of mode)) (drop (start_in span mode - at) bs)) ≡ true =
    ap (λ (ys : List ℕ). tame 48 (piece_of mode) ys) (sym (year_is ∙ ap (λ (g : ℕ). take (width (piece_of mode)) (drop g bs)) gap_is)) ∙ tame_is in
    ap (λ (ys : List YearMode). are_tame (pieces_from span next end ys) rest) (behind_first mode modes)
    ∙ ap (λ (n : ℕ). are_tame (pieces_from span n end modes) rest) next_is
    ∙ ap (λ (r : List ℕ). are_tame (pieces_from span (start_in span mode + width (piece_of mode)) end modes) r)
    (rest_is ∙ ap (λ (g : ℕ). drop (width (piece_of mode)) (drop g bs)) gap_is)
    ∙ sym (ap (λ (b : Bool). b && are_tame (pieces_from span (start_in span mode + width (piece_of mode)) end modes)
    (drop (width (piece_of mode)) (drop (start_in span mode - at) bs))) tame_there)
    ∙ sym (tame_year span at end mode modes bs)
    ∙ e

-- a year that is not tame
pub tame_not : (span : Span) (at end gap : ℕ) (blank : YearMode) (years : List YearMode) (bs year : List ℕ) (t : Bool) →
    1 ≤ length years →
    gap ≡ start_in span (get_or years 0 blank) - at →
    year ≡ take (width (piece_of (get_or years 0 blank))) (drop gap bs) →
    tame 48 (piece_of (get_or years 0 blank)) year ≡ false →
    are_tame (pieces_from span at end years) bs ≡ t →
    false ≡ t
tame_not span at end gap blank [] bs year t some gap_is year_is tame_is e = absurd (omega (arith, some))
tame_not span at end gap blank (mode ∷ modes) bs year t some gap_is year_is tame_is e =
    let tame_there : tame 48 (piece_of mode) (take (width (piece_of mode)) (drop (start_in span mode - at) bs)) ≡ false =
    ap (λ (ys : List ℕ). tame 48 (piece_of mode) ys) (sym (year_is ∙ ap (λ (g : ℕ). take (width (piece_of mode)) (drop g bs)) gap_is)) ∙ tame_is in
    sym (ap (λ (b : Bool). b && are_tame (pieces_from span (start_in span mode + width (piece_of mode)) end modes)
    (drop (width (piece_of mode)) (drop (start_in span mode - at) bs))) tame_there)
    ∙ sym (tame_year span at end mode modes bs)
    ∙ e

pub image_next : (span : Span) (at end gap next : ℕ) (blank : YearMode) (years : List YearMode) (bs front year rest text longer grown whole : List ℕ) →
    1 ≤ length years →
    gap ≡ start_in span (get_or years 0 blank) - at →
    front ≡ take gap bs →
    longer ≡ text ++ front →
    year ≡ take (width (piece_of (get_or years 0 blank))) (drop gap bs) →
    grown ≡ longer ++ grow 48 (piece_of (get_or years 0 blank)) year →
    rest ≡ drop (width (piece_of (get_or years 0 blank))) (drop gap bs) →
    next ≡ start_in span (get_or years 0 blank) + width (piece_of (get_or years 0 blank)) →
    text ++ image 48 (pieces_from span at end years) bs ≡ whole →
    grown ++ image 48 (pieces_from span next end (take (length years - 1) (drop 1 years))) rest ≡ whole
image_next span at end gap next blank [] bs front year rest text longer grown whole some gap_is front_is longer_is year_is grown_is rest_is next_is e =
    absurd (omega (arith, some))
image_next span at end gap next blank (mode ∷ modes) bs front year rest text longer grown whole some gap_is front_is longer_is year_is grown_is rest_is next_is e =
    let before : List ℕ = take (start_in span mode - at) bs in
    let there : List ℕ = take (width (piece_of mode)) (drop (start_in span mode - at) bs) in
    let image_behind : List ℕ = image 48 (pieces_from span (start_in span mode + width (piece_of mode)) end modes)
    (drop (width (piece_of mode)) (drop (start_in span mode - at) bs)) in
    let longer_now : longer ≡ text ++ before = longer_is ∙ ap (λ (f : List ℕ). text ++ f) (front_is ∙ ap (λ (g : ℕ). take g bs) gap_is) in
    let year_now : year ≡ there = year_is ∙ ap (λ (g : ℕ). take (width (piece_of mode)) (drop g bs)) gap_is in
    let grown_now : grown ≡ (text ++ before) ++ grow 48 (piece_of mode) there =
    grown_is ∙ ap (λ (l : List ℕ). l ++ grow 48 (piece_of mode) year) longer_now
    ∙ ap (λ (y : List ℕ). (text ++ before) ++ grow 48 (piece_of mode) y) year_now in
    ap (λ (ys : List YearMode). grown ++ image 48 (pieces_from span next end ys) rest) (behind_first mode modes)
    ∙ ap (λ (n : ℕ). grown ++ image 48 (pieces_from span n end modes) rest) next_is
    ∙ ap (λ (r : List ℕ). grown ++ image 48 (pieces_from span (start_in span mode + width (piece_of mode)) end modes) r)
    (rest_is ∙ ap (λ (g : ℕ). drop (width (piece_of mode)) (drop g bs)) gap_is)
    ∙ ap (λ (l : List ℕ). l ++ image_behind) grown_now
    ∙ append_assoc (text ++ before) (grow 48 (piece_of mode) there) image_behind
    ∙ append_assoc text before (grow 48 (piece_of mode) there ++ image_behind)
    ∙ ap (λ (l : List ℕ). text ++ l) (sym (image_year span at end mode modes bs))
    ∙ e

pub behind_next : (at end gap next start count : ℕ) (bs rest : List ℕ) →
    gap ≡ start - at →
    rest ≡ drop count (drop gap bs) →
    next ≡ start + count →
    length bs ≤ end - at →
    length rest ≤ end - next
behind_next at end gap next start count bs rest gap_is rest_is next_is short =
    let long : length rest ≡ length (drop count (drop gap bs)) = ap (λ (r : List ℕ). length r) rest_is in
    omega (arith, long, length-drop gap bs, length-drop count (drop gap bs), gap_is, next_is, short)
