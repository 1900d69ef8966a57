-- What is said of the bytes of a year that gets its century.
use Rattle.std.proofs.Common.{◌≡◌, ℕ, ◌+◌, ◌*◌, ◌/◌, ◌%◌, Bool, true, false, cond, ◌&&◌, ◌||◌, List, [], ◌∷◌, take, None, refl, ap}
use Rattle.std.specs.Prelude.{slice_index, ◌==◌}
use Rattle.byte_lists.specs.Digit.{all_digits}
use Rattle.byte_lists.specs.HalfBytes.{halves, joined}
use Rattle.year_image.specs.Packing.{is_packed, all_equal, year_at, with_century, grow_packed}
use Rattle.year_image.specs.Image.{century, two_digits, doubled, tame_pair, tame_packed}

and_yes : (b : Bool) → (b && true) ≡ b
and_yes true = refl
and_yes false = refl

pub is_packed_is : (digits : ℕ) (bs : List ℕ) → is_packed digits bs
    ≡ (all_digits 0 (take (digits / 2 * 2 + 1) (halves bs))
    && ((digits % 2 == 1 || slice_index (halves bs) 0 == 0)
    && (slice_index (halves bs) (digits / 2 * 2 + 1) == 12 || slice_index (halves bs) (digits / 2 * 2 + 1) == 15)))
unfolding is_packed
is_packed_is digits bs = refl

pub grow_packed_yes : (digits unit : ℕ) (bs : List ℕ) → is_packed digits bs ≡ true →
    grow_packed digits unit bs ≡ joined (with_century (year_at digits unit) (halves bs))
unfolding grow_packed
grow_packed_yes digits unit bs h = ap (λ t. cond t (joined (with_century (year_at digits unit) (halves bs))) (slice_index bs 0 ∷ bs)) h

pub grow_packed_no : (digits unit : ℕ) (bs : List ℕ) → is_packed digits bs ≡ false → grow_packed digits unit bs ≡ slice_index bs 0 ∷ bs
unfolding grow_packed
grow_packed_no digits unit bs h = ap (λ t. cond t (joined (with_century (year_at digits unit) (halves bs))) (slice_index bs 0 ∷ bs)) h

pub century_yes : (bs : List ℕ) → two_digits 48 bs ≡ true → century 48 bs ≡ 49 ∷ 57 ∷ []
unfolding century
century_yes bs h = ap (λ t. cond t (49 ∷ 57 ∷ []) (slice_index bs 0 ∷ slice_index bs 0 ∷ [])) h

pub century_no : (bs : List ℕ) → two_digits 48 bs ≡ false → century 48 bs ≡ slice_index bs 0 ∷ slice_index bs 0 ∷ []
unfolding century
century_no bs h = ap (λ t. cond t (49 ∷ 57 ∷ []) (slice_index bs 0 ∷ slice_index bs 0 ∷ [])) h

pub tame_pair_is : (bs : List ℕ) → tame_pair 48 None bs ≡ (two_digits 48 bs || doubled 48 bs)
unfolding tame_pair
tame_pair_is bs = ap (λ t. t || doubled 48 bs) (and_yes (two_digits 48 bs))

pub tame_packed_is : (digits unit : ℕ) (bs : List ℕ) → tame_packed digits unit None bs ≡ (is_packed digits bs || all_equal (slice_index bs 0) bs)
unfolding tame_packed
tame_packed_is digits unit bs = ap (λ t. t || all_equal (slice_index bs 0) bs) (and_yes (is_packed digits bs))
