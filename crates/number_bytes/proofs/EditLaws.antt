-- Laws of pictures written out run by run, and of the digits that they show.
use Rattle.std.proofs.Common.{◌≡◌, ℕ, zero, suc, ◌+◌, ◌-◌, ◌/◌, ◌%◌, ◌^◌, ◌<◌, ◌≤◌, ◌==◌, Bool, true, false, cond, ◌&&◌, ◌||◌, not, List, [], ◌∷◌, ◌++◌, length, drop, get_or, map, replicate, ℤ, refl, sym, ap, ◌∙◌, arith}
use Rattle.std.specs.Prelude.{unsigned_abs}
use Rattle.std.proofs.lemmas.List.{map-append, length-append, length-replicate, drop_more, drop_all}
use Rattle.std.proofs.lemmas.Bool.{ne_eqb}
use Rattle.y2k_base.specs.declared.picture.Run.{Run}
use Rattle.byte_lists.specs.Digit.{decimal}
use Rattle.program_meaning.specs.Number.{is_minus}
use Rattle.program_meaning.specs.Kind.{Edited, Symbol, Nine, Zee, Comma, Show, Dash, symbol_of, digits_shown, has_dash}
use Rattle.program_meaning.specs.Arithmetic.{result_bytes}
use Rattle.tree_reading.specs.Reading.{written_out}
use Rattle.number_bytes.specs.Stored.{symbols}
use Rattle.program_meaning.specs.Moves.{edited}
use Rattle.number_bytes.specs.Editing.{shows_digit}
use Rattle.number_bytes.proofs.StoreLaws.{stored_magnitude, result_bytes-is}

map-replicate : (n c : ℕ) → map symbol_of (replicate n c) ≡ replicate n (symbol_of c)
map-replicate zero c = refl
map-replicate (suc n) c = ap (λ (r : List Symbol). symbol_of c ∷ r) (map-replicate n c)

-- the places of a run, then those of the others
pub symbols-run : (run : Run) (runs : List Run) → symbols (run ∷ runs) ≡ replicate run.count (symbol_of run.symbol) ++ symbols runs
symbols-run run runs = map-append symbol_of (replicate run.count run.symbol) (written_out runs) ∙ ap (λ (r : List Symbol). r ++ symbols runs) (map-replicate run.count run.symbol)

digits_shown-place : (s : Symbol) (ss : List Symbol) → digits_shown (s ∷ ss) ≡ cond (shows_digit s) 1 0 + digits_shown ss
digits_shown-place Nine ss = refl
digits_shown-place Zee ss = refl
digits_shown-place Comma ss = omega arith
digits_shown-place (Show byte) ss = omega arith
digits_shown-place Dash ss = omega arith

pub digits_shown-run : (n : ℕ) (s : Symbol) (ss : List Symbol) → digits_shown (replicate n s ++ ss) ≡ cond (shows_digit s) n 0 + digits_shown ss
digits_shown-run zero s ss = tested (shows_digit s)
  where
    tested : (b : Bool) → digits_shown ss ≡ cond b 0 0 + digits_shown ss
    tested true = omega arith
    tested false = omega arith
digits_shown-run (suc n) s ss = digits_shown-place s (replicate n s ++ ss) ∙ tested (shows_digit s) (digits_shown-run n s ss)
  where
    tested : (b : Bool) → digits_shown (replicate n s ++ ss) ≡ cond b n 0 + digits_shown ss → cond b 1 0 + digits_shown (replicate n s ++ ss) ≡ cond b (suc n) 0 + digits_shown ss
    tested true h = omega arith
    tested false h = omega arith

pub digits_shown_below : (ss : List Symbol) → digits_shown ss ≤ length ss
digits_shown_below [] = omega arith
digits_shown_below (s ∷ ss) = tested (shows_digit s) (digits_shown-place s ss) (digits_shown_below ss)
  where
    tested : (b : Bool) → digits_shown (s ∷ ss) ≡ cond b 1 0 + digits_shown ss → digits_shown ss ≤ length ss → digits_shown (s ∷ ss) ≤ suc (length ss)
    tested true h k = omega arith
    tested false h k = omega arith

has_dash-place : (s : Symbol) (ss : List Symbol) → has_dash (s ∷ ss) ≡ (has_dash (s ∷ []) || has_dash ss)
has_dash-place Nine ss = refl
has_dash-place Zee ss = refl
has_dash-place Comma ss = refl
has_dash-place (Show byte) ss = refl
has_dash-place Dash ss = refl

pub has_dash-append : (xs ys : List Symbol) → has_dash (xs ++ ys) ≡ (has_dash xs || has_dash ys)
has_dash-append [] ys = refl
has_dash-append (x ∷ xs) ys =
    has_dash-place x (xs ++ ys) ∙ ap (λ b. has_dash (x ∷ []) || b) (has_dash-append xs ys) ∙ or_assoc (has_dash (x ∷ [])) (has_dash xs) (has_dash ys) ∙ ap (λ b. b || has_dash ys) (sym (has_dash-place x xs))
  where
    or_assoc : (a b c : Bool) → (a || (b || c)) ≡ ((a || b) || c)
    or_assoc true b c = refl
    or_assoc false b c = refl

pub length-run : (n : ℕ) (s : Symbol) (ss : List Symbol) → length (replicate n s ++ ss) ≡ n + length ss
length-run n s ss = length-append (replicate n s) ss ∙ ap (λ i. i + length ss) (length-replicate n s)

-- the digits of a number, the first of them apart
pub decimal-first : (n m : ℕ) → 1 ≤ n → decimal n m ≡ m / 10 ^ (n - 1) % 10 ∷ decimal (n - 1) m
decimal-first n m some = let e : n ≡ suc (n - 1) = omega arith in ap (λ i. decimal i m) e

-- the places from a run on
pub symbols_at : (runs : List Run) (i : ℕ) (d : Run) → i < length runs → symbols (drop i runs) ≡ replicate (get_or runs i d).count (symbol_of (get_or runs i d).symbol) ++ symbols (drop (i + 1) runs)
symbols_at runs i d within = ap symbols (drop_more runs i d within) ∙ symbols-run (get_or runs i d) (drop (i + 1) runs)

symbols_end : (runs : List Run) (i : ℕ) → length runs ≤ i → symbols (drop i runs) ≡ []
symbols_end runs i past = ap symbols (drop_all i runs past)

has_dash-same : (n : ℕ) (s : Symbol) → has_dash (s ∷ []) ≡ false → has_dash (replicate n s) ≡ false
has_dash-same zero s h = refl
has_dash-same (suc n) s h = has_dash-place s (replicate n s) ∙ ap (λ b. b || has_dash (replicate n s)) h ∙ has_dash-same n s h

-- another symbol is no minus
pub has_dash-other : (n c : ℕ) → (c ≡ 45 → ⊥) → has_dash (replicate n (symbol_of c)) ≡ false
has_dash-other n c other = has_dash-same n (symbol_of c) (tested (c == 57) (c == 90) (c == 44) (c == 45) (c == 66) (ne_eqb c 45 other))
  where
    tested : (nine zee comma dash b : Bool) → dash ≡ false → has_dash (cond nine Nine (cond zee Zee (cond comma Comma (cond dash Dash (cond b (Show 32) (Show c))))) ∷ []) ≡ false
    tested true zee comma dash b h = refl
    tested false true comma dash b h = refl
    tested false false true dash b h = refl
    tested false false false true b h = cc
    tested false false false false true h = refl
    tested false false false false false h = refl

-- what a picture shows of a number
pub edited-is : (picture : List Symbol) (v : ℤ) → result_bytes (Edited picture) v ≡ edited (has_dash picture && (is_minus v && not (unsigned_abs v % 10 ^ digits_shown picture == 0))) false picture (decimal (digits_shown picture) (unsigned_abs v))
unfolding stored_magnitude
edited-is picture v = result_bytes-is (Edited picture) v

-- a digit is left for each place of a run that shows one
pub digit_left : (shows : Bool) (place count left total : ℕ) → left + cond shows place 0 ≡ total → cond shows count 0 ≤ total → place < count → cond shows 1 0 ≤ left
digit_left true place count left total h room within = omega arith
digit_left false place count left total h room within = omega arith

pub digit_taken : (shows : Bool) (place left next total : ℕ) → left + cond shows place 0 ≡ total → next + cond shows 1 0 ≡ left → next + cond shows (place + 1) 0 ≡ total
digit_taken true place left next total h k = omega arith
digit_taken false place left next total h k = omega arith
