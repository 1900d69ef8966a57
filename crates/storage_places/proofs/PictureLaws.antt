-- What a run of one symbol adds to the places, the digits and the sign of a picture.
use Rattle.std.proofs.Common.{◌≡◌, ℕ, zero, suc, ◌+◌, ◌-◌, ◌<◌, Bool, true, false, cond, List, [], ◌∷◌, ◌++◌, length, replicate, take, drop, get_or, ◌≤◌, ◌==◌, ◌||◌, refl, sym, ap, ◌∙◌, arith}
use Rattle.std.proofs.lemmas.Bool.{ne_eqb}
use Rattle.std.proofs.Math.Seq.{take-length}
use Rattle.y2k_base.specs.declared.picture.Run.{Run}
use Rattle.program_meaning.specs.Kind.{Symbol, Nine, Zee, Comma, Show, Dash, symbol_of, digits_shown, digits_after, has_dash}
use Rattle.number_bytes.specs.Stored.{symbols}
use Rattle.number_bytes.specs.Editing.{shows_digit}
use Rattle.number_bytes.proofs.EditLaws.{symbols-run, digits_shown-run, has_dash-append, has_dash-other}

abbrev pub more : List Run → List Run
more rest = take (length rest - 1) (drop 1 rest)

more-is : (run : Run) (runs : List Run) → more (run ∷ runs) ≡ runs
more-is run runs = let count : length (run ∷ runs) - 1 ≡ length runs = omega arith in ap (λ n. take n runs) count ∙ take-length runs

shown-run : (run : Run) (runs : List Run) → digits_shown (symbols (run ∷ runs)) ≡ cond (shows_digit (symbol_of run.symbol)) run.count 0 + digits_shown (symbols runs)
shown-run run runs = ap digits_shown (symbols-run run runs) ∙ digits_shown-run run.count (symbol_of run.symbol) (symbols runs)

pub shown_from : (rest : List Run) (d : Run) → 1 ≤ length rest
    → digits_shown (symbols rest) ≡ cond (shows_digit (symbol_of (get_or rest 0 d).symbol)) (get_or rest 0 d).count 0 + digits_shown (symbols (more rest))
shown_from [] d some = absurd (omega (arith, some))
shown_from (run ∷ runs) d some = shown-run run runs ∙ ap (λ (r : List Run). cond (shows_digit (symbol_of run.symbol)) run.count 0 + digits_shown (symbols r)) (sym (more-is run runs))

dash-run : (run : Run) (runs : List Run) → has_dash (symbols (run ∷ runs)) ≡ (has_dash (replicate run.count (symbol_of run.symbol)) || has_dash (symbols runs))
dash-run run runs = ap has_dash (symbols-run run runs) ∙ has_dash-append (replicate run.count (symbol_of run.symbol)) (symbols runs)

pub dash_from : (rest : List Run) (d : Run) → 1 ≤ length rest
    → has_dash (symbols rest) ≡ (has_dash (replicate (get_or rest 0 d).count (symbol_of (get_or rest 0 d).symbol)) || has_dash (symbols (more rest)))
dash_from [] d some = absurd (omega (arith, some))
dash_from (run ∷ runs) d some = dash-run run runs ∙ ap (λ (r : List Run). has_dash (replicate run.count (symbol_of run.symbol)) || has_dash (symbols r)) (sym (more-is run runs))

-- another symbol is no minus
pub dash_other : (n c : ℕ) → (c ≡ 45 → ⊥) → has_dash (replicate n (symbol_of c)) ≡ false
dash_other n c other = has_dash-other n c other

-- behind the point all digits are shown
points : (n : ℕ) (ss : List Symbol) → digits_shown (replicate n (Show 46) ++ ss) ≡ digits_shown ss
points zero ss = refl
points (suc n) ss = points n ss

after_point : (run : Run) (runs : List Run) → run.symbol ≡ 46 → 0 < run.count → digits_after (symbols (run ∷ runs)) ≡ digits_shown (symbols runs)
after_point run runs point some =
    let n : ℕ = run.count - 1 in
    let count : run.count ≡ suc n = omega arith in
    let here : digits_after (symbols (run ∷ runs)) ≡ digits_after (replicate run.count (symbol_of run.symbol) ++ symbols runs) = ap digits_after (symbols-run run runs) in
    let one : digits_after (replicate run.count (symbol_of run.symbol) ++ symbols runs) ≡ digits_after (replicate (suc n) (Show 46) ++ symbols runs) =
    ap (λ c. digits_after (replicate c (symbol_of run.symbol) ++ symbols runs)) count ∙ ap (λ s. digits_after (replicate (suc n) (symbol_of s) ++ symbols runs)) point in
    here ∙ one ∙ points n (symbols runs)

other-place : (c : ℕ) (ss : List Symbol) → (c ≡ 46 → ⊥) → digits_after (symbol_of c ∷ ss) ≡ digits_after ss
other-place c ss other = tested (c == 57) (c == 90) (c == 44) (c == 45) (c == 66) (ne_eqb c 46 other)
  where
    tested : (nine zee comma dash b : Bool) → (c == 46) ≡ false → digits_after (cond nine Nine (cond zee Zee (cond comma Comma (cond dash Dash (cond b (Show 32) (Show c))))) ∷ ss) ≡ digits_after ss
    tested true zee comma dash b h = refl
    tested false true comma dash b h = refl
    tested false false true dash b h = refl
    tested false false false true b h = refl
    tested false false false false true h = refl
    tested false false false false false h = ap (λ (b : Bool). cond b (digits_shown ss) (digits_after ss)) h

others : (n c : ℕ) (ss : List Symbol) → (c ≡ 46 → ⊥) → digits_after (replicate n (symbol_of c) ++ ss) ≡ digits_after ss
others zero c ss other = refl
others (suc n) c ss other = other-place c (replicate n (symbol_of c) ++ ss) other ∙ others n c ss other

pub after_point_from : (rest : List Run) (d : Run) → 1 ≤ length rest → (get_or rest 0 d).symbol ≡ 46 → 0 < (get_or rest 0 d).count → digits_after (symbols rest) ≡ digits_shown (symbols (more rest))
after_point_from [] d some point count = absurd (omega (arith, some))
after_point_from (run ∷ runs) d some point count = after_point run runs point count ∙ ap (λ (r : List Run). digits_shown (symbols r)) (sym (more-is run runs))

pub after_other_from : (rest : List Run) (d : Run) → 1 ≤ length rest → ((get_or rest 0 d).symbol ≡ 46 → ⊥) → digits_after (symbols rest) ≡ digits_after (symbols (more rest))
after_other_from [] d some other = absurd (omega (arith, some))
after_other_from (run ∷ runs) d some other =
    ap digits_after (symbols-run run runs) ∙ others run.count run.symbol (symbols runs) other ∙ ap (λ (r : List Run). digits_after (symbols r)) (sym (more-is run runs))

pub after_none_from : (rest : List Run) (d : Run) → 1 ≤ length rest → (get_or rest 0 d).count ≡ 0 → digits_after (symbols rest) ≡ digits_after (symbols (more rest))
after_none_from [] d some none = absurd (omega (arith, some))
after_none_from (run ∷ runs) d some none =
    ap digits_after (symbols-run run runs) ∙ ap (λ c. digits_after (replicate c (symbol_of run.symbol) ++ symbols runs)) none ∙ ap (λ (r : List Run). digits_after (symbols r)) (sym (more-is run runs))
