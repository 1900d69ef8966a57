-- The digits of a picture after its point, run by run.
use Rattle.std.proofs.Common.{◌≡◌, ℕ, zero, suc, ◌+◌, ◌-◌, ◌<◌, ◌==◌, Bool, true, false, true≢false, cond, ◌&&◌, List, ◌∷◌, ◌++◌, length, take, drop, get_or, replicate, refl, sym, ap, ◌∙◌, arith}
use Rattle.std.specs.Prelude.{nat_lt}
use Rattle.std.proofs.Math.Seq.{take-length}
use Rattle.std.proofs.lemmas.Bool.{lt-ltb}
use Rattle.std.proofs.lemmas.List.{length-drop}
use Rattle.y2k_base.specs.declared.picture.Run.{Run}
use Rattle.program_meaning.specs.Kind.{Symbol, Nine, Zee, Comma, Show, Dash, symbol_of, digits_shown, digits_after}
use Rattle.number_bytes.specs.Stored.{symbols}
use Rattle.number_bytes.specs.Editing.{shows_digit}
use Rattle.number_bytes.proofs.EditLaws.{symbols_at, digits_shown-run}
use Rattle.storage_start.specs.Points.{begins_fraction}

by-tests : (nine zee comma dash blank : Bool) (c : ℕ) (ss : List Symbol) → (c == 46) ≡ false
    → digits_after (cond nine Nine (cond zee Zee (cond comma Comma (cond dash Dash (cond blank (Show 32) (Show c))))) ∷ ss) ≡ digits_after ss
by-tests true zee comma dash blank c ss other = refl
by-tests false true comma dash blank c ss other = refl
by-tests false false true dash blank c ss other = refl
by-tests false false false true blank c ss other = refl
by-tests false false false false true c ss other = refl
by-tests false false false false false c ss other = ap (λ (b : Bool). cond b (digits_shown ss) (digits_after ss)) other

-- a place that is no point
no-point : (c : ℕ) (ss : List Symbol) → (c == 46) ≡ false → digits_after (symbol_of c ∷ ss) ≡ digits_after ss
no-point c ss other = by-tests (c == 57) (c == 90) (c == 44) (c == 45) (c == 66) c ss other

no-points : (n c : ℕ) (ss : List Symbol) → (c == 46) ≡ false → digits_after (replicate n (symbol_of c) ++ ss) ≡ digits_after ss
no-points zero c ss other = refl
no-points (suc n) c ss other = no-point c (replicate n (symbol_of c) ++ ss) other ∙ no-points n c ss other

points : (n : ℕ) (ss : List Symbol) → nat_lt 0 n ≡ true → digits_after (replicate n (Show 46) ++ ss) ≡ digits_shown ss
points zero ss some = absurd (true≢false (sym some))
points (suc n) ss some =
    let none : 0 + digits_shown ss ≡ digits_shown ss = omega arith in
    digits_shown-run n (Show 46) ss ∙ none

-- no run begins the fraction where it has no places
empty : (n c : ℕ) (ss : List Symbol) → nat_lt 0 n ≡ false → digits_after (replicate n (symbol_of c) ++ ss) ≡ digits_after ss
empty zero c ss none = refl
empty (suc n) c ss none =
    let some : nat_lt 0 (suc n) ≡ true = lt-ltb 0 (suc n) (omega arith) in
    absurd (true≢false (sym some ∙ none))

module _ (run : Run) (ss : List Symbol) where
  passed-by : (b : Bool) → (run.symbol == 46) ≡ b → (b && nat_lt 0 run.count) ≡ false
      → digits_after (replicate run.count (symbol_of run.symbol) ++ ss) ≡ digits_after ss
  passed-by true is none = empty run.count run.symbol ss none
  passed-by false is none = no-points run.count run.symbol ss is

  pub run-passed : begins_fraction run ≡ false → digits_after (replicate run.count (symbol_of run.symbol) ++ ss) ≡ digits_after ss
  run-passed none = passed-by (run.symbol == 46) refl none

  begun-by : (b : Bool) → (run.symbol == 46) ≡ b → (b && nat_lt 0 run.count) ≡ true
      → digits_after (replicate run.count (symbol_of run.symbol) ++ ss) ≡ digits_shown ss
  begun-by true is some =
      let point : run.symbol ≡ 46 = grind (arith, is) in
      ap (λ (c : ℕ). digits_after (replicate run.count (symbol_of c) ++ ss)) point ∙ points run.count ss some
  begun-by false is some = absurd (true≢false (sym some))

  pub run-begins : begins_fraction run ≡ true → digits_after (replicate run.count (symbol_of run.symbol) ++ ss) ≡ digits_shown ss
  run-begins some = begun-by (run.symbol == 46) refl some

abbrev pub blank : Run
blank = record { symbol = 0; count = 0 }

pub passed : (p : List Run) (i : ℕ) → i < length p → begins_fraction (get_or p i blank) ≡ false → digits_after (symbols (drop (i + 1) p)) ≡ digits_after (symbols (drop i p))
passed p i inside none = sym (ap digits_after (symbols_at p i blank inside) ∙ run-passed (get_or p i blank) (symbols (drop (i + 1) p)) none)

pub begun : (p : List Run) (i : ℕ) → i < length p → begins_fraction (get_or p i blank) ≡ true → digits_shown (symbols (drop (i + 1) p)) ≡ digits_after (symbols (drop i p))
begun p i inside some = sym (ap digits_after (symbols_at p i blank inside) ∙ run-begins (get_or p i blank) (symbols (drop (i + 1) p)) some)

pub to-end : (p : List Run) (k : ℕ) → take (length p - k) (drop k p) ≡ drop k p
to-end p k = ap (λ (n : ℕ). take n (drop k p)) (sym (length-drop k p)) ∙ take-length (drop k p)

pub shown-at : (p : List Run) (i : ℕ) → i < length p
    → digits_shown (symbols (drop i p)) ≡ cond (shows_digit (symbol_of (get_or p i blank).symbol)) (get_or p i blank).count 0 + digits_shown (symbols (drop (i + 1) p))
shown-at p i inside = ap digits_shown (symbols_at p i blank inside) ∙ digits_shown-run (get_or p i blank).count (symbol_of (get_or p i blank).symbol) (symbols (drop (i + 1) p))

-- what the rest shows after a point that begins there is the whole fraction
pub fraction : (p : List Run) (i : ℕ) → i < length p → begins_fraction (get_or p i blank) ≡ true → digits_after (symbols (drop i p)) ≡ digits_after (symbols p)
    → digits_shown (symbols (take (length p - (i + 1)) (drop (i + 1) p))) ≡ digits_after (symbols p)
fraction p i inside some so = ap (λ (runs : List Run). digits_shown (symbols runs)) (to-end p (i + 1)) ∙ begun p i inside some ∙ so
