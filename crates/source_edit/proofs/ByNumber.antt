-- The lines of a text one by one, by their numbers.
use Rattle.std.proofs.Common.{◌≡◌, ℕ, zero, suc, ◌+◌, ◌-◌, ◌≤◌, List, [], ◌∷◌, ◌++◌, drop, slice_get, Some, None, refl, sym, ap, ◌∙◌, arith, map, Bool, true, false, ◌==◌, length, if◌then◌else◌}
use Rattle.std.proofs.lemmas.Bool.{ne_eqb}
use Rattle.fixed_format.specs.Columns.{line_of}
use Rattle.y2k_base.specs.declared.word.Word.{Word}
use Rattle.source_edit.specs.declared.row.Placed.{Placed}
use Rattle.source_edit.specs.declared.row.Row.{Row}
use Rattle.source_edit.specs.Rows.{Changing, rows_from, left_over, behind_line, on_line, placed}

at_index : (lines : List (List ℕ)) (k : ℕ) (line : List ℕ) → slice_get lines k ≡ Some line → drop k lines ≡ line ∷ drop (suc k) lines
at_index [] k line e = cc
at_index (l ∷ ls) zero line e = cc
at_index (l ∷ ls) (suc k) line e = at_index ls k line e

past_index : (lines : List (List ℕ)) (k : ℕ) → slice_get lines k ≡ None → drop k lines ≡ []
past_index [] zero e = refl
past_index [] (suc k) e = refl
past_index (l ∷ ls) zero e = cc
past_index (l ∷ ls) (suc k) e = past_index ls k e

by_index : (lines : List (List ℕ)) (n : ℕ) → 1 ≤ n → line_of lines n ≡ slice_get lines (n - 1)
by_index lines n some = ap (λ (b : Bool). if b then None else slice_get lines (n - 1)) (ne_eqb n 0 (λ z. omega (arith, some, z)))

-- a line and those behind it
at_line : (lines : List (List ℕ)) (n : ℕ) (line : List ℕ) → 1 ≤ n → line_of lines n ≡ Some line → drop (n - 1) lines ≡ line ∷ drop n lines
at_line lines n line some e =
    let up : suc (n - 1) ≡ n = omega (arith, some) in
    at_index lines (n - 1) line (sym (by_index lines n some) ∙ e) ∙ ap (λ k. line ∷ drop k lines) up

past_lines : (lines : List (List ℕ)) (n : ℕ) → 1 ≤ n → line_of lines n ≡ None → drop (n - 1) lines ≡ []
past_lines lines n some e = past_index lines (n - 1) (sym (by_index lines n some) ∙ e)

pub empty_by : {A : Type 0} (xs : List A) → (length xs == 0) ≡ true → xs ≡ []
empty_by [] e = refl
empty_by (x ∷ xs) e =
    let other : (length (x ∷ xs) == 0) ≡ false = ne_eqb (length (x ∷ xs)) 0 (λ z. omega (arith, z)) in
    let bad : true ≡ false = sym e ∙ other in
    cc

-- the first of some lines makes a row
one_row : (change : Changing) (n : ℕ) (line : List ℕ) (rest lines : List (List ℕ)) (words : List Word) → lines ≡ line ∷ rest
    → rows_from change n lines words ≡ record { line = line; words = map (placed change) (on_line n words) } ∷ rows_from change (n + 1) rest (behind_line n words)
one_row change n line rest lines words e = ap (λ ls. rows_from change n ls words) e

one_left : (n : ℕ) (line : List ℕ) (rest lines : List (List ℕ)) (words : List Word) → lines ≡ line ∷ rest
    → left_over n lines words ≡ left_over (n + 1) rest (behind_line n words)
one_left n line rest lines words e = ap (λ ls. left_over n ls words) e

behind_one : {A : Type 0} (xs : List A) (x : A) (ys : List A) → (xs ++ x ∷ []) ++ ys ≡ xs ++ (x ∷ ys)
behind_one [] x ys = refl
behind_one (z ∷ xs) x ys = ap (λ zs. z ∷ zs) (behind_one xs x ys)

nothing_behind : {A : Type 0} (xs : List A) → xs ++ [] ≡ xs
nothing_behind [] = refl
nothing_behind (x ∷ xs) = ap (λ zs. x ∷ zs) (nothing_behind xs)

same_number : (n : ℕ) → n + 1 - 1 ≡ n
same_number n = omega arith

pub next_rows : (change : Changing) (lines : List (List ℕ)) (rest more : List Word) (rows rows' whole : List Row) (n m : ℕ) (line : List ℕ) (own : List Placed)
    → rows ++ rows_from change n (drop (n - 1) lines) rest ≡ whole → 1 ≤ n → line_of lines n ≡ Some line → own ≡ map (placed change) (on_line n rest)
    → more ≡ behind_line n rest → rows' ≡ rows ++ record { line = line; words = own } ∷ [] → m ≡ n + 1
    → rows' ++ rows_from change m (drop (m - 1) lines) more ≡ whole
next_rows change lines rest more rows rows' whole n m line own same some at is_own is_more pushed one =
    ap (λ r. r ++ rows_from change m (drop (m - 1) lines) more) pushed
    ∙ ap (λ k. (rows ++ record { line = line; words = own } ∷ []) ++ rows_from change k (drop (k - 1) lines) more) one
    ∙ ap (λ w. (rows ++ record { line = line; words = own } ∷ []) ++ rows_from change (n + 1) (drop (n + 1 - 1) lines) w) is_more
    ∙ ap (λ k. (rows ++ record { line = line; words = own } ∷ []) ++ rows_from change (n + 1) (drop k lines) (behind_line n rest)) (same_number n)
    ∙ behind_one rows (record { line = line; words = own }) (rows_from change (n + 1) (drop n lines) (behind_line n rest))
    ∙ ap (λ o. rows ++ (record { line = line; words = o } ∷ rows_from change (n + 1) (drop n lines) (behind_line n rest))) is_own
    ∙ ap (λ rs. rows ++ rs) (sym (one_row change n line (drop n lines) (drop (n - 1) lines) rest (at_line lines n line some at)))
    ∙ same

pub next_left : (lines : List (List ℕ)) (rest more left : List Word) (n m : ℕ) (line : List ℕ)
    → left_over n (drop (n - 1) lines) rest ≡ left → 1 ≤ n → line_of lines n ≡ Some line → more ≡ behind_line n rest → m ≡ n + 1
    → left_over m (drop (m - 1) lines) more ≡ left
next_left lines rest more left n m line same some at is_more one =
    ap (λ k. left_over k (drop (k - 1) lines) more) one
    ∙ ap (λ w. left_over (n + 1) (drop (n + 1 - 1) lines) w) is_more
    ∙ ap (λ k. left_over (n + 1) (drop k lines) (behind_line n rest)) (same_number n)
    ∙ sym (one_left n line (drop n lines) (drop (n - 1) lines) rest (at_line lines n line some at))
    ∙ same

pub last_rows : (change : Changing) (lines : List (List ℕ)) (rest : List Word) (rows whole : List Row) (n : ℕ)
    → rows ++ rows_from change n (drop (n - 1) lines) rest ≡ whole → 1 ≤ n → line_of lines n ≡ None → rows ≡ whole
last_rows change lines rest rows whole n same some none =
    sym (nothing_behind rows) ∙ ap (λ ls. rows ++ rows_from change n ls rest) (sym (past_lines lines n some none)) ∙ same

pub last_left : (lines : List (List ℕ)) (rest left : List Word) (n : ℕ)
    → left_over n (drop (n - 1) lines) rest ≡ left → 1 ≤ n → line_of lines n ≡ None → rest ≡ [] → left ≡ []
last_left lines rest left n same some none empty =
    sym same ∙ ap (λ ls. left_over n ls rest) (past_lines lines n some none) ∙ empty
