-- What the loops of the code count is what the definitions say.
use Rattle.std.proofs.Common.{◌≡◌, ℕ, suc, ◌+◌, ◌-◌, ◌≤◌, ◌==◌, Bool, true, false, not, ◌&&◌, if◌then◌else◌, List, [], ◌∷◌, ◌++◌, length, length-drop, reverse, take, drop, Option, Some, None, option_map, refl, ap, sym, ◌∙◌, arith}
use Rattle.std.proofs.lemmas.List.{append-nil, append_assoc, take_all, reverse-append, length-reverse}
use Rattle.fixed_format.specs.declared.runs.Placed.{Placed}
use Rattle.fixed_format.specs.Columns.{before_trimmed, trimmed}
use Rattle.fixed_format.specs.Runs.{is_digit_char, digits_length, fraction_length, number_length, closing, content}
use Rattle.fixed_format.specs.Loops.{without_spaces, closing_from, content_count_from, put, content_from}

abbrev pushed : ℕ → List ℕ → List ℕ
pushed b [] = if b == 32 then [] else b ∷ []
pushed b (c ∷ cs) = c ∷ (cs ++ b ∷ [])

without_pushed : (bs : List ℕ) (b : ℕ) → without_spaces (bs ++ b ∷ []) ≡ pushed b (without_spaces bs)
without_pushed [] b = refl
without_pushed (c ∷ cs) b =
    elim (c == 32) as (λ (t : Bool). (if t then without_spaces (cs ++ b ∷ []) else c ∷ (cs ++ b ∷ [])) ≡ pushed b (if t then without_spaces cs else c ∷ cs))
    [ true ↦ without_pushed cs b | false ↦ refl ]

before_some : (b : ℕ) (t : List ℕ) → 1 ≤ length t → before_trimmed b t ≡ b ∷ t
before_some b [] h = absurd (omega (arith, h))
before_some b (c ∷ cs) h = refl

reverse_pushed : (b : ℕ) (t : List ℕ) → reverse (pushed b t) ≡ before_trimmed b (reverse t)
reverse_pushed b [] =
    elim (b == 32) as (λ (x : Bool). reverse {A = ℕ} (if x then [] else b ∷ []) ≡ (if x then [] else b ∷ [])) [ true ↦ refl | false ↦ refl ]
reverse_pushed b (c ∷ cs) =
    let some_cells : 1 ≤ length (reverse (c ∷ cs)) = omega (arith, length-reverse (c ∷ cs)) in
    reverse-append (c ∷ cs) (b ∷ []) ∙ sym (before_some b (reverse (c ∷ cs)) some_cells)

pub trimmed_back : (bs : List ℕ) → reverse (without_spaces (reverse bs)) ≡ trimmed bs
trimmed_back [] = refl
trimmed_back (b ∷ bs) =
    ap (λ (xs : List ℕ). reverse (without_spaces xs)) (reverse-append (b ∷ []) bs)
    ∙ ap (λ (xs : List ℕ). reverse xs) (without_pushed (reverse bs) b)
    ∙ reverse_pushed b (without_spaces (reverse bs))
    ∙ ap (λ (t : List ℕ). before_trimmed b t) (trimmed_back bs)

number_split : (cs : List Placed) → digits_length cs + fraction_length (drop (digits_length cs) cs) ≡ number_length cs
number_split [] = refl
number_split (c ∷ cs) =
    let further : digits_length cs + fraction_length (drop (digits_length cs) cs) ≡ number_length cs = number_split cs in
    elim (is_digit_char c) as (λ (t : Bool). (if t then suc (digits_length cs) else 0) + fraction_length (drop (if t then suc (digits_length cs) else 0) (c ∷ cs))
    ≡ (if t then suc (number_length cs) else fraction_length (c ∷ cs))) [ true ↦ omega (arith, further) | false ↦ omega arith ]

abbrev shifted : ℕ → Option ℕ → Option ℕ
shifted n None = None
shifted n (Some k) = Some (n + k)

shifted_one : (n : ℕ) (o : Option ℕ) → shifted (n + 1) o ≡ shifted n (option_map (λ k. suc k) o)
shifted_one n None = refl
shifted_one n (Some k) = let same : n + 1 + k ≡ n + suc k = omega arith in ap (λ (x : ℕ). Some x) same

shifted_two : (n : ℕ) (o : Option ℕ) → shifted (n + 1 + 1) o ≡ shifted n (option_map (λ k. suc (suc k)) o)
shifted_two n None = refl
shifted_two n (Some k) = let same : n + 1 + 1 + k ≡ n + suc (suc k) = omega arith in ap (λ (x : ℕ). Some x) same

here : (n : ℕ) → ◌≡◌ {A = Option ℕ} (Some (n + 1 - 1)) (Some (n + 0))
here n = let same : n + 1 - 1 ≡ n + 0 = omega arith in ap (λ (x : ℕ). Some x) same

closing_shift : (m n : ℕ) (cs : List Placed) → closing_from m false n cs ≡ shifted n (closing m cs)
closing_shift m n [] = refl
closing_shift m n (c ∷ []) =
    elim (c.byte == m) as (λ (t : Bool). closing_from m (t && true) (n + 1) [] ≡ shifted n (if t then Some 0 else None)) [ true ↦ here n | false ↦ refl ]
closing_shift m n (c ∷ d ∷ cs) =
    let one : closing_from m false (n + 1) (d ∷ cs) ≡ shifted (n + 1) (closing m (d ∷ cs)) = closing_shift m (n + 1) (d ∷ cs) in
    let two : closing_from m false (n + 1 + 1) cs ≡ shifted (n + 1 + 1) (closing m cs) = closing_shift m (n + 1 + 1) cs in
    elim (c.byte == m) as (λ (t : Bool). closing_from m (t && true) (n + 1) (d ∷ cs)
    ≡ shifted n (if t then (if d.byte == m then option_map (λ k. suc (suc k)) (closing m cs) else Some 0) else option_map (λ k. suc k) (closing m (d ∷ cs)))) [
      | true ↦ elim (d.byte == m) as (λ (u : Bool). (if true && not u then Some (n + 1 - 1) else closing_from m (u && false) (n + 1 + 1) cs)
          ≡ shifted n (if u then option_map (λ k. suc (suc k)) (closing m cs) else Some 0)) [ true ↦ two ∙ shifted_two n (closing m cs) | false ↦ here n ]
      | false ↦ one ∙ shifted_one n (closing m (d ∷ cs))
    ]

unshifted : (o : Option ℕ) → shifted 0 o ≡ o
unshifted None = refl
unshifted (Some k) = let same : 0 + k ≡ k = omega arith in ap (λ (x : ℕ). Some x) same

pub closing_halves : (m : ℕ) (cs : List Placed) → closing_from m false 0 cs ≡ closing m cs
closing_halves m cs = closing_shift m 0 cs ∙ unshifted (closing m cs)

pub content_halves : (m : ℕ) (text : List ℕ) (cs : List Placed) → content_from m false text cs ≡ text ++ content m cs
content_halves m text [] = sym (append-nil text)
content_halves m text (c ∷ []) =
    elim (c.byte == m) as (λ (t : Bool). (if t && false then text else text ++ (c.byte ∷ [])) ≡ text ++ (c.byte ∷ [])) [ true ↦ refl | false ↦ refl ]
content_halves m text (c ∷ d ∷ cs) =
    let longer : List ℕ = text ++ (c.byte ∷ []) in
    let one : content_from m false longer (d ∷ cs) ≡ longer ++ content m (d ∷ cs) = content_halves m longer (d ∷ cs) in
    let two : content_from m false longer cs ≡ longer ++ content m cs = content_halves m longer cs in
    elim (c.byte == m) as (λ (t : Bool). content_from m (t && true) (put text (t && false) c.byte) (d ∷ cs)
    ≡ text ++ (if t && d.byte == m then c.byte ∷ content m cs else c.byte ∷ content m (d ∷ cs))) [
      | true ↦ elim (d.byte == m) as (λ (u : Bool). content_from m (u && true) (put longer (u && false) d.byte) cs ≡ longer ++ content m (d ∷ cs)
          → content_from m (u && false) (put longer (u && true) d.byte) cs ≡ text ++ (if true && u then c.byte ∷ content m cs else c.byte ∷ content m (d ∷ cs))) [
            | true ↦ λ e. two ∙ append_assoc text (c.byte ∷ []) (content m cs)
            | false ↦ λ e. e ∙ append_assoc text (c.byte ∷ []) (content m (d ∷ cs))
          ] one
      | false ↦ one ∙ append_assoc text (c.byte ∷ []) (content m (d ∷ cs))
    ]

count_halves : (m n : ℕ) (cs : List Placed) → content_count_from m false n cs ≡ n + length (content m cs)
count_halves m n [] = omega arith
count_halves m n (c ∷ []) =
    elim (c.byte == m) as (λ (t : Bool). (if not (t && false) then n + 1 else n) ≡ n + length (c.byte ∷ [])) [ true ↦ omega arith | false ↦ omega arith ]
count_halves m n (c ∷ d ∷ cs) =
    let one : content_count_from m false (n + 1) (d ∷ cs) ≡ n + 1 + length (content m (d ∷ cs)) = count_halves m (n + 1) (d ∷ cs) in
    let two : content_count_from m false (n + 1) cs ≡ n + 1 + length (content m cs) = count_halves m (n + 1) cs in
    elim (c.byte == m) as (λ (t : Bool). content_count_from m (t && true) (if not (t && false) then n + 1 else n) (d ∷ cs)
    ≡ n + length (if t && d.byte == m then c.byte ∷ content m cs else c.byte ∷ content m (d ∷ cs))) [
      | true ↦ elim (d.byte == m) as (λ (u : Bool). content_count_from m (u && true) (if not (u && false) then n + 1 + 1 else n + 1) cs ≡ n + 1 + length (content m (d ∷ cs))
          → content_count_from m (u && false) (if not (u && true) then n + 1 + 1 else n + 1) cs
          ≡ n + length (if true && u then c.byte ∷ content m cs else c.byte ∷ content m (d ∷ cs))) [
            | true ↦ λ e. omega (arith, two)
            | false ↦ λ e. omega (arith, e)
          ] one
      | false ↦ omega (arith, one)
    ]

pub counted : (m : ℕ) (cs : List Placed) → content_count_from m false 0 cs ≡ length (content m cs)
counted m cs = omega (arith, count_halves m 0 cs)

pub number_at : (rest : List Placed) (whole fraction : ℕ) → whole ≡ digits_length rest → fraction ≡ fraction_length (take (length rest - whole) (drop whole rest))
    → whole + fraction ≡ number_length rest
number_at rest whole fraction e f =
    let fits : length (drop whole rest) ≤ length rest - whole = omega (arith, length-drop whole rest) in
    let all : take (length rest - whole) (drop whole rest) ≡ drop whole rest = take_all (length rest - whole) (drop whole rest) fits in
    ap (λ (n : ℕ). whole + n) (f ∙ ap (λ (xs : List Placed). fraction_length xs) all)
    ∙ ap (λ (n : ℕ). n + fraction_length (drop n rest)) e
    ∙ number_split rest
