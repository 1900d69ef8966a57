-- What the loops of the code count, as far as they have come. `proofs/` ties each to the words of `Columns` and `Runs`.
use Rattle.std.specs.Prelude.{ℕ, ◌+◌, ◌-◌, Bool, not, ◌&&◌, ◌==◌, if◌then◌else◌, List, [], ◌∷◌, ◌++◌, Option, Some, None}
use Rattle.fixed_format.specs.declared.runs.Placed.{Placed}

-- without the spaces that stand first
abbrev pub without_spaces : List ℕ → List ℕ
without_spaces [] = []
without_spaces (b ∷ bs) = if b == 32 then without_spaces bs else b ∷ bs

-- n and the characters before the closing mark; half is true right behind a mark that closes unless another follows
abbrev pub closing_from : ℕ → Bool → ℕ → List Placed → Option ℕ
closing_from mark half n [] = if half then Some (n - 1) else None
closing_from mark half n (c ∷ cs) =
    if half && not (c.byte == mark) then Some (n - 1) else closing_from mark (c.byte == mark && not half) (n + 1) cs

-- n and the characters of a literal, a doubled mark being one; half is true right behind a first mark
abbrev pub content_count_from : ℕ → Bool → ℕ → List Placed → ℕ
content_count_from mark half n [] = n
content_count_from mark half n (c ∷ cs) =
    content_count_from mark (c.byte == mark && not half) (if not (c.byte == mark && half) then n + 1 else n) cs

abbrev pub put : List ℕ → Bool → ℕ → List ℕ
put text skips b = if skips then text else text ++ (b ∷ [])

abbrev pub content_from : ℕ → Bool → List ℕ → List Placed → List ℕ
content_from mark half text [] = text
content_from mark half text (c ∷ cs) = content_from mark (c.byte == mark && not half) (put text (c.byte == mark && half) c.byte) cs
