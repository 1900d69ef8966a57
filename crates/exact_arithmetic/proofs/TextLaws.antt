-- Laws of texts that are compared with spaces behind them.
use Rattle.std.proofs.Common.{◌≡◌, ℕ, suc, ◌+◌, ◌-◌, ◌<◌, ◌≤◌, List, [], ◌∷◌, ◌++◌, length, take, drop, get_or, replicate, refl, sym, ap, ◌∙◌, inl, inr, arith}
use Rattle.std.specs.declared.cmp.Ordering.{Ordering}
use Rattle.std.specs.declared.cmp.Ordering.TheVariants.{Less, Equal, Greater}
use Rattle.std.specs.Ordering.{nat_cmp, ordering_then}
use Rattle.std.specs.Cmp.Lexicographic.{slice_cmp}
use Rattle.std.proofs.lemmas.Bool.{cases_lt, cond-true, cond-false, lt-ltb, le-ltb, ne_eqb, eq-eqb}
use Rattle.std.proofs.lemmas.List.{append-nil, append_assoc, length-append, length-take, take-append-drop, drop_more}
use Rattle.byte_lists.specs.Text.{filled, text_cmp}

filled-whole : (n : ℕ) (xs : List ℕ) → n ≤ length xs → filled n xs ≡ xs
filled-whole n xs h = let none : n - length xs ≡ 0 = omega arith in ap (λ k. xs ++ replicate k 32) none ∙ append-nil xs

-- texts of one length need no spaces
pub text_cmp-same : (xs ys : List ℕ) → length xs ≡ length ys → text_cmp xs ys ≡ slice_cmp nat_cmp xs ys
text_cmp-same xs ys h =
    ap (λ (zs : List ℕ). slice_cmp nat_cmp zs (filled (length xs) ys)) (filled-whole (length ys) xs (omega arith)) ∙ ap (slice_cmp nat_cmp xs) (filled-whole (length xs) ys (omega arith))

ordering_then_assoc : (a b c : Ordering) → ordering_then (ordering_then a b) c ≡ ordering_then a (ordering_then b c)
ordering_then_assoc Less b c = refl
ordering_then_assoc Equal b c = refl
ordering_then_assoc Greater b c = refl

slice_cmp-append : (front bs cs ds : List ℕ) → length front ≡ length cs → slice_cmp nat_cmp (front ++ bs) (cs ++ ds) ≡ ordering_then (slice_cmp nat_cmp front cs) (slice_cmp nat_cmp bs ds)
slice_cmp-append [] bs [] ds h = refl
slice_cmp-append [] bs (c ∷ cs) ds h = absurd (omega arith)
slice_cmp-append (a ∷ front) bs [] ds h = absurd (omega arith)
slice_cmp-append (a ∷ front) bs (c ∷ cs) ds h =
    ap (ordering_then (nat_cmp a c)) (slice_cmp-append front bs cs ds (omega arith)) ∙ sym (ordering_then_assoc (nat_cmp a c) (slice_cmp nat_cmp front cs) (slice_cmp nat_cmp bs ds))

filled-append : (n : ℕ) (xs ys : List ℕ) → filled (length xs + n) (xs ++ ys) ≡ xs ++ filled n ys
filled-append n xs ys =
    let rest : length xs + n - length (xs ++ ys) ≡ n - length ys = omega (arith, length-append xs ys) in
    ap (λ k. (xs ++ ys) ++ replicate k 32) rest ∙ append_assoc xs ys (replicate (n - length ys) 32)

-- fronts of one length are compared first
pub text_cmp-fronts : (front bs cs ds : List ℕ) → length front ≡ length cs → text_cmp (front ++ bs) (cs ++ ds) ≡ ordering_then (slice_cmp nat_cmp front cs) (text_cmp bs ds)
text_cmp-fronts front bs cs ds h =
    let right : length (cs ++ ds) ≡ length front + length ds = omega (arith, length-append cs ds) in
    let left : length (front ++ bs) ≡ length cs + length bs = omega (arith, length-append front bs) in
    ap (λ n. slice_cmp nat_cmp (filled n (front ++ bs)) (filled (length (front ++ bs)) (cs ++ ds))) right
    ∙ ap (λ n. slice_cmp nat_cmp (filled (length front + length ds) (front ++ bs)) (filled n (cs ++ ds))) left
    ∙ ap (λ (zs : List ℕ). slice_cmp nat_cmp zs (filled (length cs + length bs) (cs ++ ds))) (filled-append (length ds) front bs)
    ∙ ap (slice_cmp nat_cmp (front ++ filled (length ds) bs)) (filled-append (length bs) cs ds)
    ∙ slice_cmp-append front (filled (length ds) bs) cs (filled (length bs) ds) h

-- texts cut at a common place
pub text_cmp-cut : (xs ys : List ℕ) (n : ℕ) → n ≤ length xs → n ≤ length ys → text_cmp xs ys ≡ ordering_then (slice_cmp nat_cmp (take n xs) (take n ys)) (text_cmp (drop n xs) (drop n ys))
text_cmp-cut xs ys n hx hy =
    ap (λ (zs : List ℕ). text_cmp zs ys) (sym (take-append-drop n xs)) ∙ ap (text_cmp (take n xs ++ drop n xs)) (sym (take-append-drop n ys))
    ∙ text_cmp-fronts (take n xs) (drop n xs) (take n ys) (drop n ys) (omega (arith, length-take n xs, length-take n ys))

ordering_then-apart : (x y : ℕ) (o : Ordering) → (x ≡ y → ⊥) → ordering_then (nat_cmp x y) o ≡ nat_cmp x y
ordering_then-apart x y o apart =
    elim (cases_lt x y) [
      | inl less ↦ ap (λ (t : Ordering). ordering_then t o) (is_less less) ∙ sym (is_less less)
      | inr other ↦ ap (λ (t : Ordering). ordering_then t o) (is_greater other) ∙ sym (is_greater other)
    ]
  where
    is_less : x < y → nat_cmp x y ≡ Less
    is_less less = cond-true _ _ _ (lt-ltb x y less)

    is_greater : y ≤ x → nat_cmp x y ≡ Greater
    is_greater other = cond-false _ _ _ (le-ltb x y other) ∙ cond-false _ _ _ (ne_eqb x y apart)

nat_cmp-same : (x y : ℕ) → x ≡ y → nat_cmp x y ≡ Equal
nat_cmp-same x y same = cond-false _ _ _ (le-ltb x y (omega arith)) ∙ cond-true _ _ _ (eq-eqb x y same)

-- one byte on, against a byte that is repeated
run_first : (xs : List ℕ) (b i : ℕ) → i < length xs → replicate (length xs - i) b ≡ b ∷ replicate (length xs - (i + 1)) b
run_first xs b i within = let more : length xs - i ≡ suc (length xs - (i + 1)) = omega arith in ap (λ n. replicate n b) more

cmp_run-first : (xs : List ℕ) (b i : ℕ) → i < length xs → slice_cmp nat_cmp (drop i xs) (replicate (length xs - i) b) ≡ ordering_then (nat_cmp (get_or xs i 0) b) (slice_cmp nat_cmp (drop (i + 1) xs) (replicate (length xs - (i + 1)) b))
cmp_run-first xs b i within = ap (λ (zs : List ℕ). slice_cmp nat_cmp zs (replicate (length xs - i) b)) (drop_more xs i 0 within) ∙ ap (slice_cmp nat_cmp (get_or xs i 0 ∷ drop (i + 1) xs)) (run_first xs b i within)

pub cmp_run-apart : (xs : List ℕ) (b i : ℕ) → i < length xs → (get_or xs i 0 ≡ b → ⊥) → slice_cmp nat_cmp (drop i xs) (replicate (length xs - i) b) ≡ nat_cmp (get_or xs i 0) b
cmp_run-apart xs b i within apart = cmp_run-first xs b i within ∙ ordering_then-apart (get_or xs i 0) b _ apart

pub cmp_run-same : (xs : List ℕ) (b i : ℕ) → i < length xs → get_or xs i 0 ≡ b → slice_cmp nat_cmp (drop i xs) (replicate (length xs - i) b) ≡ slice_cmp nat_cmp (drop (i + 1) xs) (replicate (length xs - (i + 1)) b)
cmp_run-same xs b i within same = cmp_run-first xs b i within ∙ ap (λ (o : Ordering). ordering_then o (slice_cmp nat_cmp (drop (i + 1) xs) (replicate (length xs - (i + 1)) b))) (nat_cmp-same (get_or xs i 0) b same)

run_cmp-first : (xs : List ℕ) (b i : ℕ) → i < length xs → slice_cmp nat_cmp (replicate (length xs - i) b) (drop i xs) ≡ ordering_then (nat_cmp b (get_or xs i 0)) (slice_cmp nat_cmp (replicate (length xs - (i + 1)) b) (drop (i + 1) xs))
run_cmp-first xs b i within = ap (slice_cmp nat_cmp (replicate (length xs - i) b)) (drop_more xs i 0 within) ∙ ap (λ (zs : List ℕ). slice_cmp nat_cmp zs (get_or xs i 0 ∷ drop (i + 1) xs)) (run_first xs b i within)

pub run_cmp-apart : (xs : List ℕ) (b i : ℕ) → i < length xs → (get_or xs i 0 ≡ b → ⊥) → slice_cmp nat_cmp (replicate (length xs - i) b) (drop i xs) ≡ nat_cmp b (get_or xs i 0)
run_cmp-apart xs b i within apart = run_cmp-first xs b i within ∙ ordering_then-apart b (get_or xs i 0) _ (λ same. apart (sym same))

pub run_cmp-same : (xs : List ℕ) (b i : ℕ) → i < length xs → get_or xs i 0 ≡ b → slice_cmp nat_cmp (replicate (length xs - i) b) (drop i xs) ≡ slice_cmp nat_cmp (replicate (length xs - (i + 1)) b) (drop (i + 1) xs)
run_cmp-same xs b i within same = run_cmp-first xs b i within ∙ ap (λ (o : Ordering). ordering_then o (slice_cmp nat_cmp (replicate (length xs - (i + 1)) b) (drop (i + 1) xs))) (nat_cmp-same b (get_or xs i 0) (sym same))
