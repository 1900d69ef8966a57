-- The numbers of a job's programs.
use Rattle.std.proofs.Common.{◌≡◌, ℕ, ◌+◌, ◌<◌, Bool, true, false, List, [], ◌∷◌, ◌++◌, length, Option, Some, None, refl, ap, subst, arith}
use Rattle.std.specs.Prelude.{if◌then◌else◌}
use Rattle.std.specs.List.{AllByRecursion}
use Rattle.std.specs.Str.{bytes_eq}
use Rattle.cobol_syntax.specs.declared.program.Program.{Program}
use Rattle.data_layout.specs.declared.item.Layout.{Layout}
use Rattle.data_layout.specs.declared.portfolio.Portfolio.{Portfolio}
use Rattle.gathered.specs.Sound.{AreLaid, IsSound}
use Rattle.layout_reading.proofs.Numbered.{laid-numbered}
use Rattle.portfolio.specs.declared.manifest.Manifest.{Manifest}
use Rattle.trial_run.specs.Jobs.{HasNumbers, IsNumberIn}
use Rattle.y2k_base.specs.declared.place.AreaId.{AreaId}
use Rattle.run_command.specs.Jobs.{job_numbers, names_in, number_from, number_then, numbers_if, numbers_of}

-- numbers in front of those that follow
abbrev pub after : List ℕ → Option (List ℕ) → Option (List ℕ)
after found None = None
after found (Some ns) = Some (found ++ ns)

append-one : (xs : List ℕ) (n : ℕ) (ys : List ℕ) → (xs ++ n ∷ []) ++ ys ≡ xs ++ n ∷ ys
append-one [] n ys = refl
append-one (x ∷ xs) n ys = ap (λ (t : List ℕ). x ∷ t) (append-one xs n ys)

pub after-one : (found : List ℕ) (n : ℕ) (rest : Option (List ℕ)) → after (found ++ n ∷ []) rest ≡ after found (number_then (Some n) rest)
after-one found n None = refl
after-one found n (Some ns) = ap (λ (t : List ℕ). Some t) (append-one found n ns)

pub after-nothing : (rest : Option (List ℕ)) → after [] rest ≡ rest
after-nothing None = refl
after-nothing (Some ns) = refl

append-none : (xs : List ℕ) → xs ++ [] ≡ xs
append-none [] = refl
append-none (x ∷ xs) = ap (λ (t : List ℕ). x ∷ t) (append-none xs)

pub after-all : (found : List ℕ) → after found (Some []) ≡ Some found
after-all found = ap (λ (t : List ℕ). Some t) (append-none found)

none-some : {A : Type 0} {x : A} → ◌≡◌ {A = Option A} None (Some x) → ⊥
none-some e = cc e

some-same : {A : Type 0} {x y : A} → ◌≡◌ {A = Option A} (Some x) (Some y) → x ≡ y
some-same e = cc e

number-below : (n : ℕ) (ps : List Program) (name : List ℕ) (k : ℕ) → number_from n ps name ≡ Some k → k < n + length ps
number-below n [] name k e = absurd (none-some e)
number-below n (p ∷ ps) name k e = by_test (bytes_eq p.id name) e (number-below (n + 1) ps name k) where
  by_test : (b : Bool) → (if b then Some n else number_from (n + 1) ps name) ≡ Some k
      → (number_from (n + 1) ps name ≡ Some k → k < n + 1 + length ps) → k < n + length (p ∷ ps)
  by_test true same later = let here : n ≡ k = some-same same in omega (arith, here)
  by_test false same later = let there : k < n + 1 + length ps = later same in omega (arith, there)

from-first : (ps : List Program) (name : List ℕ) (k : ℕ) → number_from 0 ps name ≡ Some k → k < length ps
from-first ps name k e = let below : k < 0 + length ps = number-below 0 ps name k e in omega (arith, below)

abbrev pub IsBelow : ℕ → ℕ → Type 0
IsBelow most n = n < most

then-below : (most : ℕ) (o : Option ℕ) (rest : Option (List ℕ)) (ns : List ℕ)
    → ((k : ℕ) → o ≡ Some k → k < most) → ((ms : List ℕ) → rest ≡ Some ms → AllByRecursion (IsBelow most) ms)
    → number_then o rest ≡ Some ns → AllByRecursion (IsBelow most) ns
then-below most None rest ns first others e = absurd (none-some e)
then-below most (Some n) None ns first others e = absurd (none-some e)
then-below most (Some n) (Some ms) ns first others e = subst (AllByRecursion (IsBelow most)) (some-same e) (first n refl, others ms refl)

numbers-below : (ps : List Program) (names : List (List ℕ)) (ns : List ℕ) → numbers_of ps names ≡ Some ns → AllByRecursion (IsBelow (length ps)) ns
numbers-below ps [] ns e = subst (AllByRecursion (IsBelow (length ps))) (some-same e) tt
numbers-below ps (name ∷ names) ns e =
    then-below (length ps) (number_from 0 ps name) (numbers_of ps names) ns (from-first ps name) (numbers-below ps names) e

if-below : (ps : List Program) (names : Option (List (List ℕ))) (ns : List ℕ) → numbers_if ps names ≡ Some ns → AllByRecursion (IsBelow (length ps)) ns
if-below ps None ns e = absurd (none-some e)
if-below ps (Some names) ns e = numbers-below ps names ns e

laid-length : (first : AreaId) (ps : List Program) (ls : List Layout) → AreLaid first ps ls → length ps ≡ length ls
laid-length first [] [] laid = refl
laid-length first [] (l ∷ ls) laid = absurd laid
laid-length first (p ∷ ps) [] laid = absurd laid
laid-length first (p ∷ ps) (l ∷ ls) laid =
    let same : length ps ≡ length ls = laid-length (record { 0 = first.0 + length l.areas }) ps ls laid.1 in omega (arith, same)

both-below : (p : Portfolio) (ns : List ℕ) → length p.programs ≡ length p.layouts → AllByRecursion (IsBelow (length p.programs)) ns → AllByRecursion (IsNumberIn p) ns
both-below p [] same all = tt
both-below p (n ∷ ns) same all =
    let first : n < length p.programs = all.0 in
    let second : n < length p.layouts = omega (arith, first, same) in
    (record { program = first; layout = second }, both-below p ns same all.1)

-- the numbers of a job are those of programs of a sound portfolio
pub numbers-in : (m : Manifest) (p : Portfolio) (job ns : List ℕ) → IsSound p → job_numbers m p.programs job ≡ Some ns → AllByRecursion (IsNumberIn p) ns
numbers-in m p job ns sound e =
    both-below p ns (laid-length (record { 0 = 0 }) p.programs p.layouts sound.laid) (if-below p.programs (names_in m.jobs job) ns e)

laid-numbers : (first : AreaId) (ps : List Program) (ls : List Layout) → AreLaid first ps ls → AllByRecursion HasNumbers ls
laid-numbers first [] [] laid = tt
laid-numbers first [] (l ∷ ls) laid = absurd laid
laid-numbers first (p ∷ ps) [] laid = absurd laid
laid-numbers first (p ∷ ps) (l ∷ ls) laid =
    (laid-numbered first p l laid.0.0, laid-numbers (record { 0 = first.0 + length l.areas }) ps ls laid.1)

-- the areas of each layout of a sound portfolio follow one another
pub sound-numbers : (p : Portfolio) → IsSound p → AllByRecursion HasNumbers p.layouts
sound-numbers p sound = laid-numbers (record { 0 = 0 }) p.programs p.layouts sound.laid
