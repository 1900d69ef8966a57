-- Tests of where years begin and end.
use Rattle.std.proofs.Common.{◌≡◌, ◌⊎◌, ℕ, ◌<◌, ◌≤◌, true, false, ◌&&◌, ◌||◌, not, ltb, leb, eqb, inl, inr, arith}
use Rattle.std.proofs.lemmas.Bool.Decides.{nat_tests}

-- a year that has ended by an offset has none of the bytes from there on
pub ended_covers : (a A o O e : ℕ) → (ltb a A || (eqb a A && leb e O)) ≡ true → (eqb a A && (leb o O && ltb O e)) ≡ false
ended_covers a A o O e h = grind (arith, nat_tests)

pub ended_across : (a A o O e : ℕ) → (ltb a A || (eqb a A && leb e O)) ≡ true → (eqb a A && (ltb o O && ltb O e)) ≡ false
ended_across a A o O e h = grind (arith, nat_tests)

-- behind a year that has not ended none begins
pub later_covers : (a A e O b o f : ℕ) → (ltb a A || (eqb a A && leb e O)) ≡ false → (a < b) ⊎ ((a ≡ b) × (e ≤ o)) → (eqb b A && (leb o O && ltb O f)) ≡ false
later_covers a A e O b o f h (inl l) = grind (arith, nat_tests)
later_covers a A e O b o f h (inr s) = grind (arith, nat_tests)

pub later_across : (a A e O b o f : ℕ) → (ltb a A || (eqb a A && leb e O)) ≡ false → (a < b) ⊎ ((a ≡ b) × (e ≤ o)) → (eqb b A && (ltb o O && ltb O f)) ≡ false
later_across a A e O b o f h (inl l) = grind (arith, nat_tests)
later_across a A e O b o f h (inr s) = grind (arith, nat_tests)

-- what stands before a year that has ended, has ended too
pub earlier_ended : (a A e O b o f : ℕ) → (a < b) ⊎ ((a ≡ b) × (e ≤ o)) → o ≤ f → (ltb b A || (eqb b A && leb f O)) ≡ true → (ltb a A || (eqb a A && leb e O)) ≡ true
earlier_ended a A e O b o f (inl l) low h = grind (arith, nat_tests)
earlier_ended a A e O b o f (inr s) low h = grind (arith, nat_tests)

pub earlier_begun : (a A s e O b o : ℕ) → (a < b) ⊎ ((a ≡ b) × (e ≤ o)) → s ≤ e → (ltb b A || (eqb b A && ltb o O)) ≡ true → (ltb a A || (eqb a A && ltb s O)) ≡ true
earlier_begun a A s e O b o (inl l) low h = grind (arith, nat_tests)
earlier_begun a A s e O b o (inr t) low h = grind (arith, nat_tests)

pub ended_begun : (a A o e O P : ℕ) → o < e → O ≤ P → (ltb a A || (eqb a A && leb e O)) ≡ true → (ltb a A || (eqb a A && ltb o P)) ≡ true
ended_begun a A o e O P l m h = grind (arith, nat_tests)

-- a year has a byte in a span if it begins before its end, and has not ended by its start
pub met : (a A o e O P : ℕ) → (eqb a A && (ltb o P && ltb O e)) ≡ (not (ltb a A || (eqb a A && leb e O)) && (ltb a A || (eqb a A && ltb o P)))
met a A o e O P = grind (arith, nat_tests)
