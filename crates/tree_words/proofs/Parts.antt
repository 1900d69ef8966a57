-- What every production has: it takes a word at least, or none, and where it has ended within the words its tree fits.
use Rattle.std.proofs.Common.{ℕ, ◌<◌, ◌≤◌, nat_lt, nat_le, ◌≡◌, refl, Bool, true, ◌&&◌, List, [], ◌∷◌, ◌++◌, map, arith}
use Rattle.std.proofs.lemmas.Bool.{and_from, and_parts, lt-ltb, le-leb}
use Rattle.cond_reader.specs.Grammar.{Many, Chain, stop, more}
use Rattle.tree_words.specs.Fits.{all_true, is_part}

-- a production that takes a word
pub record Taken (words i j : ℕ) (fits : Bool) : Type 0 where
  pub grows : i < j
  pub fit : j ≤ words → fits ≡ true

-- one that may be left out
pub record Passed (words i j : ℕ) (fits : Bool) : Type 0 where
  pub grows : i ≤ j
  pub fit : j ≤ words → fits ≡ true

-- a production that takes a word, and whose tree fits if what stands before does
pub record TakenBy (words i j : ℕ) (before fits : Bool) : Type 0 where
  pub grows : i < j
  pub fit : j ≤ words → before ≡ true → fits ≡ true

-- one that may be left out
pub record PassedBy (words i j : ℕ) (before fits : Bool) : Type 0 where
  pub grows : i ≤ j
  pub fit : j ≤ words → before ≡ true → fits ≡ true

pub and_3 : (x y z : Bool) → x ≡ true → y ≡ true → z ≡ true → (x && (y && z)) ≡ true
and_3 x y z a b c = and_from x (y && z) a (and_from y z b c)

module _ {A : Type 0} (fits : A → Bool) where
  pub all-last : (xs : List A) (x : A) → all_true (map fits xs) ≡ true → fits x ≡ true → all_true (map fits (xs ++ x ∷ [])) ≡ true
  all-last [] x some last = and_from (fits x) true last refl
  all-last (y ∷ xs) x some last =
      let (first, others) = and_parts (fits y) (all_true (map fits xs)) some in
      and_from (fits y) (all_true (map fits (xs ++ x ∷ []))) first (all-last xs x others last)

  pub all-joined : (xs ys : List A) → all_true (map fits xs) ≡ true → all_true (map fits ys) ≡ true → all_true (map fits (xs ++ ys)) ≡ true
  all-joined [] ys some others = others
  all-joined (x ∷ xs) ys some others =
      let (first, behind) = and_parts (fits x) (all_true (map fits xs)) some in
      and_from (fits x) (all_true (map fits (xs ++ ys))) first (all-joined xs ys behind others)

  pub all-one : (x : A) → fits x ≡ true → all_true (map fits (x ∷ [])) ≡ true
  all-one x fit = and_from (fits x) true fit refl

module _ (words : ℕ) where
  pub part-taken : (i j : ℕ) → i < j → j ≤ words → is_part words i j ≡ true
  part-taken i j grows within = and_from (nat_lt i words) (nat_le j words) (lt-ltb i words (omega (arith, grows, within))) (le-leb j words within)

  pub word-taken : (i j : ℕ) → i < j → j ≤ words → nat_lt i words ≡ true
  word-taken i j grows within = lt-ltb i words (omega (arith, grows, within))

  -- items one after the other
  module _ {A B : Type 0} {Item : ℕ → ℕ → B → Type 0} {add : A → B → A} (fits_all : A → Bool) (fits_one : B → Bool)
      (item : (i j : ℕ) (b : B) → Item i j b → Taken words i j (fits_one b))
      (added : (a : A) (b : B) → fits_all a ≡ true → fits_one b ≡ true → fits_all (add a b) ≡ true)
    where
      pub many-grows : {a c : A} {i j : ℕ} → Many Item add a i j c → i ≤ j
      many-grows stop = omega arith
      many-grows (more {i = i} {k = k} {b = b} one others) = omega (arith, (item i k b one).grows, many-grows others)

      pub many-fits : {a c : A} {i j : ℕ} → Many Item add a i j c → j ≤ words → fits_all a ≡ true → fits_all c ≡ true
      many-fits stop within fit = fit
      many-fits (more {a = a} {i = i} {k = k} {b = b} one others) within fit =
          many-fits others within (added a b fit ((item i k b one).fit (omega (arith, many-grows others, within))))

      pub chain-taken : {C : Type 0} {First : ℕ → ℕ → C → Type 0} {start : C → A} (fits_first : C → Bool)
          → ((i j : ℕ) (x : C) → First i j x → Taken words i j (fits_first x))
          → ((x : C) → fits_first x ≡ true → fits_all (start x) ≡ true)
          → (i j : ℕ) (a : A) → Chain First start Item add i j a → Taken words i j (fits_all a)
      chain-taken fits_first first started i j a w = record {
        grows = omega (arith, (first i w.middle w.first w.one).grows, many-grows w.others);
        fit = λ within. many-fits w.others within (started w.first ((first i w.middle w.first w.one).fit (omega (arith, many-grows w.others, within))));
      }
