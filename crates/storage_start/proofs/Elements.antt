-- Bytes written at each occurrence, element by element.
use Rattle.std.proofs.Common.{◌≡◌, ℕ, zero, suc, ◌+◌, ◌*◌, List, [], ◌∷◌, ◌++◌, append_assoc, refl, sym, ap, ◌∙◌, arith}
use Rattle.std.proofs.lemmas.List.{append-nil}
use Rattle.program_meaning.specs.Start.{spread}
use Rattle.program_meaning.specs.Storage as meant
use Rattle.program_meaning.specs.Storage.{write}
use Rattle.storage_start.specs.Writes.{writes}

next-offset : (o n size : ℕ) → (o + size) + n * size ≡ o + suc n * size
next-offset o n size = grind arith

-- the last of one element more
pub spread-more : (f : ℕ → List ℕ) (size n o : ℕ) → spread f size (suc n) o ≡ spread f size n o ++ f (o + n * size)
spread-more f size zero o =
    let here : o ≡ o + 0 * size = omega arith in
    append-nil (f o) ∙ ap f here
spread-more f size (suc n) o =
    ap (λ (os : List ℕ). f o ++ os) (spread-more f size n (o + size))
    ∙ sym (append_assoc (f o) (spread f size n (o + size)) (f ((o + size) + n * size)))
    ∙ ap (λ (k : ℕ). (f o ++ spread f size n (o + size)) ++ f k) (next-offset o n size)

module _ (area count : ℕ) (bytes : List ℕ) where
  writes-append : (store : meant.Storage) (xs ys : List ℕ) → writes area count store (xs ++ ys) bytes ≡ writes area count (writes area count store xs bytes) ys bytes
  writes-append store [] ys = refl
  writes-append store (x ∷ xs) ys = writes-append (write store (record { area = area; start = x; count = count }) bytes) xs ys

  pub one-element : (store now new : meant.Storage) (f : ℕ → List ℕ) (size k o : ℕ) → now ≡ writes area count store (spread f size k o) bytes
      → new ≡ writes area count now (f (o + k * size)) bytes → new ≡ writes area count store (spread f size (k + 1) o) bytes
  one-element store now new f size k o before this =
      let next : suc k ≡ k + 1 = omega arith in
      this ∙ ap (λ (s : meant.Storage). writes area count s (f (o + k * size)) bytes) before
      ∙ sym (writes-append store (spread f size k o) (f (o + k * size)))
      ∙ ap (λ (os : List ℕ). writes area count store os bytes) (sym (spread-more f size k o))
      ∙ ap (λ (n : ℕ). writes area count store (spread f size n o) bytes) next
