-- The clashes of programs, one program after the other.
use Rattle.std.proofs.Common.{◌≡◌, ℕ, ◌+◌, ◌<◌, arith, length, List, [], ◌∷◌, ◌++◌, Option, refl, sym, ap, ◌∙◌, subst}
use Rattle.std.proofs.lemmas.List.{append-nil, append_assoc}
use Rattle.copy_origins.specs.declared.books.Book.{Book}
use Rattle.plan_limits.specs.declared.limit.Limit.{Limit}
use Rattle.y2k_base.specs.declared.edit.WordPlace.{WordPlace}
use Rattle.y2k_base.specs.declared.word.Word.{Word}
use Rattle.source_edit.specs.declared.expansion.Source.{Source}
use Rattle.source_edit.specs.Expansions.{AddsClash, AreProgramClashes}

module _ (replacement : WordPlace → Option (List Word)) (books new_books : List Book) (all news : List Source) where
  -- what the rest of the programs has goes behind what was found so far
  abbrev pub LeadsTo : ℕ → List Source → List Source → List Limit → Type 0
  LeadsTo n ss ts found =
      (others : List Limit) → AreProgramClashes replacement books new_books n ss ts others → AreProgramClashes replacement books new_books 0 all news (found ++ others)

  pub one_more : (n : ℕ) (s t : Source) (ss ts : List Source) (before after : List Limit) → LeadsTo n (s ∷ ss) (t ∷ ts) before → AddsClash replacement n s books t new_books before after → LeadsTo (n + 1) ss ts after
  one_more n s t ss ts before after lead adds others are =
      subst (λ (xs : List Limit). AreProgramClashes replacement books new_books 0 all news xs)
      (sym (append_assoc before adds.0 others) ∙ ap (λ (xs : List Limit). xs ++ others) (sym adds.2))
      (lead (adds.0 ++ others) (adds.0, others, adds.1, are, refl))

  pub at_end : (n : ℕ) (ts : List Source) (found : List Limit) → LeadsTo n [] ts found → AreProgramClashes replacement books new_books 0 all news found
  at_end n ts found lead = subst (λ (xs : List Limit). AreProgramClashes replacement books new_books 0 all news xs) (append-nil found) (lead [] refl)

  pub one_more_at : (n next : ℕ) (rest others ss ts : List Source) (s t : Source) (before after : List Limit) → LeadsTo n rest others before → rest ≡ s ∷ ss → others ≡ t ∷ ts → next ≡ n + 1
      → AddsClash replacement n s books t new_books before after → LeadsTo next ss ts after
  one_more_at n next rest others ss ts s t before after lead e f g adds =
      let here : LeadsTo n (s ∷ ss) (t ∷ ts) before = subst (λ (xs : List Source). LeadsTo n (s ∷ ss) xs before) f (subst (λ (xs : List Source). LeadsTo n xs others before) e lead) in
      subst (λ (m : ℕ). LeadsTo m ss ts after) (sym g) (one_more n s t ss ts before after here adds)

  pub at_end_at : (n : ℕ) (rest others : List Source) (found : List Limit) → LeadsTo n rest others found → length rest < 1 → AreProgramClashes replacement books new_books 0 all news found
  at_end_at n [] others found lead h = at_end n others found lead
  at_end_at n (s ∷ ss) others found lead h = absurd (omega (arith, h))
