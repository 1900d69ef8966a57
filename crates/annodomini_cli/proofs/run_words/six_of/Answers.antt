use Rattle.std.proofs.Common.{◌≡◌, ◌∷◌, [], List, length, get_or, map, sym, ap, ◌∙◌, arith, string_bytes}
use Rattle.annodomini_cli.proofs.run_words.six_of.Goals as goal

-- a list of six
six : {X Y : Type 0} (f : X → Y) (xs : List X) (a b c d e g : X) (u v w x y z : Y) → length xs ≡ 6
    → f (get_or xs 0 a) ≡ u → f (get_or xs 1 b) ≡ v → f (get_or xs 2 c) ≡ w → f (get_or xs 3 d) ≡ x → f (get_or xs 4 e) ≡ y → f (get_or xs 5 g) ≡ z
    → map f xs ≡ u ∷ v ∷ w ∷ x ∷ y ∷ z ∷ []
six f [] a b c d e g u v w x y z len p q r s t o = absurd (omega (arith, len))
six f (h ∷ []) a b c d e g u v w x y z len p q r s t o = absurd (omega (arith, len))
six f (h ∷ i ∷ []) a b c d e g u v w x y z len p q r s t o = absurd (omega (arith, len))
six f (h ∷ i ∷ j ∷ []) a b c d e g u v w x y z len p q r s t o = absurd (omega (arith, len))
six f (h ∷ i ∷ j ∷ k ∷ []) a b c d e g u v w x y z len p q r s t o = absurd (omega (arith, len))
six f (h ∷ i ∷ j ∷ k ∷ l ∷ []) a b c d e g u v w x y z len p q r s t o = absurd (omega (arith, len))
six f (h ∷ i ∷ j ∷ k ∷ l ∷ m ∷ []) a b c d e g u v w x y z len p q r s t o = λ n. p n ∷ q n ∷ r n ∷ s n ∷ t n ∷ o n ∷ []
six f (h ∷ i ∷ j ∷ k ∷ l ∷ m ∷ n ∷ ns) a b c d e g u v w x y z len p q r s t o = absurd (omega (arith, len))

pub returns-clause-found : goal.returns-clause-found
returns-clause-found c =
    six string_bytes c.args.words.now c.form-item.result c.main-item.result c.job-item.result c.date-item.result c.number-item.result c.out-item.result _ _ _ _ _ _ (omega arith)
    (ap string_bytes (sym c.form-item.is) ∙ sym c.as_str.ensures.value)
    (ap string_bytes (sym c.main-item.is) ∙ sym c.as_str-2.ensures.value)
    (ap string_bytes (sym c.job-item.is) ∙ sym c.as_str-3.ensures.value)
    (ap string_bytes (sym c.date-item.is) ∙ sym c.as_str-4.ensures.value)
    (ap string_bytes (sym c.number-item.is) ∙ sym c.as_str-5.ensures.value)
    (ap string_bytes (sym c.out-item.is) ∙ sym c.as_str-6.ensures.value)
