use Rattle.std.proofs.Common.{◌≡◌, ◌∷◌, [], List, length, get_or, map, sym, ap, ◌∙◌, arith, string_bytes}
use Rattle.annodomini_cli.proofs.write_words.three_of.Goals as goal

-- a list of three
three : {X Y : Type 0} (f : X → Y) (xs : List X) (a b c : X) (x y z : Y) → length xs ≡ 3 → f (get_or xs 0 a) ≡ x → f (get_or xs 1 b) ≡ y → f (get_or xs 2 c) ≡ z → map f xs ≡ x ∷ y ∷ z ∷ []
three f [] a b c x y z len p q r = absurd (omega (arith, len))
three f (s ∷ []) a b c x y z len p q r = absurd (omega (arith, len))
three f (s ∷ t ∷ []) a b c x y z len p q r = absurd (omega (arith, len))
three f (s ∷ t ∷ u ∷ []) a b c x y z len p q r = λ i. p i ∷ q i ∷ r i ∷ []
three f (s ∷ t ∷ u ∷ v ∷ vs) a b c x y z len p q r = absurd (omega (arith, len))

pub returns-clause-found : goal.returns-clause-found
returns-clause-found c =
    three string_bytes c.args.words.now c.form-item.result c.object-item.result c.out-item.result _ _ _ (omega arith)
    (ap string_bytes (sym c.form-item.is) ∙ sym c.as_str.ensures.value)
    (ap string_bytes (sym c.object-item.is) ∙ sym c.as_str-2.ensures.value)
    (ap string_bytes (sym c.out-item.is) ∙ sym c.as_str-3.ensures.value)
