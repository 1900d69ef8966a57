use Rattle.std.proofs.Common.{rules, ◌≡◌, ◌∷◌, [], List, length, get_or, map, sym, ap, ◌∙◌, arith, string_bytes}
use Rattle.annodomini_cli.proofs.command.manifest_of.Goals as goal

-- a list of two
two : {X Y : Type 0} (f : X → Y) (xs : List X) (a b : X) (x y : Y) → length xs ≡ 2 → f (get_or xs 0 a) ≡ x → f (get_or xs 1 b) ≡ y → map f xs ≡ x ∷ y ∷ []
two f [] a b x y len p q = absurd (omega (arith, len))
two f (s ∷ []) a b x y len p q = absurd (omega (arith, len))
two f (s ∷ t ∷ []) a b x y len p q = λ i. p i ∷ q i ∷ []
two f (s ∷ t ∷ u ∷ us) a b x y len p q = absurd (omega (arith, len))

pub returns-clause-found : goal.returns-clause-found
returns-clause-found c = (
  two string_bytes c.args.words.now c.word-item.result c.main-item.result _ _ (omega arith)
      (ap string_bytes (sym c.word-item.is) ∙ sym c.as_str.ensures.value ∙ c.is_form.ensures.0 c.if-not-is_form.false)
      (ap string_bytes (sym c.main-item.is) ∙ sym c.as_str-main.ensures.value),
  search rules,
)
