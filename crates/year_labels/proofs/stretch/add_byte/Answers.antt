use Rattle.std.proofs.Common.{◌≡◌, ℕ, ◌-◌, take, List, ◌++◌, ◌∷◌, [], sym, ap, ◌∙◌, subst}
use Rattle.std.proofs.lemmas.List.{append-nil}
use Rattle.year_labels.specs.declared.stretch.Stretch.{Stretch}
use Rattle.year_labels.specs.Stretches.{AreStretchesOf, AreRead}
use Rattle.year_labels.proofs.Stretches.{stretches_first}
use Rattle.year_labels.proofs.stretch.add_byte.Goals as goal

pub returns-in_ok-join_byte-in-Some : goal.returns-in_ok-join_byte-in-Some
returns-in_ok-join_byte-in-Some c = λ facts a.
    c.in_ok-join_byte-in-Some.ensures facts
    (subst (λ (ss : List Stretch). AreRead facts ss c.args.byte) (c.in-Some.ensures.items) a)

pub returns-in_ok-push-in-None : goal.returns-in_ok-push-in-None
returns-in_ok-push-in-None c = λ facts a.
    let empty : c.pop.new.self.items ≡ [] = c.in-None.ensures.rest ∙ ap (λ (n : ℕ). take (n - 1) c.args.stretches.now.items) c.in-None.ensures.cases.0 in
    subst (λ (ss : List Stretch). AreStretchesOf facts ss) (sym (c.in_ok-push-in-None.ensures.items ∙ ap (λ (ss : List Stretch). ss ++ c.args.byte ∷ []) empty))
    (stretches_first facts c.args.byte (subst (λ (ss : List Stretch). AreRead facts ss c.args.byte) (c.in-None.ensures.items ∙ append-nil _ ∙ empty) a))
