use Rattle.std.proofs.Common.{List, ◌++◌, ◌∷◌, [], sym, ap, ◌∙◌, subst}
use Rattle.std.proofs.lemmas.Bool.{false≢true}
use Rattle.year_labels.specs.declared.stretch.Stretch.{Stretch}
use Rattle.year_labels.specs.Stretches.{AreStretchesOf}
use Rattle.year_labels.proofs.Stretches.{stretches_apart, stretches_joined}
use Rattle.year_labels.proofs.stretch.join_byte.Goals as goal

pub returns-in_ok-push : goal.returns-in_ok-push
returns-in_ok-push c = λ facts a.
    let old = c.args.stretches.now.items in
    subst (λ (ss : List Stretch). AreStretchesOf facts ss) (sym (c.in_ok-push.ensures.items ∙ ap (λ (s : Stretch). old ++ s ∷ []) c.in_ok-longer.ensures))
    (stretches_joined facts old c.args.last c.args.byte (c.is_continued_by.ensures.0 c.if-is_continued_by.true) a)

pub returns-in_ok-push-3 : goal.returns-in_ok-push-3
returns-in_ok-push-3 c = λ facts a.
    let old = c.args.stretches.now.items in
    subst (λ (ss : List Stretch). AreStretchesOf facts ss) (sym (c.in_ok-push-3.ensures.items ∙ ap (λ (ss : List Stretch). ss ++ c.args.byte ∷ []) c.in_ok-push-2.ensures.items))
    (stretches_apart facts old c.args.last c.args.byte (λ is. false≢true (sym c.if-is_continued_by.false ∙ c.is_continued_by.ensures.1 is)) a)
