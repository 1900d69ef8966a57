use Rattle.std.proofs.Common.{◌++◌, ◌∷◌, [], sym, ◌∙◌, subst}
use Rattle.std.proofs.lemmas.Bool.{false≢true}
use Rattle.year_labels.specs.declared.stretch.Stretch.{Stretch}
use Rattle.year_labels.specs.Stretches.{AreRead}
use Rattle.year_labels.proofs.Stretches.{read_label, read_other}
use Rattle.year_labels.proofs.stretch.read_fact.Goals as goal

pub returns-in_ok-next : goal.returns-in_ok-next
returns-in_ok-next c = λ facts a below.
    let at = c.is_at.ensures.0 c.if-is_at.true in
    subst (λ (s : Stretch). AreRead (facts ++ c.args.fact ∷ []) c.args.stretches.now.items s) (sym c.in_ok-next.ensures)
    (read_label facts c.args.stretches.now.items c.args.byte c.args.fact at.0 at.1 below a)

pub returns-in_ok-next-2 : goal.returns-in_ok-next-2
returns-in_ok-next-2 c = λ facts a below.
    subst (λ (s : Stretch). AreRead (facts ++ c.args.fact ∷ []) c.add_byte.new.stretches.items s) (sym c.in_ok-next-2.ensures)
    (read_other facts c.args.stretches.now.items c.add_byte.new.stretches.items c.args.byte c.args.fact
    (λ at. false≢true (sym c.if-is_at.false ∙ c.is_at.ensures.1 at)) below a (c.in_ok-add_byte.ensures facts a))
