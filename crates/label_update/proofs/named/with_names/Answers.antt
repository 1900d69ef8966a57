use Rattle.std.proofs.Common.{◌++◌, ◌∷◌, [], ◌∙◌, ap, sym, List, map, take}
use Rattle.label_update.specs.Named.{named_fact}
use Rattle.label_update.specs.declared.named.NamedFact.{NamedFact}
use Rattle.label_update.proofs.Turns.{mapped_more}
use Rattle.label_update.proofs.named.with_names.Goals as goal

pub loop-i-preserved : goal.loop-i-preserved
loop-i-preserved c =
    let name = named_fact c.args.names.now in
    let facts = c.args.labelling.now in
    c.in_ok-push-in-Some.ensures.items
    ∙ ap (λ (all : List NamedFact). all ++ c.in_ok-with_name-in-Some.field-0 ∷ []) c.loop-i.invariant
    ∙ ap (λ (f : NamedFact). map name (take c.loop-i.i facts) ++ f ∷ []) c.in_ok-with_name-in-Some.ensures
    ∙ sym (mapped_more name facts c.loop-i.i c.in-Some.fact (sym c.in-Some.ensures.value))
