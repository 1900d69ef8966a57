use Rattle.std.proofs.Common.{◌++◌, ◌∷◌, [], ◌∙◌, ap, List}
use Rattle.year_labels.specs.declared.label.Fact.{Fact}
use Rattle.label_spread.specs.FactSets.{IsIn}
use Rattle.label_spread.proofs.FactSets.{just_more, just_same}
use Rattle.label_spread.proofs.known.Known.push.Goals as goal

pub invariant_of-self-in_err-insert : goal.invariant_of-self-in_err-insert
invariant_of-self-in_err-insert c = just_same (IsIn c.self.inside.index) (IsIn c.insert.new.self) c.self.inside.facts.items _ c.self.invariant c.in_err-insert.ensures.err c.reserve.ensures.items

pub invariant_of-self-2 : goal.invariant_of-self-2
invariant_of-self-2 c =
    just_more (IsIn c.self.inside.index) (IsIn c.insert.new.self) c.self.inside.facts.items _ c.args.fact c.self.invariant c.in_ok-insert.ensures.ok
    (c.push_reserved.ensures.items ∙ ap (λ (xs : List Fact). xs ++ c.args.fact ∷ []) c.reserve.ensures.items)
