use Rattle.std.proofs.Common.{◌≡◌, arith, List}
use Rattle.std.proofs.lemmas.List.{get_or_default}
use Rattle.year_labels.specs.declared.label.Seed.{Seed}
use Rattle.year_labels.specs.declared.label.Fact.{Fact}
use Rattle.label_spread.proofs.Loops.{AddsOver-more, AddsOver-all}
use Rattle.label_spread.proofs.closure.insert_seeds.Goals as goal

abbrev IsOf : Seed → List Fact → Fact → Type 0
IsOf s known f = f ≡ s.fact

pub loop-i-preserved : goal.loop-i-preserved
loop-i-preserved c =
    AddsOver-more IsOf c.args.seeds.now _ _ _ c.loop-i.i _ (λ s xs ys f grows h. h) (omega arith) (get_or_default c.args.seeds.now c.loop-i.i _ _ (omega arith)) c.loop-i.invariant c.in_ok-insert_seed.ensures

pub returns : goal.returns
returns c = AddsOver-all IsOf c.args.seeds.now _ _ c.loop-i.i (omega arith) c.loop-i.invariant
