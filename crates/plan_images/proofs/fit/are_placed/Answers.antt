use Rattle.std.proofs.Common.{List, refl, subst, arith}
use Rattle.std.specs.Prelude.{All}
use Rattle.std.proofs.lemmas.List.{take_all}
use Rattle.std.proofs.lemmas.List.Elements.{All-more}
use Rattle.window_modes.specs.declared.modes.YearMode.{YearMode}
use Rattle.plan_images.specs.Tables.{IsPlaced}
use Rattle.plan_images.proofs.fit.are_placed.Goals as goal

pub loop-i-preserved : goal.loop-i-preserved
loop-i-preserved c =
    All-more (IsPlaced c.args.lengths.now) c.args.modes.now c.loop-i.i _ (omega arith) c.loop-i.invariant (c.is_placed.ensures.0 c.if-not-is_placed.false)

pub returns : goal.returns
returns c =
    let all : All (IsPlaced c.args.lengths.now) c.args.modes.now = subst (λ (ms : List YearMode). All (IsPlaced c.args.lengths.now) ms) (take_all c.loop-i.i c.args.modes.now (omega arith)) c.loop-i.invariant in
    (λ e. all, λ h. refl)
