use Rattle.std.proofs.Common.{◌++◌, ℕ, List, Option, refl, ap, ◌∙◌}
use Rattle.std.specs.List.{slice_get}
use Rattle.y2k_base.specs.declared.word.Word.{Word}
use Rattle.literal_images.specs.Limits.{limits_with}
use Rattle.literal_images.proofs.Found.{adds_found, adds_none}
use Rattle.literal_images.proofs.limits.add_of.Goals as goal

pub returns-in-None : goal.returns-in-None
returns-in-None c =
    adds_none (λ (found : Option Word). limits_with c.args.index.now found c.args.meeting c.args.literal.now c.args.operand.now)
    c.items.result.now c.position.result c.args.limits.now c.in-None.ensures.lookup.3 refl
    ∙ ap (λ (words : List Word). c.args.limits.now
    ++ limits_with c.args.index.now (slice_get words c.position.result) c.args.meeting c.args.literal.now c.args.operand.now) c.items.ensures
    ∙ ap (λ (at : ℕ). c.args.limits.now
    ++ limits_with c.args.index.now (slice_get c.args.program.now.words at) c.args.meeting c.args.literal.now c.args.operand.now) c.position.ensures

pub returns-in_ok-add_with-in-Some : goal.returns-in_ok-add_with-in-Some
returns-in_ok-add_with-in-Some c =
    adds_found (λ (found : Option Word). limits_with c.args.index.now found c.args.meeting c.args.literal.now c.args.operand.now)
    c.items.result.now c.position.result c.in-Some.word.now c.args.limits.now c.add_with.new.limits
    c.in-Some.ensures.lookup.3.0 c.in-Some.ensures.lookup.1 c.in_ok-add_with-in-Some.ensures
    ∙ ap (λ (words : List Word). c.args.limits.now
    ++ limits_with c.args.index.now (slice_get words c.position.result) c.args.meeting c.args.literal.now c.args.operand.now) c.items.ensures
    ∙ ap (λ (at : ℕ). c.args.limits.now
    ++ limits_with c.args.index.now (slice_get c.args.program.now.words at) c.args.meeting c.args.literal.now c.args.operand.now) c.position.ensures
