use Rattle.std.proofs.Common.{arith}
use Rattle.year_labels.specs.declared.rule.RuleForm.{RuleForm}
use Rattle.window_modes.specs.Links.{IsLink}
use Rattle.window_modes.specs.Work.{Between}
use Rattle.window_modes.proofs.Joined.{over-more, over-all}
use Rattle.window_modes.proofs.Found.{all_links}
use Rattle.window_modes.proofs.links.join_links.Goals as goal

pub loop-form-preserved : goal.loop-form-preserved
loop-form-preserved c =
    over-more (λ (form : RuleForm). Between c.args.years.now (IsLink form)) c.args.links.now _ _ _ c.loop-form.form-index c.form-item.result (omega arith) c.form-item.is c.loop-form.invariant c.in_ok-join_link.ensures

pub returns : goal.returns
returns c =
    all_links c.args.years.now c.args.links.now _ _
    (over-all (λ (form : RuleForm). Between c.args.years.now (IsLink form)) c.args.links.now _ _ c.loop-form.form-index (omega arith) c.loop-form.invariant)
