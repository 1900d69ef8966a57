use Rattle.std.proofs.Common.{rules, arith, subst, All, List}
use Rattle.std.proofs.lemmas.List.{take_all}
use Rattle.std.proofs.lemmas.List.Elements.{All-more}
use Rattle.year_labels.specs.declared.rule.RuleForm.{RuleForm}
use Rattle.year_labels.specs.Forms.{IsFit}
use Rattle.mode_links.proofs.whole.are_fit.Goals as goal

pub loop-link-preserved : goal.loop-link-preserved
loop-link-preserved c =
    All-more IsFit c.args.links.now c.loop-link.link-index c.link-item.result (omega arith) c.loop-link.invariant
    (subst (λ (form : RuleForm). IsFit form) c.link-item.is (search rules))

pub returns : goal.returns
returns c = λ _. subst (λ (forms : List RuleForm). All IsFit forms) (take_all c.loop-link.link-index c.args.links.now (omega arith)) c.loop-link.invariant
