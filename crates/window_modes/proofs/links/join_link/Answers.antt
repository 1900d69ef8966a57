use Rattle.std.proofs.Common.{sym, subst}
use Rattle.year_labels.specs.declared.rule.RuleForm.{RuleForm}
use Rattle.window_modes.specs.Links.{IsLink}
use Rattle.window_modes.specs.Work.{Joins, Between}
use Rattle.window_modes.proofs.links.join_link.Goals as goal

pub returns-in_ok-join_twins-in-Alike : goal.returns-in_ok-join_twins-in-Alike
returns-in_ok-join_twins-in-Alike c =
    subst (λ (form : RuleForm). Joins (Between c.args.years.now (IsLink form)) c.args.sets.now c.join_twins.new.sets) (sym c.in-Alike.is) c.in_ok-join_twins-in-Alike.ensures

pub returns-in_ok-join_aligned-in-Digits : goal.returns-in_ok-join_aligned-in-Digits
returns-in_ok-join_aligned-in-Digits c =
    subst (λ (form : RuleForm). Joins (Between c.args.years.now (IsLink form)) c.args.sets.now c.join_aligned.new.sets) (sym c.in-Digits.is) c.in_ok-join_aligned-in-Digits.ensures

pub returns-in_ok-join_operands-in-Sum : goal.returns-in_ok-join_operands-in-Sum
returns-in_ok-join_operands-in-Sum c =
    subst (λ (form : RuleForm). Joins (Between c.args.years.now (IsLink form)) c.args.sets.now c.join_operands.new.sets) (sym c.in-Sum.is) c.in_ok-join_operands-in-Sum.ensures

pub returns-in_ok-join_operands-in-Difference : goal.returns-in_ok-join_operands-in-Difference
returns-in_ok-join_operands-in-Difference c =
    subst (λ (form : RuleForm). Joins (Between c.args.years.now (IsLink form)) c.args.sets.now c.join_operands-in-Difference.new.sets) (sym c.in-Difference.is) c.in_ok-join_operands-in-Difference.ensures
