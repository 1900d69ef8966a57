use Rattle.year_labels.specs.declared.rule.RuleForm.{RuleForm}
use Rattle.window_modes.specs.Links.{IsLink}
use Rattle.window_modes.specs.Work.{Joins, Between}
use Rattle.window_modes.proofs.Joined.{ByOneUpTo}
use Rattle.window_modes.proofs.links.join_links.Given as goal

abbrev pub invariant-loop-form : goal.invariant-loop-form
invariant-loop-form l = Joins (ByOneUpTo (λ (form : RuleForm). Between l.years (IsLink form)) l.links l.form-index) l.fn.sets l.sets
