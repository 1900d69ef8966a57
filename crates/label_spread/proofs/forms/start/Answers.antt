use Rattle.label_spread.proofs.Whole.{Starts-form}
use Rattle.label_spread.proofs.forms.start.Goals as goal

pub returns : goal.returns
returns c = Starts-form c.args.form.now _ _ c.requires c.in_ok-apply.ensures
