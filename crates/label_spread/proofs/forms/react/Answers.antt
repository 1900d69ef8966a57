use Rattle.label_spread.proofs.Whole.{Reacts-form}
use Rattle.label_spread.proofs.forms.react.Goals as goal

pub returns : goal.returns
returns c = Reacts-form c.args.form.now c.args.fact _ _ _ c.in_ok-react_alike.ensures c.in_ok-react_whole.ensures
