use Rattle.std.proofs.Common.{sym, ◌∙◌}
use Rattle.std.proofs.lemmas.Bool.{false≢true}
use Rattle.label_spread.proofs.Whole.{Reacts-touched, Reacts-untouched}
use Rattle.label_spread.proofs.forms.react_whole.Goals as goal

pub returns-in_ok-apply : goal.returns-in_ok-apply
returns-in_ok-apply c = Reacts-touched c.args.form.now c.args.fact _ _ c.requires.fit c.requires.there c.in_ok-apply.ensures

pub returns-else-touches : goal.returns-else-touches
returns-else-touches c =
    Reacts-untouched c.args.form.now c.args.fact _ c.requires.fit (λ t. false≢true (sym c.if-touches.false ∙ c.touches.ensures.1 t))
