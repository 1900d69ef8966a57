use Rattle.label_spread.proofs.forms.apply_difference.Goals as goal

pub returns : goal.returns
returns c = c.in_ok-fire_rows.ensures
