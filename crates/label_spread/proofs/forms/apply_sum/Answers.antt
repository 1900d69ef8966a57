use Rattle.label_spread.proofs.forms.apply_sum.Goals as goal

pub returns : goal.returns
returns c = c.in_ok-fire_rows.ensures
