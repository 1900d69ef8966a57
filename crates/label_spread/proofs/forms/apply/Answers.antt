use Rattle.label_spread.proofs.forms.apply.Goals as goal

pub returns-in_ok-pass_both-in-Digits : goal.returns-in_ok-pass_both-in-Digits
returns-in_ok-pass_both-in-Digits c = rw c.in-Digits.is c.in_ok-pass_both-in-Digits.ensures

pub returns-in_ok-fill-in-Fill : goal.returns-in_ok-fill-in-Fill
returns-in_ok-fill-in-Fill c = rw c.in-Fill.is c.in_ok-fill-in-Fill.ensures

pub returns-in_ok-apply_sum-in-Sum : goal.returns-in_ok-apply_sum-in-Sum
returns-in_ok-apply_sum-in-Sum c = rw c.in-Sum.is c.in_ok-apply_sum-in-Sum.ensures

pub returns-in_ok-apply_difference-in-Difference : goal.returns-in_ok-apply_difference-in-Difference
returns-in_ok-apply_difference-in-Difference c = rw c.in-Difference.is c.in_ok-apply_difference-in-Difference.ensures
