use Rattle.std.proofs.Common.{◌≡◌, not}
use Rattle.std.specs.List.{filter}
use Rattle.y2k_base.specs.Edits.{is_edited_by}
use Rattle.y2k_base.proofs.edit.left_alone.Given as goal

abbrev pub invariant-loop-edit : goal.invariant-loop-edit
invariant-loop-edit l = l.kept.items ≡ filter (λ e. not (is_edited_by l.others e)) l.yielded
