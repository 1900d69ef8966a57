use Rattle.std.proofs.Common.{◌≡◌, ◌++◌, length}
use Rattle.std.specs.Prelude.{flat_map}
use Rattle.literal_images.specs.Meetings.{if_expanded, expanded_in}
use Rattle.literal_images.proofs.meeting.expanded_in.Given as goal

abbrev pub invariant-loop-rest : goal.invariant-loop-rest
invariant-loop-rest l = l.modes ++ flat_map if_expanded l.rest ≡ expanded_in l.index l.fn.span

abbrev pub decreases-loop-rest : goal.decreases-loop-rest
decreases-loop-rest l = length l.rest
