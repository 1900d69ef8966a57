use Rattle.std.proofs.Common.{◌≤◌, length}
use Rattle.program_texts.specs.Programs.{before_of}
use Rattle.program_texts.proofs.Rest.{Goes}
use Rattle.program_texts.proofs.member.read_members.Given as goal

abbrev pub invariant-loop-source : goal.invariant-loop-source
invariant-loop-source l =
    (l.progress.bytes ≤ 4000000)
    × Goes l.books.list l.sources (before_of l.progress) l.rest l.members.programs l.members.layouts

abbrev pub decreases-loop-source : goal.decreases-loop-source
decreases-loop-source l = length l.rest
