use Rattle.std.proofs.Common.{◌≡◌, ◌++◌, length, map}
use Rattle.gathered.specs.Shelved.{program_of}
use Rattle.gathered.proofs.shelved.add_programs.Given as goal

abbrev pub invariant-loop-rest : goal.invariant-loop-rest
invariant-loop-rest l = l.listed ++ map program_of l.rest ≡ l.fn.listed ++ map program_of l.programs

abbrev pub decreases-loop-rest : goal.decreases-loop-rest
decreases-loop-rest l = length l.rest
