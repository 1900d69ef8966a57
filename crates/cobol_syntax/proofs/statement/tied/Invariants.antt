use Rattle.std.proofs.Common.{◌≡◌, length}
use Rattle.cobol_syntax.specs.Chains.{chain}
use Rattle.cobol_syntax.proofs.statement.tied.Given as goal

abbrev pub invariant-loop-link : goal.invariant-loop-link
invariant-loop-link l = chain l.fn.links l.fn.rest ≡ chain l.links.items l.rest

abbrev pub decreases-loop-link : goal.decreases-loop-link
decreases-loop-link l = length l.links.items
