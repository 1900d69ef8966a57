use Rattle.std.proofs.Common.{◌≡◌, length}
use Rattle.fixed_format.specs.Reading.{with_chars}
use Rattle.fixed_format.proofs.join.with_chars.Given as goal

abbrev pub invariant-loop-rest : goal.invariant-loop-rest
invariant-loop-rest l = with_chars l.longer l.rest l.line l.column ≡ with_chars l.fn.chars l.cells l.line l.fn.column

abbrev pub decreases-loop-rest : goal.decreases-loop-rest
decreases-loop-rest l = length l.rest
