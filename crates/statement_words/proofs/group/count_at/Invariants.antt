use Rattle.std.proofs.Common.{◌≡◌, ◌+◌, length}
use Rattle.std.specs.List.{prefix_len}
use Rattle.statement_places.specs.Parts.{seen}
use Rattle.statement_words.specs.Groups.{is_at, receives}
use Rattle.statement_words.proofs.group.count_at.Given as goal

abbrev pub invariant-loop-rest : goal.invariant-loop-rest
invariant-loop-rest l = record {
  length : l.count + length l.rest ≡ length l.parts;
  count : prefix_len (λ part. is_at l.at (receives (seen part))) l.parts ≡ l.count + prefix_len (λ part. is_at l.at (receives (seen part))) l.rest;
}

abbrev pub decreases-loop-rest : goal.decreases-loop-rest
decreases-loop-rest l = length l.rest
