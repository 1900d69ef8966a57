use Rattle.std.proofs.Common.{◌≡◌, List, ℕ, ◌++◌, length, map}
use Rattle.file_statements.specs.Units.{IsUnitOf}
use Rattle.program_meaning.specs.Answer.{Gives, and_then}
use Rattle.program_meaning.specs.Moves as moves
use Rattle.storage_places.specs.Held.{held}
use Rattle.tree_reading.specs.Reading.{read_operand}
use Rattle.trial_run.specs.Plans.{program_of}
use Rattle.trial_run.proofs.unit.show.Given as goal

abbrev pub invariant-loop-rest : goal.invariant-loop-rest
invariant-loop-rest l = record {
  shown : moves.show_all (program_of l.plan).layout (held l.fn.unit.storage) (map read_operand l.fn.operands)
      ≡ and_then (moves.show_all (program_of l.plan).layout (held l.fn.unit.storage) (map read_operand l.rest)) (λ (bs : List (List ℕ)). Gives (l.parts ++ bs));
  storage : l.unit.storage ≡ l.fn.unit.storage;
  files : l.unit.store ≡ l.fn.unit.store;
  unit : IsUnitOf l.plan.layout.now l.unit;
}

abbrev pub decreases-loop-rest : goal.decreases-loop-rest
decreases-loop-rest l = length l.rest
