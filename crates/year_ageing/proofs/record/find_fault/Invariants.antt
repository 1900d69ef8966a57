use Rattle.std.proofs.Common.{◌≡◌, ◌+◌, length, drop}
use Rattle.file_convert.specs.Cuts.{pieces_from, IsInOrderFrom}
use Rattle.year_ageing.specs.Years.{task_side, fault_of}
use Rattle.year_ageing.specs.Records.{first_by, first_fault}
use Rattle.year_ageing.proofs.Walk.{side_size}
use Rattle.year_ageing.proofs.record.find_fault.Given as goal

abbrev pub invariant-loop-cut : goal.invariant-loop-cut
invariant-loop-cut l = record {
  order : IsInOrderFrom l.from l.cuts.length (drop l.cut-index l.cut-items);
  room : l.to + side_size (task_side l.task) (pieces_from l.from l.cuts.length (drop l.cut-index l.cut-items)) ≡ length l.bytes;
  found : first_by (task_side l.task) (fault_of l.task) l.to (pieces_from l.from l.cuts.length (drop l.cut-index l.cut-items)) (drop l.to l.bytes) ≡ first_fault l.task l.cuts l.bytes;
}
