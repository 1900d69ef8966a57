use Rattle.std.proofs.Common.{◌≡◌, ◌+◌, ◌++◌, length, take, drop}
use Rattle.file_convert.specs.Cuts.{pieces_from, IsInOrderFrom}
use Rattle.year_ageing.specs.Years.{aged}
use Rattle.year_ageing.specs.Records.{changed, changed_by}
use Rattle.year_ageing.specs.declared.task.Task.TheVariants as tasks
use Rattle.year_ageing.proofs.Walk.{side_size}
use Rattle.year_ageing.proofs.record.age_cuts.Given as goal

abbrev pub invariant-loop-cut : goal.invariant-loop-cut
invariant-loop-cut l = record {
  order : IsInOrderFrom l.from l.cuts.length (drop l.cut-index l.cut-items);
  room : l.to + side_size l.side (pieces_from l.from l.cuts.length (drop l.cut-index l.cut-items)) ≡ length l.bytes;
  done : take l.to l.bytes ++ changed_by l.side (aged l.side l.years) (pieces_from l.from l.cuts.length (drop l.cut-index l.cut-items)) (drop l.to l.bytes) ≡ changed (tasks.Age l.side l.years) l.cuts l.fn.bytes;
}
