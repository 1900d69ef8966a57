use Rattle.std.proofs.Common.{◌≡◌, ◌+◌, drop}
use Rattle.file_convert.proofs.CutLemmas.{growths}
use Rattle.file_convert.proofs.cut.Cuts.image_length.Given as goal

abbrev pub invariant-loop-cut : goal.invariant-loop-cut
invariant-loop-cut l = l.total + growths (drop l.cut-index l.cut-items) ≡ l.self.length + growths l.cut-items
