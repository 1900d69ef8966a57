use Rattle.std.proofs.Common.{◌≡◌, drop}
use Rattle.file_convert.specs.Cuts.{first_untame}
use Rattle.file_convert.proofs.record.find_untame.Given as goal

abbrev pub invariant-loop-cut : goal.invariant-loop-cut
invariant-loop-cut l = first_untame (drop l.cut-index l.cut-items) l.source ≡ first_untame l.cut-items l.source
