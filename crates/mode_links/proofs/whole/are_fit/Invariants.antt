use Rattle.std.proofs.Common.{take, All}
use Rattle.year_labels.specs.Forms.{IsFit}
use Rattle.mode_links.proofs.whole.are_fit.Given as goal

abbrev pub invariant-loop-link : goal.invariant-loop-link
invariant-loop-link l = All IsFit (take l.link-index l.links)
