use Rattle.std.proofs.Common.{◌∙◌}
use Rattle.std.proofs.lemmas.Bool.{false≢true}
use Rattle.fixed_format.proofs.PartLaws.{step_blank, step_piece}
use Rattle.fixed_format.proofs.ScanLaws.{keeps}
use Rattle.fixed_format.proofs.scan.read_pieces.Goals as goal

pub loop-rest-preserved-then-first-eq32 : goal.loop-rest-preserved-then-first-eq32
loop-rest-preserved-then-first-eq32 c = (
  step_blank c.args.file c.args.is_cut c.loop-rest.found c.loop-rest.behind_gap c.loop-rest.rest.now _ c.in-len1-up.len_at_least c.if-first-eq32.true
      ∙ c.loop-rest.invariant.0,
  λ h. absurd (false≢true h),
)

pub loop-rest-preserved : goal.loop-rest-preserved
loop-rest-preserved c = (
  step_piece c.args.file c.args.is_cut c.loop-rest.found c.add_piece.new.found c.loop-rest.behind_gap c.ends_in_gap-behind_gap.result c.loop-rest.rest.now
      c.span-own.result.now c.behind_span-rest.result.now c.first_piece-piece.result c.in-len1-up.len_at_least c.first_piece-piece.ensures c.span-own.ensures
      c.in_ok-add_piece.ensures c.ends_in_gap-behind_gap.ensures c.behind_span-rest.ensures.value
      ∙ c.loop-rest.invariant.0,
  keeps c.loop-rest.unlettered c.stays_unlettered-unlettered.result c.loop-rest.found.expected c.loop-rest.behind_gap c.loop-rest.rest.now c.span-own.result.now
      c.behind_span-rest.result.now c.first_piece-piece.result c.loop-rest.invariant.1 c.first_piece-piece.ensures c.span-own.ensures
      c.stays_unlettered-unlettered.ensures c.behind_span-rest.ensures.value,
)
