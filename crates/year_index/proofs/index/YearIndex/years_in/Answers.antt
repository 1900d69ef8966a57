use Rattle.std.proofs.Common.{◌≡◌, ◌+◌, ◌∙◌, arith}
use Rattle.year_index.proofs.Found.{in_order, in_span}
use Rattle.year_index.proofs.index.YearIndex.years_in.Goals as goal

pub part-requires-clause-order : goal.part-requires-clause-order
part-requires-clause-order c =
    let ended = c.ended_by-first.ensures in
    let begun = c.begun_before-last.ensures in
    let is_end : c.from-start.result + c.from.result ≡ c.args.span.offset + c.args.span.length = omega arith in
    in_order c.args.self.now c.args.span c.from-start.result (c.from-start.result + c.from.result) c.ended_by-first.result c.begun_before-last.result c.from-start.ensures is_end ended.point begun.point ended.within

pub returns : goal.returns
returns c =
    let ended = c.ended_by-first.ensures in
    let begun = c.begun_before-last.ensures in
    let is_end : c.from-start.result + c.from.result ≡ c.args.span.offset + c.args.span.length = omega arith in
    c.part.ensures
    ∙ in_span c.args.self.now c.args.span c.from-start.result (c.from-start.result + c.from.result) c.ended_by-first.result c.begun_before-last.result c.from-start.ensures is_end ended.point begun.point ended.within begun.within
