use Rattle.plan_images.proofs.AlikeSpans.{alike_spans}
use Rattle.plan_images.proofs.laws.alike_spans_grow_alike.Goals as goal

pub returns : goal.returns
returns c = alike_spans
