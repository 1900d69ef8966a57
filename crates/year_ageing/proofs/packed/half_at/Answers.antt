use Rattle.file_convert.proofs.PackedLemmas.{half_first, half_second}
use Rattle.year_ageing.proofs.packed.half_at.Goals as goal

pub returns-then-at-eq0-clause-half : goal.returns-then-at-eq0-clause-half
returns-then-at-eq0-clause-half c = half_first c.args.bytes.now c.args.at c.if-at-eq0.true

pub returns-else-at-eq0-clause-half : goal.returns-else-at-eq0-clause-half
returns-else-at-eq0-clause-half c = half_second c.args.bytes.now c.args.at c.if-at-eq0.false
