use Rattle.label_spread.specs.FactSets.{held}
use Rattle.label_spread.proofs.FactSets.{inserted}
use Rattle.label_spread.proofs.fact_set.FactSet.insert.Goals as goal

pub returns-clause-ok : goal.returns-clause-ok
returns-clause-ok c =
    inserted (held c.args.self.now) (held c.put.new.self) c.args.fact c.block_of-block.result c.byte_of.result c.bytes_of.result c.with_byte-bytes.result
    c.block_of-block.ensures c.byte_of.ensures.value c.bytes_of.ensures c.with_byte-bytes.ensures c.in_ok-put.ensures.ok
