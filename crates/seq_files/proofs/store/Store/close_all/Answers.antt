use Rattle.std.proofs.Common.{◌≡◌, length, map, arith, length-set, sym, ◌∙◌}
use Rattle.seq_files.specs.Disks.{disk}
use Rattle.seq_files.proofs.StoreLaws.{closed-next}
use Rattle.seq_files.proofs.store.Store.close_all.Goals as goal

pub loop-i-preserved : goal.loop-i-preserved
loop-i-preserved c = (
  closed-next c.loop-i.self.files.items (map disk c.args.self.now.files.items) c.loop-i.i c.index_mut.result.now c.shut.new.self c.index_mut.ensures.value (omega (arith, c.loop-i-test.true, c.loop-i.invariant.2)) c.loop-i.invariant.1 c.loop-i.invariant.0 c.shut.ensures.disk,
  length-set c.loop-i.self.files.items c.loop-i.i c.shut.new.self ∙ c.loop-i.invariant.1,
  c.loop-i.invariant.2 ∙ sym (length-set c.loop-i.self.files.items c.loop-i.i c.shut.new.self),
)
