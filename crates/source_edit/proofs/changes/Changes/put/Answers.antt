use Rattle.std.proofs.Math.Path.{fun_ext}
use Rattle.std.specs.BTreeMap.{get}
use Rattle.y2k_base.specs.declared.word.Origin.{Origin}
use Rattle.source_edit.specs.Changes.{origin_cmp, is_at}
use Rattle.source_edit.proofs.Putting.{put_now}
use Rattle.source_edit.proofs.changes.Changes.put.Goals as goal

pub returns : goal.returns
returns c = fun_ext (λ (other : Origin).
    put_now (λ words. words.now) is_at (get origin_cmp c.args.self.now.index) (get origin_cmp c.insert.new.self) c.args.origin c.args.words c.in_ok-insert.ensures.updates.0 other)
