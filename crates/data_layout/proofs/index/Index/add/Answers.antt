use Rattle.std.proofs.Common.{ℕ, List}
use Rattle.std.proofs.Math.Path.{fun_ext}
use Rattle.data_layout.specs.Index as spec
use Rattle.data_layout.proofs.InIndex.{put-taken}
use Rattle.data_layout.proofs.index.Index.add.Goals as goal

pub returns : goal.returns
returns c = fun_ext (λ (other : List ℕ).
    put-taken (spec.held c.args.self.now) (spec.held c.take-list.new.self) (spec.held c.put.new.self) c.args.name.now c.take-list.result c.push.new.self c.args.found other
    c.take-list.ensures.list c.take-list.ensures.others c.in_ok-push.ensures.ok c.in_ok-put.ensures)
