use Rattle.seq_files.specs.Disks.{filled_disk}
use Rattle.seq_files.proofs.StoreLaws.{disks-set, disks-same, ok_then, err_then, inside_ok}
use Rattle.seq_files.proofs.store.Store.set.Goals as goal

pub returns-clause-set : goal.returns-clause-set
returns-clause-set c =
    inside_ok c.set.result
    (λ s. ok_then s (disks-set c.args.self.now.files.items c.args.file c.index_mut.result.now c.set.new.self (λ d. filled_disk d.length c.args.bytes.now) c.index_mut.ensures.value c.requires.file))
    c.set.ensures.set

pub returns-clause-same : goal.returns-clause-same
returns-clause-same c =
    inside_ok c.set.result
    (λ s. err_then s (disks-same c.args.self.now.files.items c.args.file c.index_mut.result.now c.set.new.self c.index_mut.ensures.value))
    c.set.ensures.same

pub returns-clause-err : goal.returns-clause-err
returns-clause-err c =
    err_then c.set.result (disks-same c.args.self.now.files.items c.args.file c.index_mut.result.now c.set.new.self c.index_mut.ensures.value) c.set.ensures.err
