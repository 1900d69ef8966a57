use Rattle.seq_files.proofs.StoreLaws.{disks-set, disks-same, ok_then, err_then}
use Rattle.program_meaning.specs.Files.{write_file}
use Rattle.seq_files.proofs.store.Store.write.Goals as goal

pub returns-clause-disk : goal.returns-clause-disk
returns-clause-disk c =
    ok_then c.write.result
    (disks-set c.args.self.now.files.items c.args.file c.index_mut.result.now c.write.new.self (λ d. (write_file d c.args.bytes.now).disk) c.index_mut.ensures.value c.requires.file)
    c.write.ensures.disk

pub returns-clause-err : goal.returns-clause-err
returns-clause-err c =
    err_then c.write.result (disks-same c.args.self.now.files.items c.args.file c.index_mut.result.now c.write.new.self c.index_mut.ensures.value) c.write.ensures.err
