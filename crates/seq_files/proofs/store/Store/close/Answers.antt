use Rattle.seq_files.proofs.StoreLaws.{disks-set}
use Rattle.program_meaning.specs.Files.{close_file}
use Rattle.seq_files.proofs.store.Store.close.Goals as goal

pub returns-clause-disk : goal.returns-clause-disk
returns-clause-disk c =
    disks-set c.args.self.now.files.items c.args.file c.index_mut.result.now c.close.new.self (λ d. (close_file d).disk) c.index_mut.ensures.value c.requires.file c.close.ensures.disk
