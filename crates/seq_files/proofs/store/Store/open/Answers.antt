use Rattle.seq_files.proofs.StoreLaws.{disks-set}
use Rattle.program_meaning.specs.Files.{open_file}
use Rattle.seq_files.specs.Disks.{read_mode}
use Rattle.seq_files.proofs.store.Store.open.Goals as goal

pub returns-clause-disk : goal.returns-clause-disk
returns-clause-disk c =
    disks-set c.args.self.now.files.items c.args.file c.index_mut.result.now c.open.new.self (λ d. (open_file d (read_mode c.args.mode)).disk) c.index_mut.ensures.value c.requires.file c.open.ensures.disk
