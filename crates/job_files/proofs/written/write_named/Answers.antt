use Rattle.std.proofs.Common.{Some}
use Rattle.name_tables.specs.Table.{held}
use Rattle.seq_files.specs.Disks.{disks}
use Rattle.job_files.proofs.NumberLaws.{numbered, is_held}
use Rattle.job_files.proofs.written.write_named.Goals as goal

pub bytes-requires : goal.bytes-requires
bytes-requires g c =
    let files = c.args.files.now in
    let key = c.args.named.now.key in
    record {
      file = is_held files (disks c.args.store.now) key c.in-Some.number c.requires.held
          (numbered (held c.args.numbers.now) files key c.items.result.now (Some c.in-Some.number) c.requires.numbers c.items.ensures c.in-Some.ensures);
    }
