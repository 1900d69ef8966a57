use Rattle.std.proofs.Common.{Some, None}
use Rattle.name_tables.specs.Table.{held}
use Rattle.seq_files.specs.Disks.{disks}
use Rattle.job_files.proofs.LoadLaws.{numbered_read, numbered_unread, unnumbered_read}
use Rattle.job_files.proofs.NumberLaws.{numbered, is_below, is_closed}
use Rattle.job_files.proofs.loaded.load_named.Goals as goal

pub load_file-requires-clause-within : goal.load_file-requires-clause-within
load_file-requires-clause-within g c =
    let files = c.args.files.now in
    let key = c.args.named.now.key in
    is_below c.requires.closed.0 files (disks c.args.store.now) key c.in-Some.number c.requires.closed.1
    (numbered (held c.args.numbers.now) files key c.items.result.now (Some c.in-Some.number) c.requires.numbers c.items.ensures c.in-Some.ensures)

pub load_file-requires-clause-closed : goal.load_file-requires-clause-closed
load_file-requires-clause-closed g c =
    let files = c.args.files.now in
    let key = c.args.named.now.key in
    is_closed c.requires.closed.0 files (disks c.args.store.now) key c.in-Some.number c.requires.closed.1
    (numbered (held c.args.numbers.now) files key c.items.result.now (Some c.in-Some.number) c.requires.numbers c.items.ensures c.in-Some.ensures)

pub returns-in-Ok-clause-read : goal.returns-in-Ok-clause-read
returns-in-Ok-clause-read g c =
    let files = c.args.files.now in
    let named = c.args.named.now in
    numbered_read (g.S.Shelf.told c.args.shelf.now) c.args.folder.now files named c.in-Some.number (disks c.args.store.now) (disks c.load_file.new.store) c.requires.apart c.requires.closed
    (numbered (held c.args.numbers.now) files named.key c.items.result.now (Some c.in-Some.number) c.requires.numbers c.items.ensures c.in-Some.ensures)
    c.in-Ok.ensures.read

pub returns-in-Err-clause-refusal : goal.returns-in-Err-clause-refusal
returns-in-Err-clause-refusal g c =
    let files = c.args.files.now in
    let named = c.args.named.now in
    numbered_unread (g.S.Shelf.told c.args.shelf.now) c.args.folder.now files named c.in-Some.number (disks c.args.store.now) c.in-Err.refusal c.requires.closed
    (numbered (held c.args.numbers.now) files named.key c.items.result.now (Some c.in-Some.number) c.requires.numbers c.items.ensures c.in-Some.ensures)
    c.in-Err.ensures.refusal

pub returns-in-None-clause-read : goal.returns-in-None-clause-read
returns-in-None-clause-read g c =
    let files = c.args.files.now in
    let named = c.args.named.now in
    unnumbered_read (g.S.Shelf.told c.args.shelf.now) c.args.folder.now files named (disks c.args.store.now)
    (numbered (held c.args.numbers.now) files named.key c.items.result.now None c.requires.numbers c.items.ensures c.in-None.ensures)
