use Rattle.data_layout.specs.declared.item.Layout.{Layout}
use Rattle.program_channels.specs.Channel.{read_channel}
use Rattle.program_meaning.specs.Files.{Done, disk_at, read_file}
use Rattle.program_meaning.specs.State as state
use Rattle.program_meaning.specs.Step as meant
use Rattle.program_meaning.specs.Step.{Told}
use Rattle.seq_files.specs.Codes.{code}
use Rattle.seq_files.specs.Disks.{disks}
use Rattle.tree_reading.specs.Reading.{place_if}
use Rattle.file_statements.specs.Calls.{Breaks}
use Rattle.file_statements.specs.Units.{layout_of}
use Rattle.file_statements.proofs.CallLaws.{ok-from, err-from, unit-from, read-links, read-broken, carried}
use Rattle.file_statements.proofs.calls.read.Goals as goal

pub returns-in_err-told-clause-err : goal.returns-in_err-told-clause-err
returns-in_err-told-clause-err c =
    let layout : Layout = layout_of c.args.unit.now in
    let channel : state.Channel = read_channel c.args.channel in
    carried (Breaks layout c.args.unit.now c.tell.new.unit (λ p day w. meant.read_record p day w (place_if c.args.into.now) c.args.end channel)) c.from_residual-in_err-told.result c.in_err-told.field-0.0
    c.from_residual-in_err-told.ensures.1
    (read-broken layout c.args.unit.now c.read_file.new.unit c.tell.new.unit channel (read_file (disk_at (disks c.args.unit.now.store) c.args.channel.file)) c.args.end (place_if c.args.into.now)
    c.in_ok-status.status c.in_err-told.field-0.0 c.read_file.ensures.unit c.in_ok-status.ensures.done c.in_err-told.ensures.err)

pub returns-clause-ok : goal.returns-clause-ok
returns-clause-ok c =
    let layout : Layout = layout_of c.args.unit.now in
    let channel : state.Channel = read_channel c.args.channel in
    let d : Done = read_file (disk_at (disks c.args.unit.now.store) c.args.channel.file) in
    ok-from layout c.args.unit.now c.tell.new.unit c.move_into.new.unit (λ p day w. meant.into_place p.layout channel (place_if c.args.into.now) (meant.call p day w channel d c.args.end))
    (λ p day w. meant.into_place p.layout channel (place_if c.args.into.now) (Told (code c.in_ok-told.told) w)) c.move_into.result
    (unit-from layout c.read_file.new.unit c.tell.new.unit c.read_file.ensures.unit c.tell.ensures.unit)
    (read-links layout c.args.unit.now c.read_file.new.unit c.tell.new.unit channel d c.args.end (place_if c.args.into.now) c.in_ok-status.status c.in_ok-told.told c.read_file.ensures.unit c.in_ok-status.ensures.done
    c.in_ok-told.ensures.ok)
    c.move_into.ensures.ok

pub returns-clause-err : goal.returns-clause-err
returns-clause-err c =
    let layout : Layout = layout_of c.args.unit.now in
    let channel : state.Channel = read_channel c.args.channel in
    let d : Done = read_file (disk_at (disks c.args.unit.now.store) c.args.channel.file) in
    err-from layout c.args.unit.now c.tell.new.unit c.move_into.new.unit (λ p day w. meant.into_place p.layout channel (place_if c.args.into.now) (meant.call p day w channel d c.args.end))
    (λ p day w. meant.into_place p.layout channel (place_if c.args.into.now) (Told (code c.in_ok-told.told) w)) c.move_into.result
    (unit-from layout c.read_file.new.unit c.tell.new.unit c.read_file.ensures.unit c.tell.ensures.unit)
    (read-links layout c.args.unit.now c.read_file.new.unit c.tell.new.unit channel d c.args.end (place_if c.args.into.now) c.in_ok-status.status c.in_ok-told.told c.read_file.ensures.unit c.in_ok-status.ensures.done
    c.in_ok-told.ensures.ok)
    c.move_into.ensures.err
