use Rattle.std.proofs.Common.{false}
use Rattle.program_channels.specs.Channel.{read_channel}
use Rattle.program_meaning.specs.Files.{disk_at, close_file}
use Rattle.seq_files.specs.Disks.{disks}
use Rattle.file_statements.specs.Units.{layout_of}
use Rattle.file_statements.proofs.CallLaws.{ok-called, err-called}
use Rattle.file_statements.proofs.calls.close.Goals as goal

pub returns-clause-ok : goal.returns-clause-ok
returns-clause-ok c =
    ok-called (layout_of c.args.unit.now) c.args.unit.now c.close_file.new.unit c.tell.new.unit (read_channel c.args.channel) (close_file (disk_at (disks c.args.unit.now.store) c.args.channel.file)) false c.in_ok-status.status
    c.tell.result c.close_file.ensures.unit c.in_ok-status.ensures.done c.tell.ensures.ok

pub returns-clause-err : goal.returns-clause-err
returns-clause-err c =
    err-called (layout_of c.args.unit.now) c.args.unit.now c.close_file.new.unit c.tell.new.unit (read_channel c.args.channel) (close_file (disk_at (disks c.args.unit.now.store) c.args.channel.file)) false c.in_ok-status.status
    c.tell.result c.close_file.ensures.unit c.in_ok-status.ensures.done c.tell.ensures.err
