use Rattle.std.proofs.Common.{◌≡◌, map, take}
use Rattle.std.specs.List.{AllByRecursion}
use Rattle.program_channels.specs.Channel.{read_channel, IsWhole}
use Rattle.program_channels.specs.Numbers.{number_in}
use Rattle.program_channels.specs.Tables.{channels_by}
use Rattle.program_channels.proofs.channels.list_by.Given as goal

abbrev pub invariant-loop-i : goal.invariant-loop-i
invariant-loop-i l = record {
  read : map read_channel l.list.items ≡ channels_by (number_in l.files) (number_in l.areas) (take l.i l.selects);
  whole : AllByRecursion (IsWhole l.layout.areas) l.list.items;
}
