use Rattle.std.proofs.Common.{◌≡◌, take}
use Rattle.proc_reader.specs.Arithmetic.{each_computed}
use Rattle.proc_reader.proofs.arithmetic.each_computed.Given as goal

abbrev pub invariant-loop-receiver : goal.invariant-loop-receiver
invariant-loop-receiver l = l.forms ≡ each_computed l.joining l.value (take l.receiver-index l.receivers)
