use Rattle.std.proofs.Common.{◌≡◌, map, take}
use Rattle.seq_files.specs.Disks.{disk, missing_all}
use Rattle.seq_files.proofs.store.Store.new.Given as goal

abbrev pub invariant-loop-i : goal.invariant-loop-i
invariant-loop-i l = map disk l.held.items ≡ missing_all (take l.i l.files)
