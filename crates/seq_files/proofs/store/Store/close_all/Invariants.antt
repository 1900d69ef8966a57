use Rattle.std.proofs.Common.{◌≡◌, map, take, drop, ◌++◌, length}
use Rattle.program_meaning.specs.Files.{closed}
use Rattle.seq_files.specs.Disks.{disk}
use Rattle.seq_files.proofs.store.Store.close_all.Given as goal

abbrev pub invariant-loop-i : goal.invariant-loop-i
invariant-loop-i l =
    (map disk l.self.files.items ≡ closed (take l.i (map disk l.fn.self.files.items)) ++ drop l.i (map disk l.fn.self.files.items))
    × (length l.self.files.items ≡ length (map disk l.fn.self.files.items))
    × (l.i-end ≡ length l.self.files.items)
