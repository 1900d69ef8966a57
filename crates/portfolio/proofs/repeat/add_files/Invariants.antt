use Rattle.std.proofs.Common.{◌≡◌, ◌++◌, take, map}
use Rattle.portfolio.specs.Faults.{file_of}
use Rattle.portfolio.proofs.repeat.add_files.Given as goal

abbrev pub invariant-loop-file : goal.invariant-loop-file
invariant-loop-file l = l.all ≡ l.fn.all ++ map file_of (take l.file-index l.files)
