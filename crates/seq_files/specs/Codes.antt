-- The two digits of a status, as a number.
use Rattle.std.specs.Prelude.{ℕ}
use Rattle.seq_files.specs.declared.status.Status.{Status}
use Rattle.seq_files.specs.declared.status.Status.TheVariants as status

abbrev pub code : Status → ℕ
code status.S00 = 0
code status.S10 = 10
code status.S35 = 35
code status.S41 = 41
code status.S42 = 42
code status.S46 = 46
code status.S47 = 47
code status.S48 = 48
