-- What the statuses of a conversion tell.
use Rattle.std.specs.Prelude.{◌≡◌, ◌⊎◌, ℕ}
use Rattle.data_conversion.specs.declared.fault.DataFault.{DataFault}
use Rattle.data_conversion.specs.declared.fault.DataFault.TheVariants as fault

-- conflicts, a refusal or a limit: nothing is written
abbrev pub IsRefusal : ℕ → Type 0
IsRefusal status = (status ≡ 1) ⊎ ((status ≡ 3) ⊎ (status ≡ 4))

-- a status as asked, or that of a fault while a line was printed
abbrev pub IsAsked : ℕ → ℕ → Type 0
IsAsked status result = (result ≡ status) ⊎ ((result ≡ 7) ⊎ (result ≡ 8))

-- the status of a fault of data files
abbrev pub status_of : DataFault → ℕ
status_of (fault.TooLarge name) = 3
status_of (fault.Untame external row offset bytes) = 5
status_of (fault.PartialRecord external left) = 5
status_of (fault.Shelf name) = 6
status_of fault.Memory = 8
