use Rattle.std.specs.Prelude.{◌≡◌, ◌↔◌, ◌+◌, ◌-◌, ◌^◌, ◌<◌, min, Contains}
use Rattle.shelf.specs.declared.calls.Calls.{Calls}

-- the last call that was begun is one of those that were made to fail
abbrev pub IsMadeToFail : Calls → Type 0
IsMadeToFail calls = (calls.made < 2 ^ 64 - 1) × Contains calls.failing.items calls.made

-- one more call was begun: its number is the next one, and it failed exactly where that number was given so
pub record HasBegun (before now : Calls) (Failed : Type 0) : Type 0 where
  pub made : now.made ≡ min (before.made + 1) (2 ^ 64 - 1)
  pub failing : now.failing ≡ before.failing
  pub failed : Failed ↔ IsMadeToFail now
  pub counted : Failed → now.faults ≡ before.faults + 1
  pub uncounted : ¬ Failed → now.faults ≡ before.faults
