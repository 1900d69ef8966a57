use Rattle.std.proofs.Common.{◌≡◌, ◌+◌, ◌-◌, ◌<◌, ◌++◌}
use Rattle.std.specs.List.{range_with_len, flat_map}
use Rattle.portfolio_gen.specs.Employees.{drawn, employee, employees}
use Rattle.portfolio_gen.proofs.employees.records.Given as goal

-- the records so far and those to come are all records
abbrev pub invariant-loop-i : goal.invariant-loop-i
invariant-loop-i l = record {
  whole : l.bytes ++ flat_map (employee l.count) (range_with_len (l.i + 1) (l.count - l.i)) ≡ employees l.count;
  drawn : l.drawn ≡ drawn l.count l.i;
  below : l.drawn < 2147483648;
}
