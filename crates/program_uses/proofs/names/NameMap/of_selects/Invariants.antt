use Rattle.std.proofs.Common.{◌≡◌, drop}
use Rattle.program_uses.specs.Names as spec
use Rattle.program_uses.proofs.names.NameMap.of_selects.Given as goal

abbrev pub invariant-loop-select : goal.invariant-loop-select
invariant-loop-select l = spec.with_selects (spec.known l.names) (drop l.select-index l.selects) ≡ spec.with_selects spec.no_names l.selects
