-- A fault of a kind, where no earlier one stands, is the fault of the table.
use Rattle.std.proofs.Common.{sym, subst}
use Rattle.toml.specs.Data.{Members}
use Rattle.portfolio.specs.declared.fault.ManifestKind.{ManifestKind}
use Rattle.portfolio.specs.declared.fault.ManifestFault.{ManifestFault}
use Rattle.portfolio.specs.declared.fault.ManifestFault.TheVariants.{At, Memory}
use Rattle.portfolio.specs.Faults.{IsFreeBefore, Stands, IsOfKind, HasFault}

pub of_kind : (kind : ManifestKind) (tree : Members) (fault : ManifestFault) → IsFreeBefore kind tree → IsOfKind kind (Stands kind tree) fault → HasFault tree fault
of_kind kind tree (At other key) free stands = subst (λ (k : ManifestKind). HasFault tree (At k key)) (sym stands.0) (free, stands.1)
of_kind kind tree Memory free stands = stands
