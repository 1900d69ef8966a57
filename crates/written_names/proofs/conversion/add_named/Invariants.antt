use Rattle.std.proofs.Common.{◌≡◌, ◌++◌, length, map}
use Rattle.portfolio.specs.declared.manifest.Named.{Named}
use Rattle.written_names.specs.Clashes.{under}
use Rattle.written_names.proofs.conversion.add_named.Given as goal

abbrev pub invariant-loop-rest : goal.invariant-loop-rest
invariant-loop-rest l =
    l.names ++ map (λ (file : Named). under l.out file.name) l.rest ≡ l.fn.names ++ map (λ (file : Named). under l.out file.name) l.files

abbrev pub decreases-loop-rest : goal.decreases-loop-rest
decreases-loop-rest l = length l.rest
