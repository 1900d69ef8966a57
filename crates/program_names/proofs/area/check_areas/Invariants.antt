use Rattle.std.proofs.Common.{◌≡◌, ◌≤◌, ◌+◌, length}
use Rattle.program_names.specs.Areas.{bytes_of, faults_of_areas}
use Rattle.program_names.proofs.area.check_areas.Given as goal

abbrev pub invariant-loop-rest : goal.invariant-loop-rest
invariant-loop-rest l =
    (l.sum ≤ 4000000)
    × (l.sum + bytes_of l.rest ≡ l.before + bytes_of l.layout.areas)
    × (faults_of_areas l.program l.layout l.sum l.rest ≡ faults_of_areas l.program l.layout l.before l.layout.areas)

abbrev pub decreases-loop-rest : goal.decreases-loop-rest
decreases-loop-rest l = length l.rest
