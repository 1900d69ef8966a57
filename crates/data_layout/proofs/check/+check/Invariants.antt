use Rattle.std.proofs.Common.{◌≡◌, ◌≤◌, ◌+◌, ◌*◌, length}
use Rattle.data_layout.specs.Tree.{forest, within, beyond}
use Rattle.data_layout.specs.Names.{named}
use Rattle.data_layout.specs.Rules as rules
use Rattle.data_layout.specs.Faults as spec
use Rattle.data_layout.proofs.check.+check.Given as goal

abbrev pub decreases-check_item : goal.decreases-check_item
decreases-check_item l = 2 * length l.inner.now + 1

abbrev pub decreases-check_parts : goal.decreases-check_parts
decreases-check_parts l = 2 * length l.entries.now

abbrev pub invariant-check_parts-loop-entry : goal.invariant-check_parts-loop-entry
invariant-check_parts-loop-entry l =
    (beyond l.around (forest l.rest) ≡ beyond l.around (forest l.entries))
    × (length l.rest ≤ length l.entries)
    × (spec.faults l.words l.setting (named l.names) l.objects (within l.around (forest l.rest))
    ≡ spec.faults l.words l.setting (named l.initial.names) rules.no_objects (within l.around (forest l.entries)))
    × (spec.names_after (named l.names) (within l.around (forest l.rest)) ≡ spec.names_after (named l.initial.names) (within l.around (forest l.entries)))

abbrev pub decreases-check_parts-loop-entry : goal.decreases-check_parts-loop-entry
decreases-check_parts-loop-entry l = length l.rest
