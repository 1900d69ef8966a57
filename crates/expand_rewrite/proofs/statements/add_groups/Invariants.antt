use Rattle.std.proofs.Common.{◌≡◌, ◌++◌, ◌-◌, ◌≤◌, map, drop, length}
use Rattle.statement_places.specs.Parts.{seen}
use Rattle.statement_words.specs.Groups.{groups}
use Rattle.expand_rewrite.specs.Old.{known}
use Rattle.expand_rewrite.specs.Statements.{groups_edits}
use Rattle.expand_rewrite.proofs.statements.add_groups.Given as goal

abbrev pub invariant-loop-from : goal.invariant-loop-from
invariant-loop-from l =
    (l.from ≤ length l.parts)
    × (l.edits ++ groups_edits (known l.program) (groups (map seen (drop l.from l.parts)))
    ≡ l.fn.edits ++ groups_edits (known l.program) (groups (map seen l.parts)))

abbrev pub decreases-loop-from : goal.decreases-loop-from
decreases-loop-from l = length l.parts - l.from
