use Rattle.std.proofs.Common.{◌≡◌, drop, map, None}
use Rattle.program_uses.specs.Names.{known}
use Rattle.program_uses.specs.Statements as spec
use Rattle.program_uses.proofs.form.+statement_fault.Given as goal

abbrev pub invariant-list_fault-loop-statement : goal.invariant-list_fault-loop-statement
invariant-list_fault-loop-statement l =
    spec.listed l.fault l.last (map (spec.tell l.layout (known l.names.files) (known l.names.paragraphs)) (drop l.statement-index l.statements))
    ≡ spec.listed None None (map (spec.tell l.layout (known l.names.files) (known l.names.paragraphs)) l.statements)
