use Rattle.std.proofs.Common.{◌≡◌, drop, None}
use Rattle.program_uses.specs.Names.{known}
use Rattle.program_uses.specs.Statements as spec
use Rattle.program_uses.proofs.form.paragraphs_fault.Given as goal

abbrev pub invariant-loop-paragraph : goal.invariant-loop-paragraph
invariant-loop-paragraph l =
    spec.paragraphs_fault l.layout (known l.names.files) (known l.names.paragraphs) l.fault (drop l.paragraph-index l.paragraphs)
    ≡ spec.paragraphs_fault l.layout (known l.names.files) (known l.names.paragraphs) None l.paragraphs
