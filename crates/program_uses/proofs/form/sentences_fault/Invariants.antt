use Rattle.std.proofs.Common.{◌≡◌, drop, None}
use Rattle.program_uses.specs.Names.{known}
use Rattle.program_uses.specs.Statements as spec
use Rattle.program_uses.proofs.form.sentences_fault.Given as goal

abbrev pub invariant-loop-sentence : goal.invariant-loop-sentence
invariant-loop-sentence l =
    spec.sentences_fault l.layout (known l.names.files) (known l.names.paragraphs) l.fault (drop l.sentence-index l.sentences)
    ≡ spec.sentences_fault l.layout (known l.names.files) (known l.names.paragraphs) None l.sentences
