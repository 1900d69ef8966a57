use Rattle.std.proofs.Common.{◌≡◌, drop}
use Rattle.program_uses.specs.Names as spec
use Rattle.program_uses.proofs.names.NameMap.of_paragraphs.Given as goal

abbrev pub invariant-loop-paragraph : goal.invariant-loop-paragraph
invariant-loop-paragraph l = spec.with_paragraphs (spec.known l.names) (drop l.paragraph-index l.paragraphs) ≡ spec.with_paragraphs spec.no_names l.paragraphs
