use Rattle.std.proofs.Common.{◌≡◌, length}
use Rattle.program_reader.specs.declared.fault.ReadFault.{ReadFault}
use Rattle.program_texts.specs.Texts.{with_texts, words_of, AreWhole, IsRefusedAmong}
use Rattle.program_texts.proofs.line.read_texts.Given as goal

abbrev pub invariant-loop-rest : goal.invariant-loop-rest
invariant-loop-rest l =
    (with_texts l.read l.number l.rest ≡ words_of l.texts)
    × (AreWhole l.rest → AreWhole l.texts)
    × ((g : ReadFault) → IsRefusedAmong l.number l.rest g → IsRefusedAmong 0 l.texts g)

abbrev pub decreases-loop-rest : goal.decreases-loop-rest
decreases-loop-rest l = length l.rest
