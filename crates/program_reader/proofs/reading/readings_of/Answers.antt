use Rattle.std.proofs.Common.{subst, append-nil, List, [], arith}
use Rattle.program_reader.specs.declared.reading.Reading.{Reading}
use Rattle.program_reader.specs.Readings.{AreReadings}
use Rattle.program_reader.proofs.ReadingLaws.{no_words, same_length}
use Rattle.program_reader.proofs.reading.readings_of.Goals as goal

pub returns-clause-read : goal.returns-clause-read
returns-clause-read c =
    subst (λ (xs : List Reading). AreReadings c.args.words.now xs) (append-nil c.loop-words.readings)
    (c.loop-words.invariant [] (no_words c.loop-words.words.now (omega arith)))

pub returns-clause-paired : goal.returns-clause-paired
returns-clause-paired c =
    let read : AreReadings c.args.words.now c.loop-words.readings =
    subst (λ (xs : List Reading). AreReadings c.args.words.now xs) (append-nil c.loop-words.readings)
    (c.loop-words.invariant [] (no_words c.loop-words.words.now (omega arith))) in
    same_length c.args.words.now c.loop-words.readings read
