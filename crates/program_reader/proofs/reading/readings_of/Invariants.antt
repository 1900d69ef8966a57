use Rattle.std.proofs.Common.{List, length, ◌++◌}
use Rattle.program_reader.specs.declared.reading.Reading.{Reading}
use Rattle.program_reader.specs.Readings.{AreReadings}
use Rattle.program_reader.proofs.reading.readings_of.Given as goal

abbrev pub invariant-loop-words : goal.invariant-loop-words
invariant-loop-words l = (more : List Reading) → AreReadings l.words more → AreReadings l.initial.words (l.readings ++ more)

abbrev pub decreases-loop-words : goal.decreases-loop-words
decreases-loop-words l = length l.words
