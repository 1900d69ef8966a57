-- What is read.
use Rattle.proc_reader.specs.declared.sentence.Sentences.{Sentences}
use Rattle.proc_reader.specs.Source.{Source}
use Rattle.cond_reader.specs.View.{text_of}

abbrev pub source_of : Sentences → Source
source_of s = record { text = text_of s.parts; keywords = s.keywords.now; program = s.program }
