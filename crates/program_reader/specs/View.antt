-- What the words of a program are read as.
use Rattle.program_reader.specs.declared.text.Units.{Units}
use Rattle.cond_reader.specs.View.{text_of}
use Rattle.program_reader.specs.Views.{View}

abbrev pub view_of : Units → View
view_of u = record { text = text_of u.parts; terms = u.terms.now; readings = u.readings.now; file = u.file }
