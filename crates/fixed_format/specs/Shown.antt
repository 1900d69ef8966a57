-- What a text that was read shows.
use Rattle.std.specs.Prelude.{ℕ, List}
use Rattle.y2k_base.specs.declared.word.Word.{Word}
use Rattle.fixed_format.specs.declared.lines.Lines.{Lines}

-- its lines, each with its line end
abbrev pub text_lines : Lines → List (List ℕ)
text_lines read = read.lines

-- its words
abbrev pub text_words : Lines → List Word
text_words read = read.words
