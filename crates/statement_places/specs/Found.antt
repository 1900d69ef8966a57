-- The first statement with a number, looked for sentence by sentence.
use Rattle.std.specs.Prelude.{ℕ, List, [], ◌∷◌, Option, Some, None}
use Rattle.cobol_syntax.specs.declared.program.Sentence.{Sentence}
use Rattle.cobol_syntax.specs.declared.program.Paragraph.{Paragraph}
use Rattle.statement_places.specs.Statements.{place_in, of_statements}

abbrev pub or_else : Option ℕ → Option ℕ → Option ℕ
or_else (Some at) other = Some at
or_else None other = other

abbrev pub in_sentences : ℕ → List Sentence → Option ℕ
in_sentences number [] = None
in_sentences number (one ∷ others) = or_else (place_in number (of_statements one.statements)) (in_sentences number others)

abbrev pub in_paragraphs : ℕ → List Paragraph → Option ℕ
in_paragraphs number [] = None
in_paragraphs number (one ∷ others) = or_else (in_sentences number one.sentences) (in_paragraphs number others)
