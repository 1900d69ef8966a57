-- Sentence by sentence the first statement with a number is found that is the first of all.
use Rattle.std.proofs.Common.{◌≡◌, ℕ, Bool, true, false, List, [], ◌∷◌, ◌++◌, ◌==◌, Option, Some, if◌then◌else◌, refl, ap, sym, ◌∙◌}
use Rattle.cobol_syntax.specs.declared.program.Sentence.{Sentence}
use Rattle.cobol_syntax.specs.declared.program.Paragraph.{Paragraph}
use Rattle.statement_places.specs.Statements.{Numbered, place_in, of_statements, of_sentences, of_paragraphs}
use Rattle.statement_places.specs.Found.{or_else, in_sentences, in_paragraphs}

chosen : (here : Bool) (at : ℕ) (all first second : Option ℕ) → all ≡ or_else first second → (if here then Some at else all) ≡ or_else (if here then Some at else first) second
chosen true at all first second e = refl
chosen false at all first second e = e

in_two : (number : ℕ) (first second : List Numbered) → place_in number (first ++ second) ≡ or_else (place_in number first) (place_in number second)
in_two number [] second = refl
in_two number (one ∷ more) second =
    chosen (one.number == number) one.at (place_in number (more ++ second)) (place_in number more) (place_in number second) (in_two number more second)

by_sentences : (number : ℕ) (sentences : List Sentence) → in_sentences number sentences ≡ place_in number (of_sentences sentences)
by_sentences number [] = refl
by_sentences number (one ∷ others) =
    ap (or_else (place_in number (of_statements one.statements))) (by_sentences number others)
    ∙ sym (in_two number (of_statements one.statements) (of_sentences others))

pub by_paragraphs : (number : ℕ) (paragraphs : List Paragraph) → in_paragraphs number paragraphs ≡ place_in number (of_paragraphs paragraphs)
by_paragraphs number [] = refl
by_paragraphs number (one ∷ others) =
    ap (λ found. or_else found (in_paragraphs number others)) (by_sentences number one.sentences)
    ∙ ap (or_else (place_in number (of_sentences one.sentences))) (by_paragraphs number others)
    ∙ sym (in_two number (of_sentences one.sentences) (of_paragraphs others))
