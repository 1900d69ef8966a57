-- The tables of words are those of the grammar.
use Rattle.std.proofs.Common.{◌≡◌, refl}
use Rattle.std.specs.Prelude.{map}
use Rattle.program_reader.specs.declared.term.TheConstants.{DIVISION_WORDS, ENTRY_WORDS}
use Rattle.program_reader.specs.Terms.{division_words, entry_words}

pub division-words-are : map (λ row. (row.0.now, row.1)) DIVISION_WORDS ≡ division_words
division-words-are = refl

pub entry-words-are : map (λ row. (row.0.now, row.1)) ENTRY_WORDS ≡ entry_words
entry-words-are = refl
