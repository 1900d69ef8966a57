-- The tables of words and marks are those of the grammar.
use Rattle.std.proofs.Common.{◌≡◌, refl}
use Rattle.std.specs.Prelude.{map}
use Rattle.cond_reader.specs.declared.symbol.TheConstants.{KEYWORDS, MARKS}
use Rattle.cond_reader.specs.Symbols.{keywords, marks}

pub keywords-are : map (λ row. (row.0.now, row.1)) KEYWORDS ≡ keywords
keywords-are = refl

pub marks-are : map (λ row. (row.0.now, row.1)) MARKS ≡ marks
marks-are = refl
