-- What words are to the grammar of conditions.
use Rattle.std.specs.Prelude.{ℕ, Bool, codes, List, [], ◌∷◌, Option, Some, None}
use denote.Enum.Bare.{sameb}
use Rattle.y2k_base.specs.declared.word.Word.{Word}
use Rattle.y2k_base.specs.declared.word.WordKind.{WordKind}
use Rattle.y2k_base.specs.declared.word.WordKind.TheVariants as kind
use Rattle.case_tables.specs.Reserved.{role_of}
use Rattle.cond_reader.specs.Table.{value_of}
use Rattle.case_tables.specs.declared.word_table.WordRole.{WordRole}
use Rattle.cond_reader.specs.contracts.symbol.Symbol.{the_type}
use Rattle.cond_reader.specs.declared.symbol.Symbol.{Symbol}
use Rattle.cond_reader.specs.declared.symbol.Symbol.TheVariants as s

unfoldable pub same_symbol : Symbol → Symbol → Bool
same_symbol = sameb the_type

abbrev pub name_or_reserved : Option WordRole → Symbol
name_or_reserved (Some role) = s.Other
name_or_reserved None = s.Name

abbrev pub symbol_or : Symbol → Option Symbol → Symbol
symbol_or default (Some symbol) = symbol
symbol_or default None = default

-- the reserved words of conditions and expressions, and those that open a level in a sentence
abbrev pub keywords : List (List ℕ × Symbol)
keywords =
    (codes "ZERO", s.Zero) ∷
    (codes "ZEROS", s.Zeros) ∷
    (codes "ZEROES", s.Zeros) ∷
    (codes "SPACE", s.Space) ∷
    (codes "SPACES", s.Space) ∷
    (codes "HIGH-VALUE", s.HighValue) ∷
    (codes "HIGH-VALUES", s.HighValue) ∷
    (codes "LOW-VALUE", s.LowValue) ∷
    (codes "LOW-VALUES", s.LowValue) ∷
    (codes "QUOTE", s.Quote) ∷
    (codes "QUOTES", s.Quote) ∷
    (codes "AND", s.And) ∷
    (codes "OR", s.Or) ∷
    (codes "NOT", s.Not) ∷
    (codes "IS", s.Is) ∷
    (codes "OF", s.Of) ∷
    (codes "IN", s.Of) ∷
    (codes "TO", s.To) ∷
    (codes "THAN", s.Than) ∷
    (codes "EQUAL", s.Equal) ∷
    (codes "GREATER", s.Greater) ∷
    (codes "LESS", s.Less) ∷
    (codes "NUMERIC", s.Numeric) ∷
    (codes "ALPHABETIC", s.Alphabetic) ∷
    (codes "POSITIVE", s.Positive) ∷
    (codes "NEGATIVE", s.Negative) ∷
    (codes "IF", s.Nest) ∷
    (codes "EVALUATE", s.Nest) ∷
    (codes "PERFORM", s.Nest) ∷
    (codes "READ", s.Nest) ∷
    (codes "ERROR", s.Nest) ∷
    []

-- the marks of conditions and expressions, and the period
abbrev pub marks : List (List ℕ × Symbol)
marks =
    (codes ".", s.Period) ∷
    (codes "(", s.Open) ∷
    (codes ")", s.Close) ∷
    (codes ":", s.Colon) ∷
    (codes "=", s.EqualSign) ∷
    (codes "<", s.LessSign) ∷
    (codes ">", s.GreaterSign) ∷
    (codes "<=", s.AtMost) ∷
    (codes ">=", s.AtLeast) ∷
    (codes "+", s.Plus) ∷
    (codes "-", s.Minus) ∷
    (codes "*", s.Star) ∷
    (codes "/", s.Slash) ∷
    []

unfoldable pub keyword : List ℕ → Option Symbol
keyword = value_of keywords

unfoldable pub mark : List ℕ → Option Symbol
mark = value_of marks

unfoldable pub symbol_of_name : List ℕ → Symbol
symbol_of_name text = symbol_or (name_or_reserved (role_of text)) (keyword text)

abbrev pub symbol_by : List ℕ → WordKind → Symbol
symbol_by text kind.Name = symbol_of_name text
symbol_by text kind.Number = s.Number
symbol_by text kind.Literal = s.Literal
symbol_by text kind.Picture = s.Other
symbol_by text kind.Mark = symbol_or s.Other (mark text)

unfoldable pub symbol_of : Word → Symbol
symbol_of word = symbol_by word.text word.kind
