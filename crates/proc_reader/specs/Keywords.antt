-- What words are to the grammar of statements.
use Rattle.std.specs.Prelude.{ℕ, Bool, codes, List, [], ◌∷◌, Option, Some, None}
use denote.Enum.Bare.{sameb}
use Rattle.y2k_base.specs.declared.word.Word.{Word}
use Rattle.y2k_base.specs.declared.word.WordKind.{WordKind}
use Rattle.y2k_base.specs.declared.word.WordKind.TheVariants as kind
use Rattle.cond_reader.specs.Table.{value_of}
use Rattle.proc_reader.specs.contracts.keyword.Keyword.{the_type}
use Rattle.proc_reader.specs.declared.keyword.Keyword.{Keyword}
use Rattle.proc_reader.specs.declared.keyword.Keyword.TheVariants as k

unfoldable pub same_keyword : Keyword → Keyword → Bool
same_keyword = sameb the_type

-- the words that begin statements, and those that end them
abbrev pub verbs : List (List ℕ × Keyword)
verbs =
    (codes "MOVE", k.Move) ∷
    (codes "ADD", k.Add) ∷
    (codes "SUBTRACT", k.Subtract) ∷
    (codes "MULTIPLY", k.Multiply) ∷
    (codes "DIVIDE", k.Divide) ∷
    (codes "COMPUTE", k.Compute) ∷
    (codes "IF", k.If) ∷
    (codes "EVALUATE", k.Evaluate) ∷
    (codes "PERFORM", k.Perform) ∷
    (codes "GO", k.Go) ∷
    (codes "STOP", k.Stop) ∷
    (codes "EXIT", k.Exit) ∷
    (codes "CONTINUE", k.Continue) ∷
    (codes "OPEN", k.Open) ∷
    (codes "CLOSE", k.Close) ∷
    (codes "READ", k.Read) ∷
    (codes "WRITE", k.Write) ∷
    (codes "ACCEPT", k.Accept) ∷
    (codes "DISPLAY", k.Display) ∷
    (codes "END-ADD", k.EndAdd) ∷
    (codes "END-SUBTRACT", k.EndSubtract) ∷
    (codes "END-MULTIPLY", k.EndMultiply) ∷
    (codes "END-DIVIDE", k.EndDivide) ∷
    (codes "END-COMPUTE", k.EndCompute) ∷
    (codes "END-IF", k.EndIf) ∷
    (codes "END-EVALUATE", k.EndEvaluate) ∷
    (codes "END-PERFORM", k.EndPerform) ∷
    (codes "END-READ", k.EndRead) ∷
    (codes "END-WRITE", k.EndWrite) ∷
    []

-- the words that stand inside statements
abbrev pub phrases : List (List ℕ × Keyword)
phrases =
    (codes "GIVING", k.Giving) ∷
    (codes "FROM", k.From) ∷
    (codes "BY", k.By) ∷
    (codes "INTO", k.Into) ∷
    (codes "REMAINDER", k.Remainder) ∷
    (codes "ROUNDED", k.Rounded) ∷
    (codes "ON", k.On) ∷
    (codes "SIZE", k.Size) ∷
    (codes "ERROR", k.Error) ∷
    (codes "THEN", k.Then) ∷
    (codes "ELSE", k.Else) ∷
    (codes "NEXT", k.Next) ∷
    (codes "SENTENCE", k.Sentence) ∷
    (codes "TRUE", k.True) ∷
    (codes "WHEN", k.When) ∷
    (codes "OTHER", k.Other) ∷
    (codes "THRU", k.Thru) ∷
    (codes "THROUGH", k.Thru) ∷
    (codes "TIMES", k.Times) ∷
    (codes "WITH", k.With) ∷
    (codes "TEST", k.Test) ∷
    (codes "BEFORE", k.Before) ∷
    (codes "AFTER", k.After) ∷
    (codes "VARYING", k.Varying) ∷
    (codes "UNTIL", k.Until) ∷
    (codes "RUN", k.Run) ∷
    (codes "INPUT", k.Input) ∷
    (codes "OUTPUT", k.Output) ∷
    (codes "EXTEND", k.Extend) ∷
    (codes "RECORD", k.Record) ∷
    (codes "AT", k.At) ∷
    (codes "END", k.End) ∷
    (codes "ADVANCING", k.Advancing) ∷
    (codes "LINE", k.Line) ∷
    (codes "LINES", k.Line) ∷
    (codes "PAGE", k.Page) ∷
    (codes "DATE", k.Date) ∷
    (codes "DAY", k.Day) ∷
    (codes "TIME", k.Time) ∷
    []

unfoldable pub verb : List ℕ → Option Keyword
verb = value_of verbs

unfoldable pub phrase : List ℕ → Option Keyword
phrase = value_of phrases

abbrev pub keyword_or : Keyword → Option Keyword → Keyword
keyword_or default (Some keyword) = keyword
keyword_or default None = default

unfoldable pub keyword_of_name : List ℕ → Keyword
keyword_of_name text = keyword_or (keyword_or k.Unlisted (phrase text)) (verb text)

abbrev pub keyword_by : List ℕ → WordKind → Keyword
keyword_by text kind.Name = keyword_of_name text
keyword_by text kind.Number = k.Unlisted
keyword_by text kind.Literal = k.Unlisted
keyword_by text kind.Picture = k.Unlisted
keyword_by text kind.Mark = k.Unlisted

unfoldable pub keyword_of : Word → Keyword
keyword_of word = keyword_by word.text word.kind
