-- What words are to the divisions and their entries.
use Rattle.std.specs.Prelude.{ℕ, Bool, codes, List, [], ◌∷◌, Option, Some, None}
use denote.Enum.Bare.{sameb}
use Rattle.y2k_base.specs.declared.word.Word.{Word}
use Rattle.y2k_base.specs.declared.word.WordKind.{WordKind}
use Rattle.y2k_base.specs.declared.word.WordKind.TheVariants as kind
use Rattle.cond_reader.specs.Table.{value_of}
use Rattle.program_reader.specs.contracts.term.Term.{the_type}
use Rattle.program_reader.specs.declared.term.Term.{Term}
use Rattle.program_reader.specs.declared.term.Term.TheVariants as k

unfoldable pub same_term : Term → Term → Bool
same_term = sameb the_type

abbrev pub term_or : Term → Option Term → Term
term_or default (Some term) = term
term_or default None = default

-- the words of headers, and of the entries for files
abbrev pub division_words : List (List ℕ × Term)
division_words =
    (codes "IDENTIFICATION", k.Identification) ∷
    (codes "ID", k.Identification) ∷
    (codes "DIVISION", k.Division) ∷
    (codes "PROGRAM-ID", k.ProgramId) ∷
    (codes "ENVIRONMENT", k.Environment) ∷
    (codes "CONFIGURATION", k.Configuration) ∷
    (codes "SECTION", k.Section) ∷
    (codes "SOURCE-COMPUTER", k.SourceComputer) ∷
    (codes "OBJECT-COMPUTER", k.ObjectComputer) ∷
    (codes "INPUT-OUTPUT", k.InputOutput) ∷
    (codes "FILE-CONTROL", k.FileControl) ∷
    (codes "SELECT", k.Select) ∷
    (codes "ASSIGN", k.Assign) ∷
    (codes "ORGANIZATION", k.Organization) ∷
    (codes "SEQUENTIAL", k.Sequential) ∷
    (codes "ACCESS", k.Access) ∷
    (codes "MODE", k.Mode) ∷
    (codes "FILE", k.File) ∷
    (codes "STATUS", k.Status) ∷
    (codes "DATA", k.Data) ∷
    (codes "WORKING-STORAGE", k.WorkingStorage) ∷
    (codes "PROCEDURE", k.Procedure) ∷
    (codes "FD", k.Fd) ∷
    (codes "LABEL", k.Label) ∷
    (codes "RECORD", k.Record) ∷
    (codes "RECORDS", k.Records) ∷
    (codes "ARE", k.Are) ∷
    (codes "STANDARD", k.Standard) ∷
    (codes "OMITTED", k.Omitted) ∷
    (codes "BLOCK", k.Block) ∷
    (codes "CONTAINS", k.Contains) ∷
    (codes "CHARACTERS", k.Characters) ∷
    (codes "RECORDING", k.Recording) ∷
    (codes "F", k.Fixed) ∷
    []

-- the words of data description entries
abbrev pub entry_words : List (List ℕ × Term)
entry_words =
    (codes "FILLER", k.Filler) ∷
    (codes "REDEFINES", k.Redefines) ∷
    (codes "PIC", k.Picture) ∷
    (codes "PICTURE", k.Picture) ∷
    (codes "USAGE", k.Usage) ∷
    (codes "DISPLAY", k.Display) ∷
    (codes "COMP", k.Binary) ∷
    (codes "COMPUTATIONAL", k.Binary) ∷
    (codes "BINARY", k.Binary) ∷
    (codes "COMP-3", k.Packed) ∷
    (codes "COMPUTATIONAL-3", k.Packed) ∷
    (codes "PACKED-DECIMAL", k.Packed) ∷
    (codes "OCCURS", k.Occurs) ∷
    (codes "TIMES", k.Times) ∷
    (codes "SIGN", k.Sign) ∷
    (codes "LEADING", k.Leading) ∷
    (codes "TRAILING", k.Trailing) ∷
    (codes "SEPARATE", k.Separate) ∷
    (codes "CHARACTER", k.Character) ∷
    (codes "VALUE", k.Value) ∷
    (codes "VALUES", k.Values) ∷
    (codes "THRU", k.Through) ∷
    (codes "THROUGH", k.Through) ∷
    []

unfoldable pub division_term : List ℕ → Option Term
division_term = value_of division_words

unfoldable pub entry_term : List ℕ → Option Term
entry_term = value_of entry_words

unfoldable pub term_of_name : List ℕ → Term
term_of_name text = term_or (term_or k.Unlisted (division_term text)) (entry_term text)

abbrev pub term_by : List ℕ → WordKind → Term
term_by text kind.Name = term_of_name text
term_by text kind.Number = k.Unlisted
term_by text kind.Literal = k.Unlisted
term_by text kind.Picture = k.Unlisted
term_by text kind.Mark = k.Unlisted

unfoldable pub term_of : Word → Term
term_of word = term_by word.text word.kind
