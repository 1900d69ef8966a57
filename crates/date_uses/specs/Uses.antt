-- The uses of a portfolio.
use Rattle.std.specs.Prelude.{ℕ, ◌+◌, List, [], ◌∷◌, ◌++◌}
use Rattle.y2k_base.specs.declared.word.Word.{Word}
use Rattle.cobol_syntax.specs.declared.program.Paragraph.{Paragraph}
use Rattle.cobol_syntax.specs.declared.program.Program.{Program}
use Rattle.cobol_syntax.specs.declared.program.Sentence.{Sentence}
use Rattle.data_layout.specs.declared.item.Layout.{Layout}
use Rattle.data_layout.specs.declared.portfolio.Portfolio.{Portfolio}
use Rattle.year_labels.specs.declared.label.Fact.{Fact}
use Rattle.date_uses.specs.declared.uses.DateUse.{DateUse}
use Rattle.date_uses.specs.Entries.{values_uses, conds_uses}
use Rattle.date_uses.specs.Statements.{statements_uses}

abbrev pub sentences_uses : List Fact → Layout → ℕ → List Word → List Sentence → List DateUse
sentences_uses facts layout program words [] = []
sentences_uses facts layout program words (sentence ∷ sentences) =
    statements_uses facts layout program words sentence.statements ++ sentences_uses facts layout program words sentences

abbrev pub paragraphs_uses : List Fact → Layout → ℕ → List Word → List Paragraph → List DateUse
paragraphs_uses facts layout program words [] = []
paragraphs_uses facts layout program words (paragraph ∷ paragraphs) =
    sentences_uses facts layout program words paragraph.sentences ++ paragraphs_uses facts layout program words paragraphs

-- the uses of the program of this number: those of its VALUEs, of its condition-names, and of its statements
abbrev pub program_uses : List Fact → ℕ → Program → Layout → List DateUse
program_uses facts number program layout =
    values_uses number program layout
    ++ (conds_uses number program.words layout layout.conds
    ++ paragraphs_uses facts layout number program.words program.paragraphs)

-- each program has its layout; the first has this number
abbrev pub programs_uses : List Fact → ℕ → List Program → List Layout → List DateUse
programs_uses facts number [] layouts = []
programs_uses facts number (program ∷ programs) [] = []
programs_uses facts number (program ∷ programs) (layout ∷ layouts) =
    program_uses facts number program layout ++ programs_uses facts (number + 1) programs layouts

-- the uses of a portfolio with that labelling
abbrev pub uses : List Fact → Portfolio → List DateUse
uses facts portfolio = programs_uses facts 0 portfolio.programs portfolio.layouts
