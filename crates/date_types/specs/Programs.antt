-- All rules of programs, in the order of their texts.
use Rattle.std.specs.Prelude.{List, [], ◌∷◌, ◌++◌, Option, Some, None}
use Rattle.y2k_base.specs.declared.word.Origin.{Origin}
use Rattle.y2k_base.specs.declared.word.Word.{Word}
use Rattle.cobol_syntax.specs.declared.place.Place.{Place}
use Rattle.cobol_syntax.specs.declared.program.Program.{Program}
use Rattle.cobol_syntax.specs.declared.program.Paragraph.{Paragraph}
use Rattle.cobol_syntax.specs.declared.program.Sentence.{Sentence}
use Rattle.cobol_syntax.specs.declared.program.Select.{Select}
use Rattle.data_layout.specs.declared.item.Item.{Item}
use Rattle.data_layout.specs.declared.item.Layout.{Layout}
use Rattle.data_layout.specs.declared.portfolio.Portfolio.{Portfolio}
use Rattle.year_labels.specs.declared.rule.RuleInst.{RuleInst}
use Rattle.date_views.specs.Uses.{item_rules}
use Rattle.statement_rules.specs.Names.{place_use}
use Rattle.statement_rules.specs.Statements.{origin_at, statements_rules}
use Rattle.date_types.specs.Tables.{table_rules, file_rules}

-- what is plain of each item wherever it is used
abbrev pub items_rules : List Word → List Item → List RuleInst
items_rules words [] = []
items_rules words (item ∷ items) = item_rules (origin_at words item.entry_at) item ++ items_rules words items

abbrev pub status_rules : Layout → Origin → Option Place → List RuleInst
status_rules layout at None = []
status_rules layout at (Some place) = place_use layout at place

-- the items of FILE STATUS are plain
abbrev pub selects_rules : Layout → List Word → List Select → List RuleInst
selects_rules layout words [] = []
selects_rules layout words (select ∷ selects) =
    status_rules layout (origin_at words select.at) select.status ++ selects_rules layout words selects

abbrev pub sentences_rules : Layout → List Word → List Sentence → List RuleInst
sentences_rules layout words [] = []
sentences_rules layout words (sentence ∷ sentences) =
    statements_rules layout words sentence.statements ++ sentences_rules layout words sentences

abbrev pub paragraphs_rules : Layout → List Word → List Paragraph → List RuleInst
paragraphs_rules layout words [] = []
paragraphs_rules layout words (paragraph ∷ paragraphs) =
    sentences_rules layout words paragraph.sentences ++ paragraphs_rules layout words paragraphs

abbrev pub program_rules : Program → Layout → List RuleInst
program_rules program layout =
    items_rules program.words layout.items
    ++ (table_rules layout.items program.words layout.items
    ++ (selects_rules layout program.words program.selects ++ paragraphs_rules layout program.words program.paragraphs))

-- each program has its layout
abbrev pub programs_rules : List Program → List Layout → List RuleInst
programs_rules [] layouts = []
programs_rules (program ∷ programs) [] = []
programs_rules (program ∷ programs) (layout ∷ layouts) = program_rules program layout ++ programs_rules programs layouts
