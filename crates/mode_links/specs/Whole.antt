-- The links of a portfolio: which rules make years keep one mode.
use Rattle.std.specs.Prelude.{Bool, true, false, List, [], ◌∷◌, ◌++◌, if◌then◌else◌}
use Rattle.y2k_base.specs.declared.word.Word.{Word}
use Rattle.cobol_syntax.specs.declared.program.Program.{Program}
use Rattle.cobol_syntax.specs.declared.program.Paragraph.{Paragraph}
use Rattle.cobol_syntax.specs.declared.program.Sentence.{Sentence}
use Rattle.data_layout.specs.declared.item.Layout.{Layout}
use Rattle.data_layout.specs.declared.portfolio.Portfolio.{Portfolio}
use Rattle.year_labels.specs.declared.label.Fact.{Fact}
use Rattle.year_labels.specs.declared.rule.Rule.{Rule}
use Rattle.year_labels.specs.declared.rule.Rule.TheVariants as rules
use Rattle.year_labels.specs.declared.rule.RuleForm.{RuleForm}
use Rattle.year_labels.specs.declared.rule.RuleInst.{RuleInst}
use Rattle.date_types.specs.Tables.{table_rules, file_rules}
use Rattle.date_types.specs.Pictures.{picture_rules}
use Rattle.mode_links.specs.Statements.{statements_links}

abbrev pub sentences_links : List Fact → Layout → List Word → List Sentence → List RuleInst
sentences_links facts layout words [] = []
sentences_links facts layout words (sentence ∷ sentences) =
    statements_links facts layout words sentence.statements ++ sentences_links facts layout words sentences

abbrev pub paragraphs_links : List Fact → Layout → List Word → List Paragraph → List RuleInst
paragraphs_links facts layout words [] = []
paragraphs_links facts layout words (paragraph ∷ paragraphs) =
    sentences_links facts layout words paragraph.sentences ++ paragraphs_links facts layout words paragraphs

-- the occurrences of each item with OCCURS are alike, and what the statements link is
abbrev pub program_links : List Fact → Program → Layout → List RuleInst
program_links facts program layout =
    table_rules layout.items program.words layout.items ++ paragraphs_links facts layout program.words program.paragraphs

-- each program has its layout
abbrev pub programs_links : List Fact → List Program → List Layout → List RuleInst
programs_links facts [] layouts = []
programs_links facts (program ∷ programs) [] = []
programs_links facts (program ∷ programs) (layout ∷ layouts) = program_links facts program layout ++ programs_links facts programs layouts

-- with those of the records of files, and of items with one PICTURE word
abbrev pub linking_rules : List Fact → Portfolio → List RuleInst
linking_rules facts portfolio =
    programs_links facts portfolio.programs portfolio.layouts
    ++ (file_rules portfolio portfolio.files ++ picture_rules portfolio.programs portfolio.layouts)

-- rules that only make digits plain, or give a year from a register, link nothing
abbrev pub is_linking : Rule → Bool
is_linking rules.Register = false
is_linking rules.Occurs = true
is_linking rules.File = true
is_linking rules.Origin = true
is_linking rules.Bytes = true
is_linking rules.Digits = true
is_linking rules.Fill = false
is_linking rules.Excess = false
is_linking rules.Add = true
is_linking rules.Subtract = true
is_linking rules.Plain = false

abbrev pub link_of : RuleInst → List RuleForm
link_of rule = if is_linking rule.rule then rule.form ∷ [] else []

abbrev pub links_among : List RuleInst → List RuleForm
links_among [] = []
links_among (rule ∷ rules) = link_of rule ++ links_among rules

-- the links of a portfolio with that labelling
abbrev pub links : List Fact → Portfolio → List RuleForm
links facts portfolio = links_among (linking_rules facts portfolio)
