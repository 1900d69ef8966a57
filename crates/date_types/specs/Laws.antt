-- What the rules of a portfolio say of its tables, its files and its pictures.
use Rattle.std.specs.Prelude.{◌≡◌, ℕ, true, List, Contains, Some, slice_get}
use Rattle.cobol_syntax.specs.declared.program.Program.{Program}
use Rattle.data_layout.specs.declared.item.Item.{Item}
use Rattle.data_layout.specs.declared.item.Step.{Step}
use Rattle.data_layout.specs.declared.item.Layout.{Layout}
use Rattle.data_layout.specs.declared.portfolio.FileUse.{FileUse}
use Rattle.data_layout.specs.declared.portfolio.FileArea.{FileArea}
use Rattle.data_layout.specs.declared.portfolio.Portfolio.{Portfolio}
use Rattle.year_labels.specs.declared.rule.RuleInst.{RuleInst}
use Rattle.date_types.specs.Tables.{own_step, repeats, record_of}
use Rattle.date_views.specs.Uses.{front}
use Rattle.date_types.specs.declared.pictures.Pictured.{Pictured}
use Rattle.date_types.specs.Pictures.{pictured}
use Rattle.date_types.specs.Alike.{AreAlike, AreOccurrencesAlike}

-- any two occurrences of an item with OCCURS are alike
abbrev pub AreTablesAlike : Portfolio → List RuleInst → Type 0
AreTablesAlike portfolio rules =
    (n : ℕ) (program : Program) (layout : Layout) (item : Item) (step : Step)
    → slice_get portfolio.programs n ≡ Some program → slice_get portfolio.layouts n ≡ Some layout
    → Contains layout.items item → own_step layout.items item ≡ Some step → repeats item.span step ≡ true
    → AreOccurrencesAlike rules item.span step

-- the record areas of any two programs for one file are alike
abbrev pub AreFilesAlike : Portfolio → List RuleInst → Type 0
AreFilesAlike portfolio rules =
    (file : FileUse) (a b : FileArea) → Contains portfolio.files file → Contains file.areas a → Contains file.areas b
    → AreAlike rules (record_of a file.length) (record_of b file.length)

-- any two items whose pictures are one PICTURE word are alike, up to the shorter
abbrev pub ArePicturesAlike : Portfolio → List RuleInst → Type 0
ArePicturesAlike portfolio rules =
    (a b : Pictured) → Contains (pictured portfolio.programs portfolio.layouts) a → Contains (pictured portfolio.programs portfolio.layouts) b
    → a.origin ≡ b.origin → AreAlike rules (front a.span b.span.length) (front b.span a.span.length)
