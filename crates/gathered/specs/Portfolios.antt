-- The portfolio that texts are, and why they are none.
use Rattle.std.specs.Prelude.{◌≡◌, ◌⊎◌, List, Option}
use Rattle.y2k_base.specs.declared.text.Text.{Text}
use Rattle.cobol_syntax.specs.declared.program.Program.{Program}
use Rattle.data_layout.specs.declared.item.Layout.{Layout}
use Rattle.data_layout.specs.declared.portfolio.FileUse.{FileUse}
use Rattle.data_layout.specs.declared.portfolio.Portfolio.{Portfolio}
use Rattle.name_tables.specs.Names.{IsLeast, NonePasses}
use Rattle.portfolio.specs.declared.manifest.Named.{Named}
use Rattle.program_reader.specs.declared.fault.ReadFault.TheVariants as read
use Rattle.program_texts.specs.Texts.{words_of, AreWhole, HasLineFault}
use Rattle.program_texts.specs.Programs.{nothing, AreMembers, AreRefused}
use Rattle.program_texts.specs.declared.line.TextWords.{TextWords}
use Rattle.file_uses.specs.Files.{files_of, unknown_files, unlike_files}
use Rattle.gathered.specs.declared.fault.GatherFault.{GatherFault}
use Rattle.gathered.specs.declared.fault.GatherFault.TheVariants as fault

-- the external files of programs, of which none is at fault
pub record AreFiles (files : Option (List Named)) (programs : List Program) (layouts : List Layout) (used : List FileUse) : Type 0 where
  pub is : used ≡ files_of files programs layouts
  pub known : NonePasses (unknown_files files programs)
  pub lengths : NonePasses (unlike_files files programs layouts)

-- the words of texts are this portfolio: each program is read from its own words with the copybooks, laid out and
-- checked after those before it
pub record IsPortfolioOf (words : TextWords) (files : Option (List Named)) (p : Portfolio) : Type 0 where
  pub members : AreMembers words.books.list nothing words.sources p.programs p.layouts
  pub files_used : AreFiles files p.programs p.layouts p.files

-- texts without fault in their lines are this portfolio
abbrev pub IsPortfolio : List Text → Option (List Named) → Portfolio → Type 0
IsPortfolio texts files p = AreWhole texts × IsPortfolioOf (words_of texts) files p

-- the external files of programs are at fault: first the names, then the lengths of records
abbrev pub IsFileRefusal : Option (List Named) → List Program → List Layout → GatherFault → Type 0
IsFileRefusal files programs layouts (fault.Refused refused) = ⊥
IsFileRefusal files programs layouts (fault.Missing name) = ⊥
IsFileRefusal files programs layouts (fault.TooLarge name) = ⊥
IsFileRefusal files programs layouts (fault.FileUnknown name) = IsLeast (unknown_files files programs) name
IsFileRefusal files programs layouts (fault.RecordLengths name) =
    NonePasses (unknown_files files programs) × IsLeast (unlike_files files programs layouts) name
IsFileRefusal files programs layouts (fault.Shelf name) = ⊥
IsFileRefusal files programs layouts fault.Memory = Unit {0}

-- the first program that can't stand is refused
abbrev pub IsProgramRefusal : TextWords → GatherFault → Type 0
IsProgramRefusal words (fault.Refused refused) = AreRefused words.books.list nothing words.sources (read.Refused refused)
IsProgramRefusal words (fault.Missing name) = ⊥
IsProgramRefusal words (fault.TooLarge name) = ⊥
IsProgramRefusal words (fault.FileUnknown name) = ⊥
IsProgramRefusal words (fault.RecordLengths name) = ⊥
IsProgramRefusal words (fault.Shelf name) = ⊥
IsProgramRefusal words fault.Memory = Unit {0}

-- the programs, then their files
abbrev pub IsRefusedOf : TextWords → Option (List Named) → GatherFault → Type 0
IsRefusedOf words files fault =
    IsProgramRefusal words fault
    ⊎ ((ps : List Program) × (ls : List Layout) × AreMembers words.books.list nothing words.sources ps ls × IsFileRefusal files ps ls fault)

-- the first fault in the lines of a text
abbrev pub IsLineRefusal : List Text → GatherFault → Type 0
IsLineRefusal texts (fault.Refused refused) = HasLineFault texts (read.Refused refused)
IsLineRefusal texts (fault.Missing name) = ⊥
IsLineRefusal texts (fault.TooLarge name) = ⊥
IsLineRefusal texts (fault.FileUnknown name) = ⊥
IsLineRefusal texts (fault.RecordLengths name) = ⊥
IsLineRefusal texts (fault.Shelf name) = ⊥
IsLineRefusal texts fault.Memory = Unit {0}

-- the lines of all texts, then the programs and their files
abbrev pub IsRefused : List Text → Option (List Named) → GatherFault → Type 0
IsRefused texts files fault =
    IsLineRefusal texts fault ⊎ (AreWhole texts × IsRefusedOf (words_of texts) files fault)
