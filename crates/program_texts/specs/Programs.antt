-- The programs that the words of texts are, with their layouts, in their order; and why they are none.
use Rattle.std.specs.Prelude.{◌≡◌, ◌⊎◌, ℕ, ◌+◌, List, [], ◌∷◌, length, Ok}
use Rattle.y2k_base.specs.declared.place.AreaId.{AreaId}
use Rattle.y2k_base.specs.declared.word.FileId.{FileId}
use Rattle.y2k_base.specs.declared.word.Word.{Word}
use Rattle.cobol_syntax.specs.declared.program.Program.{Program}
use Rattle.copy_origins.specs.Expansion.{IsExpansion, HasCopyFault}
use Rattle.copy_origins.specs.declared.books.Book.{Book}
use Rattle.copy_origins.specs.declared.books.CopyFault.{CopyFault}
use Rattle.copy_origins.specs.declared.books.CopyFault.TheVariants as copy
use Rattle.data_layout.specs.Faults as layouts
use Rattle.data_layout.specs.Index.{IsReady}
use Rattle.data_layout.specs.Sections.{IsLayout}
use Rattle.data_layout.specs.declared.fault.LayoutFault.{LayoutFault}
use Rattle.data_layout.specs.declared.fault.LayoutFault.TheVariants as laid
use Rattle.data_layout.specs.declared.item.Layout.{Layout}
use Rattle.name_tables.specs.Names.{Known, named, no_names, with_name}
use Rattle.program_reader.specs.IsReads.{IsRead, HasReadFault}
use Rattle.program_reader.specs.Whole.{IsAnswer, IsRefusal}
use Rattle.program_reader.specs.declared.fault.ReadFault.{ReadFault}
use Rattle.program_reader.specs.declared.fault.ReadFault.TheVariants as fault
use Rattle.program_reader.specs.declared.fault.RefusedKind.TheVariants as kind
use Rattle.program_names.specs.Areas.{bytes_of, area_faults}
use Rattle.program_names.specs.Repeats.{name_faults, IsFirst}
use Rattle.program_uses.specs.Uses.{use_faults, IsFirstUse}
use Rattle.program_texts.specs.declared.line.Source.{Source}
use Rattle.program_texts.specs.declared.progress.Progress.{Progress}

-- what stands before a program: how many programs, the next area, the bytes of all areas, the names of programs
pub record Before : Type 0 where
  pub programs : ℕ
  pub area : AreaId
  pub bytes : ℕ
  pub names : Known

abbrev pub nothing : Before
nothing = record { programs = 0; area = record { 0 = 0 }; bytes = 0; names = no_names }

abbrev pub after : Before → Program → Layout → Before
after before program layout = record {
  programs = before.programs + 1;
  area = record { 0 = before.area.0 + length layout.areas };
  bytes = before.bytes + bytes_of layout.areas;
  names = with_name before.names program.id;
}

abbrev pub before_of : Progress → Before
before_of p = record { programs = p.programs; area = p.area; bytes = p.bytes; names = named p.names }

-- expanded words read as this program of this number
abbrev pub IsTreeOf : List Word → ℕ → FileId → Program → Type 0
IsTreeOf words number file tree = IsRead words number file tree × IsAnswer words number file (Ok tree)

-- the same of the words of a text, with its copybooks
abbrev pub IsTree : List Book → ℕ → Source → Program → Type 0
IsTree books number source tree =
    (expanded : List Word) × IsExpansion source.words books expanded × IsTreeOf expanded number source.file tree

-- the layout is that of the program, which breaks no rule of layouts
abbrev pub IsLaid : AreaId → Program → Layout → Type 0
IsLaid first program layout = IsLayout first program layout × (layouts.faults_of program ≡ []) × IsReady layout

-- its names are its own, and are used as what they are
abbrev pub IsNamed : Before → Program → Layout → Type 0
IsNamed before program layout = (name_faults before.names program ≡ []) × (use_faults layout program ≡ [])

-- nothing that is checked after the layout stands against the program
abbrev pub IsFree : Before → Program → Layout → Type 0
IsFree before program layout = (area_faults before.bytes program layout ≡ []) × IsNamed before program layout

-- a source is this program with this layout, after what stands before it
pub record IsMember (books : List Book) (before : Before) (source : Source) (program : Program) (layout : Layout) : Type 0 where
  pub tree : IsTree books before.programs source program
  pub laid : IsLaid before.area program layout
  pub free : IsFree before program layout

-- sources are these programs with these layouts, one after the other
abbrev pub AreMembers : List Book → Before → List Source → List Program → List Layout → Type 0
AreMembers books before [] [] [] = Unit {0}
AreMembers books before [] [] (l ∷ ls) = ⊥
AreMembers books before [] (p ∷ ps) ls = ⊥
AreMembers books before (s ∷ ss) [] ls = ⊥
AreMembers books before (s ∷ ss) (p ∷ ps) [] = ⊥
AreMembers books before (s ∷ ss) (p ∷ ps) (l ∷ ls) = IsMember books before s p l × AreMembers books (after before p l) ss ps ls

abbrev pub copy_refusal : CopyFault → ReadFault
copy_refusal (copy.CopyShape at) = fault.Refused (record { kind = kind.CopyShape; at = at })
copy_refusal (copy.CopyMissing at) = fault.Refused (record { kind = kind.CopyMissing; at = at })
copy_refusal (copy.NestedCopy at) = fault.Refused (record { kind = kind.NestedCopy; at = at })
copy_refusal copy.Memory = fault.Memory

abbrev pub layout_refusal : LayoutFault → ReadFault
layout_refusal (laid.LayoutShape at) = fault.Refused (record { kind = kind.LayoutShape; at = at })
layout_refusal (laid.AreaFull at) = fault.Refused (record { kind = kind.AreaFull; at = at })
layout_refusal (laid.NameTwice at) = fault.Refused (record { kind = kind.NameTwice; at = at })
layout_refusal laid.Memory = fault.Memory

-- expanded words are no program
abbrev pub IsUnread : List Word → ℕ → FileId → ReadFault → Type 0
IsUnread words number file fault = HasReadFault words number file fault × IsRefusal words number file fault

-- the words of a text have no expansion, or what they expand to is no program
abbrev pub IsRefusedSource : List Book → ℕ → Source → ReadFault → Type 0
IsRefusedSource books number source fault =
    ((f : CopyFault) × HasCopyFault source.words books f × (fault ≡ copy_refusal f))
    ⊎ ((expanded : List Word) × IsExpansion source.words books expanded × IsUnread expanded number source.file fault)

-- a program breaks a rule of layouts
abbrev pub IsUnlaid : Program → ReadFault → Type 0
IsUnlaid program fault = (f : LayoutFault) × layouts.IsFirst f (layouts.faults_of program) × (fault ≡ layout_refusal f)

-- the names of a program, then its uses
abbrev pub IsRefusedNamed : Before → Program → Layout → ReadFault → Type 0
IsRefusedNamed before program layout fault =
    IsFirst fault (name_faults before.names program)
    ⊎ ((name_faults before.names program ≡ []) × IsFirstUse fault (use_faults layout program))

-- the bytes of all areas, then the names and uses
abbrev pub IsRefusedLaid : Before → Program → Layout → ReadFault → Type 0
IsRefusedLaid before program layout fault =
    IsFirst fault (area_faults before.bytes program layout)
    ⊎ ((area_faults before.bytes program layout ≡ []) × IsRefusedNamed before program layout fault)

-- the layout, then what is checked after it
abbrev pub IsRefusedTree : Before → Program → ReadFault → Type 0
IsRefusedTree before program fault =
    IsUnlaid program fault ⊎ ((layout : Layout) × IsLaid before.area program layout × IsRefusedLaid before program layout fault)

-- why a source is no program
abbrev pub IsRefused : List Book → Before → Source → ReadFault → Type 0
IsRefused books before source fault =
    IsRefusedSource books before.programs source fault
    ⊎ ((program : Program) × IsTree books before.programs source program × IsRefusedTree before program fault)

-- the first source that is no program is refused
abbrev pub AreRefused : List Book → Before → List Source → ReadFault → Type 0
AreRefused books before [] fault = ⊥
AreRefused books before (s ∷ ss) fault =
    IsRefused books before s fault
    ⊎ ((p : Program) × (l : Layout) × IsMember books before s p l × AreRefused books (after before p l) ss fault)

-- why sources are no programs; want of memory says nothing
abbrev pub HasRefusal : List Book → List Source → ReadFault → Type 0
HasRefusal books sources (fault.Refused refused) = AreRefused books nothing sources (fault.Refused refused)
HasRefusal books sources fault.Memory = Unit {0}
