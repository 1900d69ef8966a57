-- Sound portfolios.
use Rattle.std.specs.Prelude.{◌≡◌, ℕ, ◌+◌, ◌≤◌, true, List, [], ◌∷◌, length}
use Rattle.std.specs.List.{AllByRecursion}
use Rattle.y2k_base.specs.declared.place.AreaId.{AreaId}
use Rattle.cobol_syntax.specs.declared.program.Program.{Program}
use Rattle.data_layout.specs.declared.item.Layout.{Layout}
use Rattle.data_layout.specs.declared.portfolio.Portfolio.{Portfolio}
use Rattle.name_tables.specs.Names.{Known, no_names, with_name, NonePasses}
use Rattle.program_names.specs.Areas.{bytes_of}
use Rattle.program_names.specs.Repeats.{name_faults}
use Rattle.program_texts.specs.Programs.{IsLaid}
use Rattle.program_uses.specs.Uses.{use_faults}
use Rattle.file_uses.specs.Files.{files_by, unlike_by}
use Rattle.tree_words.specs.Fits.{program_fits}

-- each layout is that of its program, which breaks no rule of layouts; areas are numbered over all programs
abbrev pub AreLaid : AreaId → List Program → List Layout → Type 0
AreLaid first [] [] = Unit {0}
AreLaid first [] (l ∷ ls) = ⊥
AreLaid first (p ∷ ps) [] = ⊥
AreLaid first (p ∷ ps) (l ∷ ls) = IsLaid first p l × AreLaid (record { 0 = first.0 + length l.areas }) ps ls

-- the bytes of all areas
abbrev pub bytes_of_all : List Layout → ℕ
bytes_of_all [] = 0
bytes_of_all (l ∷ ls) = bytes_of l.areas + bytes_of_all ls

-- names that may stand once do
abbrev pub AreOwn : Known → List Program → Type 0
AreOwn others [] = Unit {0}
AreOwn others (p ∷ ps) = (name_faults others p ≡ []) × AreOwn (with_name others p.id) ps

-- names are used as what they are
abbrev pub AreUsed : List Program → List Layout → Type 0
AreUsed [] ls = Unit {0}
AreUsed (p ∷ ps) [] = ⊥
AreUsed (p ∷ ps) (l ∷ ls) = (use_faults l p ≡ []) × AreUsed ps ls

-- the positions in a tree are those of its program's words, and its number literals are numbers that a word can spell
abbrev pub FitsItsWords : Program → Type 0
FitsItsWords p = program_fits p ≡ true

pub record IsSound (p : Portfolio) : Type 0 where
  pub trees : AllByRecursion FitsItsWords p.programs
  pub laid : AreLaid (record { 0 = 0 }) p.programs p.layouts
  pub most : bytes_of_all p.layouts ≤ 4000000
  pub own : AreOwn no_names p.programs
  pub used : AreUsed p.programs p.layouts
  pub names : List ℕ → List ℕ
  pub listed : p.files ≡ files_by names p.programs p.layouts
  pub lengths : NonePasses (unlike_by names p.programs p.layouts)
