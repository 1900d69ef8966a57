-- External names: which are known, which programs select, and which of them are at fault.
use Rattle.std.specs.Prelude.{ℕ, Bool, true, not, ◌||◌, List, [], ◌∷◌, ◌++◌, map, Option, Some, None, is_some, unwrap_or, option_map, if◌then◌else◌}
use Rattle.cobol_syntax.specs.declared.program.Program.{Program}
use Rattle.cobol_syntax.specs.declared.program.Select.{Select}
use Rattle.name_tables.specs.Names.{Known, no_names, with_name}
use Rattle.name_tables.specs.Table.{held, holds_nothing, with_value}
use Rattle.name_tables.specs.declared.table.NameTable.{NameTable}
use Rattle.portfolio.specs.declared.manifest.Named.{Named}
use Rattle.file_uses.specs.declared.known.KnownFiles.{KnownFiles}
use denote.Ref.{Bor}

abbrev pub list_of : Option (Bor (List Named)) → Option (List Named)
list_of files = option_map (λ (list : Bor (List Named)). list.now) files

-- the names of files by their external names; of several of one external name the last
abbrev pub with_files : (List ℕ → Option (List ℕ)) → List Named → List ℕ → Option (List ℕ)
with_files before [] = before
with_files before (file ∷ files) = with_files (with_value before file.key file.name) files

abbrev pub names_in : List Named → List ℕ → Option (List ℕ)
names_in files = with_files holds_nothing files

-- where no names are given, each external name is known, and is its own file's name
abbrev pub is_known : Option (List Named) → List ℕ → Bool
is_known None external = true
is_known (Some files) external = is_some (names_in files external)

abbrev pub name_of : Option (List Named) → List ℕ → List ℕ
name_of None external = external
name_of (Some files) external = unwrap_or (names_in files external) external

-- the same of the names as the code keeps them
abbrev pub shown : NameTable (Bor (List ℕ)) → List ℕ → Option (List ℕ)
shown names external = option_map (λ (name : Bor (List ℕ)). name.now) (held names external)

abbrev pub known_by : KnownFiles → List ℕ → Bool
known_by known external = known.all || is_some (shown known.names external)

abbrev pub name_by : KnownFiles → List ℕ → List ℕ
name_by known external = unwrap_or (shown known.names external) external

abbrev pub with_names : Known → List (List ℕ) → Known
with_names names [] = names
with_names names (n ∷ ns) = with_names (with_name names n) ns

abbrev pub external_of : Select → List ℕ
external_of s = s.external

-- a name that isn't known, or that the program has selected before
abbrev pub is_unknown : (List ℕ → Bool) → Known → List ℕ → Bool
is_unknown known before external = not (known external) || before external

abbrev pub unknown_in : (List ℕ → Bool) → Known → List Select → List (List ℕ)
unknown_in known before [] = []
unknown_in known before (s ∷ ss) =
    (if is_unknown known before s.external then s.external ∷ [] else []) ++ unknown_in known (with_name before s.external) ss

abbrev pub unknown_selected : (List ℕ → Bool) → List Program → List (List ℕ)
unknown_selected known [] = []
unknown_selected known (p ∷ ps) = unknown_in known no_names p.selects ++ unknown_selected known ps

-- what programs select
abbrev pub externals : List Program → List (List ℕ)
externals [] = []
externals (p ∷ ps) = map external_of p.selects ++ externals ps

abbrev pub selected_by : List Program → Known
selected_by programs = with_names no_names (externals programs)

-- names that are known and that no program selects
abbrev pub unselected_in : Known → List Named → List (List ℕ)
unselected_in selected [] = []
unselected_in selected (file ∷ files) = (if selected file.key then [] else file.key ∷ []) ++ unselected_in selected files

abbrev pub unselected : Option (List Named) → Known → List (List ℕ)
unselected None selected = []
unselected (Some files) selected = unselected_in selected files

-- the names at fault
abbrev pub unknown_by : (List ℕ → Bool) → Option (List Named) → List Program → Known
unknown_by known files programs =
    with_names no_names (unknown_selected known programs ++ unselected files (selected_by programs))
