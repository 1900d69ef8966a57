-- The names of the SELECT entries, of the files, and of the sections and paragraphs of a program.
use Rattle.std.specs.Prelude.{ℕ, Bool, true, false, bytes_eq, List, [], ◌∷◌, Option, Some, None, if◌then◌else◌}
use Rattle.std.specs.Ordering.{nat_cmp}
use Rattle.std.specs.Cmp.Lexicographic.{slice_cmp}
use Rattle.std.specs.BTreeMap.{get_by}
use Rattle.cobol_syntax.specs.declared.program.Select.{Select}
use Rattle.cobol_syntax.specs.declared.program.FileEntry.{FileEntry}
use Rattle.cobol_syntax.specs.declared.program.Paragraph.{Paragraph}
use Rattle.operand_uses.specs.declared.fault.NameKind.{NameKind}
use Rattle.operand_uses.specs.declared.fault.NameKind.TheVariants as name
use Rattle.program_uses.specs.declared.names.NameMap.{NameMap}

-- what is wrong with a name that is to mean one of some things
abbrev pub Known : Type 0
Known = List ℕ → Option NameKind

abbrev pub no_names : Known
no_names = λ _. Some name.Unknown

-- a name that stands once more
abbrev pub once_more : Option NameKind → Option NameKind
once_more None = Some name.Twice
once_more (Some name.Unknown) = None
once_more (Some name.Twice) = Some name.Twice

abbrev pub with_name : Known → List ℕ → Known
with_name names own = λ other. if bytes_eq own other then once_more (names other) else names other

abbrev pub with_selects : Known → List Select → Known
with_selects names [] = names
with_selects names (select ∷ selects) = with_selects (with_name names select.name) selects

abbrev pub with_files : Known → List FileEntry → Known
with_files names [] = names
with_files names (file ∷ files) = with_files (with_name names file.name) files

abbrev pub with_paragraphs : Known → List Paragraph → Known
with_paragraphs names [] = names
with_paragraphs names (paragraph ∷ paragraphs) = with_paragraphs (with_name names paragraph.name) paragraphs

-- what the map says of a name
abbrev pub wrong_of : Option Bool → Option NameKind
wrong_of None = Some name.Unknown
wrong_of (Some false) = None
wrong_of (Some true) = Some name.Twice

abbrev pub known : NameMap → Known
known map other = wrong_of (get_by (λ k. slice_cmp nat_cmp other k.items) map.more)
