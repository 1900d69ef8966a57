-- The faults of a manifest, each kind by itself, and which of them is named.
use Rattle.std.specs.Prelude.{◌≡◌, ℕ, Bool, true, false, not, ◌&&◌, nat_le, List, [], ◌++◌, map, Some, None, is_some, is_none, option_map, if◌then◌else◌}
use Rattle.std.specs.List.{list_any, find, count_by}
use Rattle.std.specs.Option.{option_map_or, option_to_list}
use Rattle.std.specs.Str.{bytes_eq}
use Rattle.std.specs.Cmp.Lexicographic.{slice_cmp}
use Rattle.std.specs.Ordering.{nat_cmp, is_lt}
use Rattle.toml.specs.Data.{Data, Members, get_member}
use Rattle.portfolio.specs.Keys.{word, all_keys, needed_keys, is_word_of}
use Rattle.portfolio.specs.Names.{is_file_name}
use Rattle.portfolio.specs.Values.{is_number_to, is_text, is_text_list, is_program_list, is_table_of, is_group_list}
use Rattle.portfolio.specs.Meaning.{value_at, is_first_version, manifest_of}
use Rattle.portfolio.specs.declared.key.Key.{Key}
use Rattle.portfolio.specs.declared.key.Key.TheVariants.{Version, Pivot, Programs, Copybooks, Seeds, Window, Files, Jobs}
use Rattle.portfolio.specs.declared.shape.Entry.TheVariants.{Name, Book, Job}
use Rattle.portfolio.specs.declared.manifest.Manifest.{Manifest}
use Rattle.portfolio.specs.declared.manifest.Named.{Named}
use Rattle.portfolio.specs.declared.fault.ManifestKind.{ManifestKind}
use Rattle.portfolio.specs.declared.fault.ManifestKind.TheVariants.{MissingKey, BadValue, BadName, UnknownKey, NameTwice}
use Rattle.portfolio.specs.declared.fault.ManifestFault.{ManifestFault}
use Rattle.portfolio.specs.declared.fault.ManifestFault.TheVariants.{At, Memory}

abbrev pub is_missing : Members → Key → Bool
is_missing tree key = is_none (value_at key tree)

-- whether a value has its key's type and range
abbrev pub is_right : Bool → Key → Data → Bool
is_right first Version d = is_number_to 2 d
is_right first Pivot d = is_number_to 99 d
is_right first Programs d = is_program_list d
is_right first Copybooks d = is_table_of Book d
is_right first Seeds d = is_text d
is_right first Window d = if first then is_text_list d else is_group_list d
is_right first Files d = is_table_of Name d
is_right first Jobs d = is_table_of Job d

abbrev pub has_bad_value : Members → Key → Bool
has_bad_value tree key = option_map_or (λ d. not (is_right (is_first_version tree) key d)) (value_at key tree) false

abbrev pub file_of : Named → List ℕ
file_of named = named.name

-- the file names that stand at a key
abbrev pub files_at : Key → Manifest → List (List ℕ)
files_at Programs m = m.programs
files_at Copybooks m = map file_of m.copybooks
files_at Seeds m = option_to_list m.seeds
files_at Files m = map file_of m.files
files_at _ m = []

abbrev pub is_bad_name : List ℕ → Bool
is_bad_name name = not (is_file_name name)

abbrev pub has_bad_name : Manifest → Key → Bool
has_bad_name m key = list_any is_bad_name (files_at key m)

-- a key of the table, but none of a manifest
abbrev pub is_unknown : Members → List ℕ → Bool
is_unknown tree key = is_some (get_member key tree) && not (is_word_of all_keys key)

abbrev pub all_files : Manifest → List (List ℕ)
all_files m = files_at Programs m ++ (files_at Copybooks m ++ (files_at Seeds m ++ files_at Files m))

abbrev pub is_twice_in : List (List ℕ) → List ℕ → Bool
is_twice_in names name = nat_le 2 (count_by (bytes_eq name) names)

-- the least in byte order of those that pass
abbrev pub IsLeast : (List ℕ → Bool) → List ℕ → Type 0
IsLeast test key = (test key ≡ true) × ((other : List ℕ) → test other ≡ true → is_lt (slice_cmp nat_cmp other key) ≡ false)

abbrev pub NonePasses : (List ℕ → Bool) → Type 0
NonePasses test = (other : List ℕ) → test other ≡ false

-- the first of these keys that passes is written so
abbrev pub IsFirst : (Key → Bool) → List Key → List ℕ → Type 0
IsFirst test keys text = option_map word (find test keys) ≡ Some text

-- a fault of this kind stands, and it names the key
abbrev pub Stands : ManifestKind → Members → List ℕ → Type 0
Stands MissingKey tree key = IsFirst (is_missing tree) needed_keys key
Stands BadValue tree key = IsFirst (has_bad_value tree) all_keys key
Stands BadName tree key = IsFirst (has_bad_name (manifest_of tree)) all_keys key
Stands UnknownKey tree key = IsLeast (is_unknown tree) key
Stands NameTwice tree key = IsLeast (is_twice_in (all_files (manifest_of tree))) key

-- no fault of this kind stands
abbrev pub IsFree : ManifestKind → Members → Type 0
IsFree MissingKey tree = find (is_missing tree) needed_keys ≡ None
IsFree BadValue tree = find (has_bad_value tree) all_keys ≡ None
IsFree BadName tree = find (has_bad_name (manifest_of tree)) all_keys ≡ None
IsFree UnknownKey tree = NonePasses (is_unknown tree)
IsFree NameTwice tree = NonePasses (is_twice_in (all_files (manifest_of tree)))

-- no fault of an earlier kind stands
abbrev pub IsFreeBefore : ManifestKind → Members → Type 0
IsFreeBefore MissingKey tree = Unit {0}
IsFreeBefore BadValue tree = IsFree MissingKey tree
IsFreeBefore BadName tree = IsFree MissingKey tree × IsFree BadValue tree
IsFreeBefore UnknownKey tree = IsFree MissingKey tree × (IsFree BadValue tree × IsFree BadName tree)
IsFreeBefore NameTwice tree = IsFree MissingKey tree × (IsFree BadValue tree × (IsFree BadName tree × IsFree UnknownKey tree))

abbrev pub HasNoFault : Members → Type 0
HasNoFault tree = IsFreeBefore NameTwice tree × IsFree NameTwice tree

abbrev pub HasFault : Members → ManifestFault → Type 0
HasFault tree (At kind key) = IsFreeBefore kind tree × Stands kind tree key
HasFault tree Memory = Unit {0}

-- the table has no other fault than this one
abbrev pub IsOnlyFault : Members → ManifestFault → Type 0
IsOnlyFault tree (At kind key) = (HasNoFault tree → ⊥) × ((other : ManifestKind) (named : List ℕ) → HasFault tree (At other named) → (other ≡ kind) × (named ≡ key))
IsOnlyFault tree Memory = Unit {0}

-- this fault, or want of memory
abbrev pub IsRefusal : ManifestKind → List ℕ → ManifestFault → Type 0
IsRefusal kind key (At other named) = (other ≡ kind) × (named ≡ key)
IsRefusal kind key Memory = Unit {0}

-- a fault of this kind, or want of memory
abbrev pub IsOfKind : ManifestKind → (List ℕ → Type 0) → ManifestFault → Type 0
IsOfKind kind names (At other key) = (other ≡ kind) × names key
IsOfKind kind names Memory = Unit {0}
