-- The faults of a program, in their order. The rules of an entry that rest on no length come before the entries
-- under it, and those that rest on a length after them; at one entry those of form come before others.
use Rattle.std.specs.Prelude.{ℕ, ◌≡◌, ◌⊎◌, Bool, true, false, not, ◌||◌, bytes_eq, List, [], ◌∷◌, ◌++◌, Option, Some, None, if◌then◌else◌, Result, Ok, Err, slice_get}
use Rattle.y2k_base.specs.declared.word.Word.{Word}
use Rattle.y2k_base.specs.declared.word.Origin.{Origin}
use Rattle.cobol_syntax.specs.declared.program.Entry.{Entry}
use Rattle.cobol_syntax.specs.declared.program.FileEntry.{FileEntry}
use Rattle.cobol_syntax.specs.declared.program.Program.{Program}
use Rattle.data_layout.specs.declared.fault.LayoutFault.{LayoutFault}
use Rattle.data_layout.specs.declared.fault.LayoutFault.TheVariants.{LayoutShape, AreaFull, NameTwice, Memory}
use Rattle.data_layout.specs.declared.rules.Setting.{Setting}
use Rattle.data_layout.specs.declared.rules.Objects.{Objects}
use Rattle.data_layout.specs.Tree.{Forest, nothing, node}
use Rattle.data_layout.specs.Sizes.{is_named, size, whole}
use Rattle.data_layout.specs.Sections.{tops, greatest}
use Rattle.data_layout.specs.Rules.{holds_items, keeps_rules, keeps_lengths, fits_area, setting_in, section, no_objects, objects_after, contains_right}

-- where the word at a position stands
abbrev pub origin_of : Option Word → Origin
origin_of None = record { file = record { 0 = 0 }; line = 0; column = 0 }
origin_of (Some word) = word.origin

abbrev pub origin_at : List Word → ℕ → Origin
origin_at words at = origin_of (slice_get words at)

-- the fault, unless it holds
abbrev pub unless : Bool → LayoutFault → List LayoutFault
unless kept fault = if kept then [] else fault ∷ []

-- which names stand side by side so far
abbrev pub Known : Type 0
Known = List ℕ → Bool

abbrev pub no_names : Known
no_names = λ _. false

-- whether a name stands already; FILLER is no name
abbrev pub is_again : Known → Option (List ℕ) → Bool
is_again names None = false
is_again names (Some name) = names name

abbrev pub with_bytes : Known → List ℕ → Known
with_bytes names name = λ other. bytes_eq other name || names other

abbrev pub with_name : Known → Option (List ℕ) → Known
with_name names None = names
with_name names (Some name) = with_bytes names name

abbrev pub twice : Bool → LayoutFault → List LayoutFault
twice again fault = if again then fault ∷ [] else []

-- where a name stands twice
abbrev pub at_twice : List Word → ℕ → LayoutFault
at_twice words at = NameTwice (origin_at words at)

-- a condition-name lies in an item
abbrev pub faults_of_name : List Word → Setting → Known → Entry → List LayoutFault
faults_of_name words setting names e =
    unless (not setting.top) (LayoutShape (origin_at words e.at))
    ++ twice (is_again names e.name) (at_twice words e.at)

-- what rests on no length
abbrev pub faults_before : List Word → Setting → Known → Objects → Entry → Bool → List LayoutFault
faults_before words setting names objects e items =
    unless (keeps_rules setting objects e items) (LayoutShape (origin_at words e.at))
    ++ twice (is_again names e.name) (at_twice words e.at)

-- what rests on the bytes of one occurrence, and of all
abbrev pub faults_after : List Word → Setting → Objects → Entry → ℕ → ℕ → List LayoutFault
faults_after words setting objects e one all =
    unless (keeps_lengths objects e one all) (LayoutShape (origin_at words e.at))
    ++ unless (fits_area setting all) (AreaFull (origin_at words e.at))

-- the faults of entries side by side, which stand after these names and objects, and of the entries under them
abbrev pub faults : List Word → Setting → Known → Objects → Forest → List LayoutFault
faults words setting names objects nothing = []
faults words setting names objects (node e parts others) =
    if is_named e
    then faults_of_name words setting names e ++ faults words setting (with_name names e.name) objects others
    else (faults_before words setting names objects e (holds_items parts)
    ++ (faults words (setting_in setting e) no_names no_objects parts
    ++ faults_after words setting objects e (size e parts) (whole e parts)))
    ++ faults words setting (with_name names e.name) (objects_after objects e (whole e parts)) others

-- the faults of an item and of the entries under it
abbrev pub faults_of_item : List Word → Setting → Known → Objects → Entry → Forest → List LayoutFault
faults_of_item words setting names objects e parts =
    faults_before words setting names objects e (holds_items parts)
    ++ (faults words (setting_in setting e) no_names no_objects parts
    ++ faults_after words setting objects e (size e parts) (whole e parts))

-- the names with those of entries side by side
abbrev pub names_after : Known → Forest → Known
names_after names nothing = names
names_after names (node e parts others) = names_after (with_name names e.name) others

-- the faults of a file: RECORD CONTAINS comes after its entries
abbrev pub faults_of_file : List Word → Known → FileEntry → List LayoutFault
faults_of_file words names file =
    faults words (section true) names no_objects (tops file.entries)
    ++ unless (contains_right file.contains (greatest 0 (tops file.entries))) (LayoutShape (origin_at words file.at))

abbrev pub faults_of_files : List Word → Known → List FileEntry → List LayoutFault
faults_of_files words names [] = []
faults_of_files words names (file ∷ files) =
    faults_of_file words names file ++ faults_of_files words (names_after names (tops file.entries)) files

abbrev pub names_after_files : Known → List FileEntry → Known
names_after_files names [] = names
names_after_files names (file ∷ files) = names_after_files (names_after names (tops file.entries)) files

-- the faults of a program: the names of 01 and 77 items are compared over all files and working storage
abbrev pub faults_of : Program → List LayoutFault
faults_of program =
    faults_of_files program.words no_names program.files
    ++ faults program.words (section false) (names_after_files no_names program.files) no_objects (tops program.storage)

abbrev pub first : List LayoutFault → Option LayoutFault
first [] = None
first (fault ∷ fs) = Some fault

-- the fault is the first of these; want of memory says nothing of them
abbrev pub IsFirst : LayoutFault → List LayoutFault → Type 0
IsFirst fault fs = (fault ≡ Memory) ⊎ (first fs ≡ Some fault)

-- a check answers that there are no faults, or the first
abbrev pub Tells : {A : Type 0} → Result A LayoutFault → List LayoutFault → Type 0
Tells (Ok value) fs = fs ≡ []
Tells (Err fault) fs = IsFirst fault fs
