-- The programs of a portfolio, with their items and files.
use Rattle.std.specs.Prelude.{ℕ, ◌+◌, Bool, false, cond, ◌||◌, List, [], ◌∷◌, ◌++◌, Option, Some, None}
use Rattle.program_meaning.specs.Tree.{Name, Place, Paragraph}
use Rattle.program_meaning.specs.Layout.{same_name}
use Rattle.program_meaning.specs.Entries.{Entry, FileEntry, layout_of, record_length, forest}
use Rattle.program_meaning.specs.State.{Program, Channel}
use Rattle.program_meaning.specs.Files.{Disk, Closed}

-- a SELECT: the file's name in the program, its external name, and the place of its status
pub record Select : Type 0 where
  pub name : Name
  pub external : Name
  pub status : Option Place

-- the parts of a program
pub record Source : Type 0 where
  pub selects : List Select
  pub files : List FileEntry
  pub storage : List Entry
  pub paragraphs : List Paragraph

abbrev pub has_name : Name → List Name → Bool
has_name n [] = false
has_name n (m ∷ ms) = same_name n m || has_name n ms

-- how many names stand before one
abbrev pub index_of : Name → List Name → ℕ
index_of n [] = 0
index_of n (m ∷ ms) = cond (same_name n m) 0 (index_of n ms + 1)

-- the external names in the order of their first SELECT
abbrev pub named_in : List Select → List Name → List Name
named_in [] found = found
named_in (s ∷ ss) found = named_in ss (cond (has_name s.external found) found (found ++ s.external ∷ []))

abbrev pub named_in_all : List Source → List Name → List Name
named_in_all [] found = found
named_in_all (p ∷ ps) found = named_in_all ps (named_in p.selects found)

abbrev pub externals : List Source → List Name
externals ps = named_in_all ps []

abbrev pub file_names : List FileEntry → List Name
file_names [] = []
file_names (f ∷ fs) = f.name ∷ file_names fs

-- a SELECT with the number of its file and the area of its FD
abbrev pub channels_of : List Name → List FileEntry → List Select → List Channel
channels_of known fs [] = []
channels_of known fs (s ∷ ss) =
    record { name = s.name; file = index_of s.external known; area = index_of s.name (file_names fs); status = s.status } ∷ channels_of known fs ss

abbrev pub program_of : List Name → Source → Program
program_of known p =
    record { paragraphs = p.paragraphs; layout = layout_of p.files p.storage; channels = channels_of known p.files p.selects }

abbrev pub programs_of : List Name → List Source → List Program
programs_of known [] = []
programs_of known (p ∷ ps) = program_of known p ∷ programs_of known ps

-- a file's records are as long as the longest record of its FD
abbrev pub length_in : Name → List FileEntry → ℕ
length_in n [] = 0
length_in n (f ∷ fs) = cond (same_name n f.name) (record_length (forest f.entries)) (length_in n fs)

abbrev pub select_with : Name → List Select → Option Select
select_with n [] = None
select_with n (s ∷ ss) = cond (same_name n s.external) (Some s) (select_with n ss)

abbrev pub length_from : Option Select → List FileEntry → ℕ → ℕ
length_from None fs otherwise = otherwise
length_from (Some s) fs otherwise = length_in s.name fs

-- how long the records of an external name are: as its first SELECT's FD says
abbrev pub record_length_of : Name → List Source → ℕ
record_length_of n [] = 0
record_length_of n (p ∷ ps) = length_from (select_with n p.selects) p.files (record_length_of n ps)

abbrev pub no_disk : Name → List Source → Disk
no_disk n ps = record { length = record_length_of n ps; records = None; opening = Closed }

-- a store that holds no file
abbrev pub no_disks : List Name → List Source → List Disk
no_disks [] ps = []
no_disks (n ∷ ns) ps = no_disk n ps ∷ no_disks ns ps
