-- The values of a manifest: what each means, and which forms they have. Where a value has another form than
-- the one asked for, what it means is of no account.
use Rattle.std.specs.Prelude.{ℕ, ℤ, pos, negsuc, Bool, true, false, not, ◌&&◌, nat_le, List, [], ◌∷◌, length, is_some, unwrap_or, codes, if◌then◌else◌}
use Rattle.std.specs.List.{list_any}
use Rattle.std.specs.Option.{option_map_or}
use Rattle.std.specs.Str.{bytes_eq}
use Rattle.toml.specs.Data.{Data, Items, no_items, item, Members, no_members, member, get, as_str, as_integer, as_array, as_table}
use Rattle.portfolio.specs.Names.{is_small_letter}
use Rattle.portfolio.specs.declared.manifest.Named.{Named}
use Rattle.portfolio.specs.declared.manifest.NamedJob.{NamedJob}
use Rattle.portfolio.specs.declared.manifest.WindowGroup.{WindowGroup}
use Rattle.portfolio.specs.declared.shape.Entry.{Entry}
use Rattle.portfolio.specs.declared.shape.Entry.TheVariants.{Name, Book, Job, Part}

-- the number that an integer is; 0 where it is negative or over 255
abbrev pub small_number : ℤ → ℕ
small_number (pos n) = if nat_le n 255 then n else 0
small_number (negsuc n) = 0

abbrev pub number : Data → ℕ
number d = option_map_or small_number (as_integer d) 0

-- an integer from 1 to `most`
abbrev pub is_number_to : ℕ → Data → Bool
is_number_to most d = nat_le 1 (number d) && nat_le (number d) most

abbrev pub text : Data → List ℕ
text d = unwrap_or (as_str d) []

abbrev pub is_text : Data → Bool
is_text d = is_some (as_str d)

abbrev pub all_items : (Data → Bool) → Items → Bool
all_items test no_items = true
all_items test (item d ds) = test d && all_items test ds

abbrev pub texts : Items → List (List ℕ)
texts no_items = []
texts (item d ds) = text d ∷ texts ds

abbrev pub text_list : Data → List (List ℕ)
text_list d = option_map_or texts (as_array d) []

abbrev pub is_text_list : Data → Bool
is_text_list d = option_map_or (all_items is_text) (as_array d) false

-- a list of 1 to 200 texts
abbrev pub is_program_list : Data → Bool
is_program_list d = is_text_list d && (nat_le 1 (length (text_list d)) && nat_le (length (text_list d)) 200)

abbrev pub has_small_letter : List ℕ → Bool
has_small_letter key = list_any is_small_letter key

-- whether a key and its value fit into a table of names, of copybooks or of jobs, or into a window's group
abbrev pub fits : Entry → List ℕ → Data → Bool
fits Name key d = is_text d
fits Book key d = is_text d && not (has_small_letter key)
fits Job key d = is_text_list d
fits Part key d = if bytes_eq key (codes "pivot") then is_number_to 99 d else (bytes_eq key (codes "items") && is_text_list d)

abbrev pub all_members : (List ℕ → Data → Bool) → Members → Bool
all_members test no_members = true
all_members test (member key d ms) = test key d && all_members test ms

abbrev pub is_table_of : Entry → Data → Bool
is_table_of entry d = option_map_or (all_members (fits entry)) (as_table d) false

-- a table with exactly the keys `pivot` and `items`
abbrev pub is_group : Data → Bool
is_group d = is_table_of Part d && (is_some (get (codes "pivot") d) && is_some (get (codes "items") d))

abbrev pub is_group_list : Data → Bool
is_group_list d = option_map_or (all_items is_group) (as_array d) false

abbrev pub names : Members → List Named
names no_members = []
names (member key d ms) = record { key = key; name = text d } ∷ names ms

abbrev pub name_table : Data → List Named
name_table d = option_map_or names (as_table d) []

abbrev pub jobs : Members → List NamedJob
jobs no_members = []
jobs (member key d ms) = record { key = key; programs = text_list d } ∷ jobs ms

abbrev pub job_table : Data → List NamedJob
job_table d = option_map_or jobs (as_table d) []

abbrev pub group : Data → WindowGroup
group d = record {
  pivot = option_map_or number (get (codes "pivot") d) 0;
  items = option_map_or text_list (get (codes "items") d) [];
}

abbrev pub groups : Items → List WindowGroup
groups no_items = []
groups (item d ds) = group d ∷ groups ds

abbrev pub group_list : Data → List WindowGroup
group_list d = option_map_or groups (as_array d) []
