-- What the tree of a manifest means, where it has no fault.
use Rattle.std.specs.Prelude.{ℕ, Bool, ◌==◌, List, [], ◌∷◌, Option, option_map, if◌then◌else◌}
use Rattle.std.specs.Option.{option_map_or}
use Rattle.toml.specs.Data.{Data, Members, get_member}
use Rattle.portfolio.specs.Keys.{word}
use Rattle.portfolio.specs.Values.{number, text, text_list, name_table, job_table, group_list}
use Rattle.portfolio.specs.declared.key.Key.{Key}
use Rattle.portfolio.specs.declared.key.Key.TheVariants.{Version, Pivot, Programs, Copybooks, Seeds, Window, Files, Jobs}
use Rattle.portfolio.specs.declared.manifest.Manifest.{Manifest}
use Rattle.portfolio.specs.declared.manifest.WindowGroup.{WindowGroup}

abbrev pub value_at : Key → Members → Option Data
value_at key tree = get_member (word key) tree

abbrev pub number_at : Key → Members → ℕ
number_at key tree = option_map_or number (value_at key tree) 0

-- in the first version a window is one list of items, with the manifest's own pivot
abbrev pub is_first_version : Members → Bool
is_first_version tree = number_at Version tree == 1

abbrev pub windows : Bool → ℕ → Data → List WindowGroup
windows first pivot d = if first then record { pivot = pivot; items = text_list d } ∷ [] else group_list d

abbrev pub manifest_of : Members → Manifest
manifest_of tree = record {
  version = number_at Version tree;
  pivot = number_at Pivot tree;
  programs = option_map_or text_list (value_at Programs tree) [];
  copybooks = option_map_or name_table (value_at Copybooks tree) [];
  seeds = option_map text (value_at Seeds tree);
  window = option_map_or (windows (is_first_version tree) (number_at Pivot tree)) (value_at Window tree) [];
  files = option_map_or name_table (value_at Files tree) [];
  jobs = option_map_or job_table (value_at Jobs tree) [];
}
