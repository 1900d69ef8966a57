-- What has each name.
use Rattle.std.specs.Prelude.{ℕ, ◌+◌, ◌^◌, ◌<◌, ◌≡◌, Bool, false, bytes_eq, List, [], ◌∷◌, ◌++◌, length, Option, Some, None, slice_get, if◌then◌else◌}
use Rattle.std.specs.Ordering.{nat_cmp}
use Rattle.std.specs.Cmp.Lexicographic.{slice_cmp}
use Rattle.std.specs.BTreeMap.{get_by}
use Rattle.data_layout.specs.declared.item.Item.{Item}
use Rattle.data_layout.specs.declared.item.CondItem.{CondItem}
use Rattle.data_layout.specs.declared.item.Layout.{Layout}
use Rattle.data_layout.specs.declared.index.Index.{Index}
use Rattle.data_layout.specs.declared.found.Found.{Found}
use Rattle.data_layout.specs.declared.found.Found.TheVariants as found
use Rattle.data_layout.specs.Find.{is_in, with, area_of}

abbrev pub list_or_none : Option (List Found) → List Found
list_or_none None = []
list_or_none (Some list) = list

-- what an index has for each name
abbrev pub held : Index → List ℕ → List Found
held index name = list_or_none (get_by (λ k. slice_cmp nat_cmp name k.items) index.lists)

abbrev pub holds_nothing : List ℕ → List Found
holds_nothing = λ _. []

-- with one thing more of a name
abbrev pub with_found : (List ℕ → List Found) → List ℕ → Found → List ℕ → List Found
with_found before own one = λ name. if bytes_eq own name then before name ++ one ∷ [] else before name

abbrev pub with_named : (List ℕ → List Found) → Option (List ℕ) → Found → List ℕ → List Found
with_named before None one = before
with_named before (Some own) one = with_found before own one

abbrev pub with_items : (List ℕ → List Found) → ℕ → List Item → List ℕ → List Found
with_items before number [] = before
with_items before number (item ∷ items) = with_items (with_named before item.name (found.Item number)) (number + 1) items

abbrev pub with_conds : (List ℕ → List Found) → ℕ → List CondItem → List ℕ → List Found
with_conds before number [] = before
with_conds before number (c ∷ conds) = with_conds (with_found before c.name (found.Named number)) (number + 1) conds

-- the items and condition-names of each name
abbrev pub names_of : List Item → List CondItem → List ℕ → List Found
names_of items conds = with_conds (with_items holds_nothing 0 items) 0 conds

abbrev pub item_in : Layout → List (List ℕ) → Option Item → Bool
item_in layout qualifiers None = false
item_in layout qualifiers (Some item) =
    is_in (length layout.items) layout.items layout.areas item.span.area item.parent qualifiers

abbrev pub cond_in : Layout → List (List ℕ) → Option CondItem → Bool
cond_in layout qualifiers None = false
cond_in layout qualifiers (Some c) =
    is_in (length layout.items) layout.items layout.areas (area_of (slice_get layout.items c.item)) (Some c.item) qualifiers

-- a thing, if the groups round it and the file have the qualifiers
abbrev pub qualified : Layout → List (List ℕ) → Found → Found
qualified layout qualifiers (found.Item k) =
    if item_in layout qualifiers (slice_get layout.items k) then found.Item k else found.Unknown
qualified layout qualifiers (found.Named k) =
    if cond_in layout qualifiers (slice_get layout.conds k) then found.Named k else found.Unknown
qualified layout qualifiers found.Unknown = found.Unknown
qualified layout qualifiers found.Twice = found.Unknown

abbrev pub among : Layout → List (List ℕ) → List Found → Found
among layout qualifiers [] = found.Unknown
among layout qualifiers (one ∷ more) = with (qualified layout qualifiers one) (among layout qualifiers more)

-- an index of these, which have numbers of 32 bits
pub record IsIndexOf (items : List Item) (conds : List CondItem) (index : Index) : Type 0 where
  pub few_items : length items < 2 ^ 32
  pub few_conds : length conds < 2 ^ 32
  pub names : held index ≡ names_of items conds

-- what counting and finding ask of a layout, and each that is laid out keeps
abbrev pub IsReady : Layout → Type 0
IsReady layout = IsIndexOf layout.items layout.conds layout.index
