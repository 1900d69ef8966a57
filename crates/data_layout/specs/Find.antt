-- What a data name with its qualifiers means.
use Rattle.std.specs.Prelude.{ℕ, zero, suc, ◌+◌, ◌≡◌, Bool, true, false, ◌||◌, ◌&&◌, ◌==◌, bytes_eq, List, [], ◌∷◌, length, Option, Some, None, if◌then◌else◌, slice_get, option_map}
use Rattle.y2k_base.specs.declared.place.Span.{Span}
use Rattle.y2k_base.specs.declared.place.AreaId.{AreaId}
use Rattle.data_layout.specs.declared.item.Item.{Item}
use Rattle.data_layout.specs.declared.item.CondItem.{CondItem}
use Rattle.data_layout.specs.declared.item.Area.{Area}
use Rattle.data_layout.specs.declared.item.Layout.{Layout}
use Rattle.data_layout.specs.declared.item.Class.{Class}
use Rattle.data_layout.specs.declared.item.Class.TheVariants as class
use Rattle.data_layout.specs.declared.found.Found.{Found}
use Rattle.data_layout.specs.declared.found.Found.TheVariants as found

abbrev pub is_group : Class → Bool
is_group class.Group = true
is_group class.Text = false
is_group class.Edited = false
is_group class.Number = false

abbrev pub has_name : Option (List ℕ) → List ℕ → Bool
has_name None name = false
has_name (Some own) name = bytes_eq own name

-- the group that an item is, as a qualifier; an elementary item is none
abbrev pub group_name : Option Item → Option (List ℕ)
group_name None = None
group_name (Some item) = if is_group item.class then item.name else None

abbrev pub holder_of : Option Item → Option ℕ
holder_of None = None
holder_of (Some item) = item.parent

-- the qualifiers that are left after a group: the next is the group's, if it is its name
abbrev pub left_after : Option (List ℕ) → List (List ℕ) → List (List ℕ)
left_after name [] = []
left_after name (q ∷ qs) = if has_name name q then qs else q ∷ qs

-- whether the name is that of the file with this area
abbrev pub is_file : List Area → AreaId → List ℕ → Bool
is_file [] id name = false
is_file (area ∷ areas) id name = ((area.id.0 == id.0 && area.file) && has_name area.name name) || is_file areas id name

-- outside all groups no qualifier is left, or the name of the file
abbrev pub ends : List Area → AreaId → List (List ℕ) → Bool
ends areas id [] = true
ends areas id (q ∷ []) = is_file areas id q
ends areas id (q ∷ r ∷ qs) = false

-- whether the groups from this one outwards, at most so many, and the file have the qualifiers, in their order
abbrev pub is_in : ℕ → List Item → List Area → AreaId → Option ℕ → List (List ℕ) → Bool
is_in zero items areas id holder qualifiers = ends areas id qualifiers
is_in (suc more) items areas id None qualifiers = ends areas id qualifiers
is_in (suc more) items areas id (Some k) qualifiers =
    is_in more items areas id (holder_of (slice_get items k)) (left_after (group_name (slice_get items k)) qualifiers)

abbrev pub item_fits : Layout → List ℕ → List (List ℕ) → Item → Bool
item_fits layout name qualifiers item =
    has_name item.name name && is_in (length layout.items) layout.items layout.areas item.span.area item.parent qualifiers

abbrev pub area_of : Option Item → AreaId
area_of None = record { 0 = 0 }
area_of (Some item) = item.span.area

-- a condition-name lies in its item, and in the groups round that
abbrev pub cond_fits : Layout → List ℕ → List (List ℕ) → CondItem → Bool
cond_fits layout name qualifiers c =
    bytes_eq c.name name
    && is_in (length layout.items) layout.items layout.areas (area_of (slice_get layout.items c.item)) (Some c.item) qualifiers

abbrev pub unless : Found → Found → Found
unless one found.Unknown = one
unless one (found.Item k) = found.Twice
unless one (found.Named k) = found.Twice
unless one found.Twice = found.Twice

-- nothing, one thing, or more than one
abbrev pub with : Found → Found → Found
with found.Unknown other = other
with (found.Item k) other = unless (found.Item k) other
with (found.Named k) other = unless (found.Named k) other
with found.Twice other = found.Twice

-- what items fit, the first of which has this number
abbrev pub among_items : (Item → Bool) → ℕ → List Item → Found
among_items fits number [] = found.Unknown
among_items fits number (item ∷ items) =
    with (if fits item then found.Item number else found.Unknown) (among_items fits (number + 1) items)

abbrev pub among_conds : (CondItem → Bool) → ℕ → List CondItem → Found
among_conds fits number [] = found.Unknown
among_conds fits number (c ∷ conds) =
    with (if fits c then found.Named number else found.Unknown) (among_conds fits (number + 1) conds)

-- what a name means: the one item or condition-name that fits
abbrev pub meaning : Layout → List (List ℕ) → Found
meaning layout [] = found.Unknown
meaning layout (name ∷ qualifiers) =
    with (among_items (item_fits layout name qualifiers) 0 layout.items)
    (among_conds (cond_fits layout name qualifiers) 0 layout.conds)

-- where the first occurrence of an item stands
abbrev pub IsPlace : Layout → ℕ → Span → Type 0
IsPlace layout number span = option_map (λ (item : Item). item.span) (slice_get layout.items number) ≡ Some span
