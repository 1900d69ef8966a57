-- Places with their names resolved.
use Rattle.std.specs.Prelude.{ℕ, List, [], ◌∷◌, Option, Some, None, slice_get}
use Rattle.cobol_syntax.specs.declared.place.Place.{Place}
use Rattle.cobol_syntax.specs.declared.place.Part.{Part}
use Rattle.cobol_syntax.specs.declared.place.Sub.{Sub}
use Rattle.cobol_syntax.specs.declared.place.Sub.TheVariants as sub
use Rattle.data_layout.specs.declared.item.Class.{Class}
use Rattle.data_layout.specs.declared.item.Class.TheVariants as class
use Rattle.data_layout.specs.declared.item.Item.{Item}
use Rattle.data_layout.specs.declared.item.CondItem.{CondItem}
use Rattle.data_layout.specs.declared.item.Layout.{Layout}
use Rattle.data_layout.specs.declared.found.Found.{Found}
use Rattle.data_layout.specs.declared.found.Found.TheVariants as found
use Rattle.data_layout.specs.Find.{meaning}
use Rattle.operand_kinds.specs.Kinds.{kind_of_item, kind_of_part}
use Rattle.layout_reading.specs.Told.{item_told}
use Rattle.storage_places.specs.declared.access.Bound.{Bound}
use Rattle.storage_places.specs.declared.access.Bound.TheVariants as bound
use Rattle.storage_places.specs.declared.access.Cut.{Cut}
use Rattle.storage_places.specs.declared.access.Access.{Access}
use Rattle.storage_places.specs.declared.access.NamedAccess.{NamedAccess}

-- a number gives a bound, and nothing else does
abbrev pub bound_by : Class → Item → Option Bound
bound_by class.Group item = None
bound_by class.Text item = None
bound_by class.Edited item = None
bound_by class.Number item = Some (bound.Number (record { span = item.span; usage = item.usage; form = item.form }))

abbrev pub bound_if : Option Item → Option Bound
bound_if None = None
bound_if (Some item) = bound_by item.class item

-- a bound with others after it, if they are there
abbrev pub bounds_with : Option Bound → Option (List Bound) → Option (List Bound)
bounds_with None others = None
bounds_with (Some b) None = None
bounds_with (Some b) (Some bs) = Some (b ∷ bs)

abbrev pub cut_with : Option Bound → Option (Option Bound) → Option (Option Cut)
cut_with None length = None
cut_with (Some start) None = None
cut_with (Some start) (Some length) = Some (Some (record { start = start; length = length }))

abbrev pub some_bound : Option Bound → Option (Option Bound)
some_bound None = None
some_bound (Some b) = Some (Some b)

abbrev pub access_with : Item → Option Part → Option (List Bound) → Option (Option Cut) → Option Access
access_with item part None cut = None
access_with item part (Some subs) None = None
access_with item part (Some subs) (Some cut) = Some (record {
  kind = kind_of_part part (kind_of_item item);
  picture = item.picture;
  span = item.span;
  steps = item.steps;
  subs = subs;
  cut = cut;
})

abbrev pub numbered : ℕ → Option Access → Option NamedAccess
numbered number None = None
numbered number (Some a) = Some (record { name = number; access = a })

module _ (layout : Layout) where
  -- the item that a name means
  abbrev pub item_named : List (List ℕ) → Option Item
  item_named names = item_told layout.items (meaning layout names)

  abbrev pub bound_of : Sub → Option Bound
  bound_of (sub.Number value at) = Some (bound.Literal value)
  bound_of (sub.Name names) = bound_if (item_named names)

  abbrev pub bounds_of : List Sub → Option (List Bound)
  bounds_of [] = Some []
  bounds_of (s ∷ ss) = bounds_with (bound_of s) (bounds_of ss)

  abbrev pub length_of : Option Sub → Option (Option Bound)
  length_of None = Some None
  length_of (Some s) = some_bound (bound_of s)

  abbrev pub cut_of : Option Part → Option (Option Cut)
  cut_of None = Some None
  cut_of (Some p) = cut_with (bound_of p.start) (length_of p.length)

  abbrev pub access_if : Place → Option Item → Option Access
  access_if place None = None
  access_if place (Some item) = access_with item place.cut (bounds_of place.subs) (cut_of place.cut)

  -- a place, if its names mean one item each and those of its subscripts and its reference are numbers
  abbrev pub access_of : Place → Option Access
  access_of place = access_if place (item_named place.names)

  -- the item of a condition-name, with its number
  abbrev pub named_if : Place → ℕ → Option CondItem → Option NamedAccess
  named_if place number None = None
  named_if place number (Some c) = numbered number (access_if place (slice_get layout.items c.item))

  abbrev pub named_by : Place → Found → Option NamedAccess
  named_by place (found.Item k) = None
  named_by place (found.Named k) = named_if place k (slice_get layout.conds k)
  named_by place found.Unknown = None
  named_by place found.Twice = None

  -- a place whose name means a condition-name: the item for which that stands, by the subscripts of the place
  abbrev pub named_of : Place → Option NamedAccess
  named_of place = named_by place (meaning layout place.names)
