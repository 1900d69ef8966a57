-- What is wrong with an identifier: its names, and its subscripts and reference.
use Rattle.std.specs.Prelude.{ℕ, ◌-◌, Bool, true, false, ◌&&◌, nat_le, List, [], ◌∷◌, Option, Some, None, slice_get}
use Rattle.cobol_syntax.specs.declared.place.Place.{Place}
use Rattle.cobol_syntax.specs.declared.place.Part.{Part}
use Rattle.cobol_syntax.specs.declared.place.Sub.{Sub}
use Rattle.cobol_syntax.specs.declared.place.Sub.TheVariants as sub
use Rattle.data_layout.specs.declared.item.Item.{Item}
use Rattle.data_layout.specs.declared.item.CondItem.{CondItem}
use Rattle.data_layout.specs.declared.item.Step.{Step}
use Rattle.data_layout.specs.declared.item.Layout.{Layout}
use Rattle.data_layout.specs.declared.found.Found.{Found}
use Rattle.data_layout.specs.declared.found.Found.TheVariants as found
use Rattle.data_layout.specs.Find.{meaning}
use Rattle.operand_kinds.specs.Kinds.{is_subscript}
use Rattle.operand_uses.specs.declared.fault.NameKind.{NameKind}
use Rattle.operand_uses.specs.declared.fault.NameKind.TheVariants as name
use Rattle.operand_uses.specs.declared.fault.UseFault.{UseFault}
use Rattle.operand_uses.specs.Order.{sooner, fault_at, shape_fault}

-- a name that is to mean an item
abbrev pub wrong_item : Found → Option NameKind
wrong_item (found.Item number) = None
wrong_item (found.Named number) = Some name.Unknown
wrong_item found.Unknown = Some name.Unknown
wrong_item found.Twice = Some name.Twice

-- a name that is to mean a condition-name
abbrev pub wrong_cond : Found → Option NameKind
wrong_cond (found.Item number) = Some name.Unknown
wrong_cond (found.Named number) = None
wrong_cond found.Unknown = Some name.Unknown
wrong_cond found.Twice = Some name.Twice

-- of two names: that one is unknown comes before that one is there twice
abbrev pub worse : Option NameKind → Option NameKind → Option NameKind
worse None other = other
worse (Some name.Unknown) other = Some name.Unknown
worse (Some name.Twice) None = Some name.Twice
worse (Some name.Twice) (Some kind) = Some kind

abbrev pub has_no_steps : List Step → Bool
has_no_steps [] = true
has_no_steps (step ∷ steps) = false

-- how many bytes a reference may have that starts there
abbrev pub room : ℕ → Sub → ℕ
room bytes (sub.Number value at) = bytes - (value - 1)
room bytes (sub.Name names) = bytes

module _ (layout : Layout) where
  abbrev pub wrong_sub : Sub → Option NameKind
  wrong_sub (sub.Number value at) = None
  wrong_sub (sub.Name names) = wrong_item (meaning layout names)

  abbrev pub wrong_sub_if : Option Sub → Option NameKind
  wrong_sub_if None = None
  wrong_sub_if (Some one) = wrong_sub one

  abbrev pub wrong_cut : Option Part → Option NameKind
  wrong_cut None = None
  wrong_cut (Some part) = worse (wrong_sub part.start) (wrong_sub_if part.length)

  -- the names of subscripts, after what is wrong already
  abbrev pub wrong_subs : Option NameKind → List Sub → Option NameKind
  wrong_subs wrong [] = wrong
  wrong_subs wrong (one ∷ subs) = wrong_subs (worse wrong (wrong_sub one)) subs

  -- all names of an identifier, whose own names are so
  abbrev pub wrong_names : Option NameKind → Place → Option NameKind
  wrong_names own place = worse (wrong_subs own place.subs) (wrong_cut place.cut)

  -- a subscript, or a bound of a reference, from 1 to the most that it may be, or of an integer item
  abbrev pub is_bound : ℕ → Sub → Bool
  is_bound most (sub.Number value at) = nat_le 1 value && nat_le value most
  is_bound most (sub.Name names) = is_subscript layout names

  -- a subscript for each OCCURS
  abbrev pub subscripts_right : List Step → List Sub → Bool
  subscripts_right steps [] = has_no_steps steps
  subscripts_right [] (one ∷ subs) = false
  subscripts_right (step ∷ steps) (one ∷ subs) = is_bound step.count one && subscripts_right steps subs

  abbrev pub length_right : ℕ → Option Sub → Bool
  length_right most None = true
  length_right most (Some one) = is_bound most one

  -- a reference into so many bytes
  abbrev pub cut_right : ℕ → Option Part → Bool
  cut_right bytes None = true
  cut_right bytes (Some part) = is_bound bytes part.start && length_right (room bytes part.start) part.length

  abbrev pub item_right : Place → Option Item → Bool
  item_right place None = true
  item_right place (Some item) = subscripts_right item.steps place.subs && cut_right item.span.length place.cut

  abbrev pub found_right : Place → Found → Bool
  found_right place (found.Item number) = item_right place (slice_get layout.items number)
  found_right place (found.Named number) = true
  found_right place found.Unknown = true
  found_right place found.Twice = true

  -- the names of an item's identifier
  abbrev pub place_name_fault : ℕ → Place → Option UseFault
  place_name_fault owner place = fault_at owner place.at (wrong_names (wrong_item (meaning layout place.names)) place)

  -- its subscripts and its reference fit the item
  abbrev pub place_right : Place → Bool
  place_right place = found_right place (meaning layout place.names)

  -- an item's identifier
  abbrev pub place_fault : ℕ → Place → Option UseFault
  place_fault owner place = sooner (place_name_fault owner place) (shape_fault owner (place_right place))

  abbrev pub place_if_fault : ℕ → Option Place → Option UseFault
  place_if_fault owner None = None
  place_if_fault owner (Some place) = place_fault owner place

  -- a condition-name has the subscripts of its item
  abbrev pub cond_item_right : Place → Option Item → Bool
  cond_item_right place None = true
  cond_item_right place (Some item) = subscripts_right item.steps place.subs

  abbrev pub cond_right : Place → Option CondItem → Bool
  cond_right place None = true
  cond_right place (Some c) = cond_item_right place (slice_get layout.items c.item)

  abbrev pub named_right : Place → Found → Bool
  named_right place (found.Item number) = true
  named_right place (found.Named number) = cond_right place (slice_get layout.conds number)
  named_right place found.Unknown = true
  named_right place found.Twice = true

  -- a condition-name
  abbrev pub named_fault : ℕ → Place → Option UseFault
  named_fault owner place =
      sooner (fault_at owner place.at (wrong_names (wrong_cond (meaning layout place.names)) place))
      (shape_fault owner (named_right place (meaning layout place.names)))
