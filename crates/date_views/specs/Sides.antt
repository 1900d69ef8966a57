-- The sides of a move, a comparison or a sum: the first occurrence of an item, or a part of it.
use Rattle.std.specs.Prelude.{ℕ, ◌+◌, ◌&&◌, nat_le, List, [], Option, Some, None, slice_get, if◌then◌else◌}
use Rattle.y2k_base.specs.declared.picture.Run.{Run}
use Rattle.y2k_base.specs.declared.place.Span.{Span}
use Rattle.cobol_syntax.specs.declared.place.Place.{Place}
use Rattle.data_layout.specs.declared.item.Item.{Item}
use Rattle.data_layout.specs.declared.item.Layout.{Layout}
use Rattle.operand_kinds.specs.declared.kind.Kind.{Kind}
use Rattle.operand_kinds.specs.declared.kind.Kind.TheVariants as kind
use Rattle.operand_kinds.specs.declared.reach.Reach.{Reach}
use Rattle.operand_kinds.specs.declared.reach.Reach.TheVariants as reaches
use Rattle.operand_kinds.specs.declared.seen.Seen.{Seen}
use Rattle.operand_kinds.specs.Kinds.{seen, kind_of_item}
use Rattle.date_views.specs.declared.side.Field.{Field}
use Rattle.date_views.specs.declared.side.Side.{Side}
use Rattle.date_views.specs.declared.side.Side.TheVariants as sides
use Rattle.date_views.specs.Views.{is_placed, runs_of, view_of, digits_of}

-- these bytes as something of that kind
abbrev pub field_of : Kind → List Run → Span → Field
field_of kind runs span = record { kind = kind; span = span; digits = digits_of kind span.length; view = view_of kind runs span }

-- so many bytes of a span, from a start on
abbrev pub part_of : Span → ℕ → ℕ → Span
part_of span start length = record { area = span.area; offset = span.offset + start; length = length }

-- what a place takes of an item's bytes. A part that leaves them is none
abbrev pub side_at : Kind → List Run → Span → Reach → Option Side
side_at kind runs span (reaches.Fixed start length) =
    if is_placed span && nat_le (start + length) span.length then Some (sides.Known (field_of kind runs (part_of span start length))) else None
side_at kind runs span (reaches.Moving length) = Some (sides.Moving length)
side_at kind runs span (reaches.Open most) = Some (sides.Moving most)

abbrev pub side_in : Kind → Reach → Option Item → Option Side
side_in kind reach None = None
side_in kind reach (Some item) = side_at kind (runs_of item.picture) item.span reach

abbrev pub side_seen : Layout → Option Seen → Option Side
side_seen layout None = None
side_seen layout (Some seen) = side_in seen.kind seen.reach (slice_get layout.items seen.item)

-- the side that a place is
abbrev pub side_of : Layout → Place → Option Side
side_of layout place = side_seen layout (seen layout place)

-- a whole item
abbrev pub whole_side : Item → Option Side
whole_side item = side_at (kind_of_item item) (runs_of item.picture) item.span (reaches.Fixed 0 item.span.length)

-- a record area as a group
abbrev pub area_side : Span → Side
area_side span = sides.Known (field_of kind.Group [] span)

abbrev pub kind_of : Side → Kind
kind_of (sides.Known field) = field.kind
kind_of (sides.Moving most) = kind.Text
