-- What operands are, and which of them may stand where.
use Rattle.std.specs.Prelude.{ℕ, Bool, true, false, not, ◌||◌, ◌&&◌, ◌==◌, nat_le, length, Option, Some, None, if◌then◌else◌}
use Rattle.cobol_syntax.specs.declared.place.Place.{Place}
use Rattle.cobol_syntax.specs.declared.expr.Operand.{Operand}
use Rattle.cobol_syntax.specs.declared.expr.Operand.TheVariants as operand
use Rattle.data_layout.specs.declared.item.Layout.{Layout}
use Rattle.operand_kinds.specs.declared.kind.Kind.{Kind}
use Rattle.operand_kinds.specs.declared.kind.Kind.TheVariants as kind
use Rattle.operand_kinds.specs.declared.reach.Reach.{Reach}
use Rattle.operand_kinds.specs.declared.reach.Reach.TheVariants as reaches
use Rattle.operand_kinds.specs.declared.seen.Seen.{Seen}
use Rattle.operand_kinds.specs.Kinds.{is_group, is_number, is_aligned, is_integer, is_digits, seen}
use Rattle.operand_uses.specs.declared.fault.UseFault.{UseFault}
use Rattle.operand_uses.specs.declared.sort.Sort.{Sort}
use Rattle.operand_uses.specs.declared.sort.Sort.TheVariants as sort
use Rattle.operand_uses.specs.Places.{place_fault}

-- the length of a place, where its text gives it
abbrev pub length_of : Reach → Option ℕ
length_of (reaches.Fixed start length) = Some length
length_of (reaches.Moving length) = Some length
length_of (reaches.Open most) = None

abbrev pub sort_of_seen : Option Seen → Sort
sort_of_seen None = sort.Unclear
sort_of_seen (Some s) = sort.Item s.kind (length_of s.reach)

abbrev pub sort_of_place : Layout → Place → Sort
sort_of_place layout place = sort_of_seen (seen layout place)

abbrev pub sort_of_figure : ℕ → Sort
sort_of_figure byte = if byte == 48 then sort.Zero else sort.Figure

abbrev pub sort_of : Layout → Operand → Sort
sort_of layout (operand.Place place) = sort_of_place layout place
sort_of layout (operand.Number value digits at) = sort.Number (value.scale == 0)
sort_of layout (operand.Text bytes at) = sort.Text (length bytes)
sort_of layout (operand.Figure byte at) = sort_of_figure byte

-- the identifier that an operand may be
abbrev pub operand_fault : Layout → ℕ → Operand → Option UseFault
operand_fault layout owner (operand.Place place) = place_fault layout owner place
operand_fault layout owner (operand.Number value digits at) = None
operand_fault layout owner (operand.Text bytes at) = None
operand_fault layout owner (operand.Figure byte at) = None

abbrev pub operand_if_fault : Layout → ℕ → Option Operand → Option UseFault
operand_if_fault layout owner None = None
operand_if_fault layout owner (Some one) = operand_fault layout owner one

-- a number, as arithmetic, sign tests and counts take it: an item, a literal or ZERO
abbrev pub counts : Sort → Bool
counts (sort.Item k length) = is_number k
counts (sort.Number whole) = true
counts (sort.Text length) = false
counts sort.Zero = true
counts sort.Figure = false
counts sort.Unclear = true

-- a number without digits after the point
abbrev pub is_whole : Sort → Bool
is_whole (sort.Item k length) = is_integer k
is_whole (sort.Number whole) = whole
is_whole (sort.Text length) = false
is_whole sort.Zero = true
is_whole sort.Figure = false
is_whole sort.Unclear = true

-- a literal or a figure
abbrev pub is_constant : Sort → Bool
is_constant (sort.Item k length) = false
is_constant (sort.Number whole) = true
is_constant (sort.Text length) = true
is_constant sort.Zero = true
is_constant sort.Figure = true
is_constant sort.Unclear = false

-- a receiver of arithmetic
abbrev pub receives_number : Sort → Bool
receives_number (sort.Item k length) = is_aligned k
receives_number (sort.Number whole) = false
receives_number (sort.Text length) = false
receives_number sort.Zero = false
receives_number sort.Figure = false
receives_number sort.Unclear = true

-- a text of 1 to 18 bytes is a number; what its length is may show in a run
abbrev pub is_numeral : Option ℕ → Bool
is_numeral None = true
is_numeral (Some length) = nat_le 1 length && nat_le length 18

-- an item as a number: an edited one would be de-edited
abbrev pub item_gives_number : Kind → Option ℕ → Bool
item_gives_number kind.Group length = true
item_gives_number kind.Text length = is_numeral length
item_gives_number (kind.Edited form) length = false
item_gives_number (kind.Number usage form) length = true

-- what may be moved to a number or an edited item
abbrev pub gives_number : Sort → Bool
gives_number (sort.Item k length) = item_gives_number k length
gives_number (sort.Number whole) = true
gives_number (sort.Text length) = is_numeral (Some length)
gives_number sort.Zero = true
gives_number sort.Figure = false
gives_number sort.Unclear = true

-- what may be moved to a text: a number gives its digits, so it has none after the point
abbrev pub gives_text : Sort → Bool
gives_text (sort.Item k length) = not (is_number k) || is_integer k
gives_text (sort.Number whole) = whole
gives_text (sort.Text length) = true
gives_text sort.Zero = true
gives_text sort.Figure = true
gives_text sort.Unclear = true

-- a group receives bytes, whatever is moved to it
abbrev pub kind_receives : Sort → Kind → Bool
kind_receives from to = is_group to || (if is_aligned to then gives_number from else gives_text from)

-- a move that has a meaning
abbrev pub moves_right : Sort → Sort → Bool
moves_right from (sort.Item k length) = kind_receives from k
moves_right from (sort.Number whole) = true
moves_right from (sort.Text length) = true
moves_right from sort.Zero = true
moves_right from sort.Figure = true
moves_right from sort.Unclear = true

-- what may be compared by its bytes: of numbers an item of digits alone, and an integer literal
abbrev pub has_bytes : Sort → Bool
has_bytes (sort.Item k length) = not (is_number k) || is_digits k
has_bytes (sort.Number whole) = whole
has_bytes (sort.Text length) = true
has_bytes sort.Zero = true
has_bytes sort.Figure = true
has_bytes sort.Unclear = true

-- a comparison that has a meaning: two numbers by value, everything else by bytes, and not two constants
abbrev pub compares_right : Sort → Sort → Bool
compares_right left right = not (is_constant left && is_constant right) && ((counts left && counts right) || (has_bytes left && has_bytes right))

-- a status has two bytes
abbrev pub is_two : Option ℕ → Bool
is_two None = false
is_two (Some length) = length == 2

abbrev pub kind_is_status : Kind → Option ℕ → Bool
kind_is_status kind.Group length = is_two length
kind_is_status kind.Text length = is_two length
kind_is_status (kind.Edited form) length = false
kind_is_status (kind.Number usage form) length = is_digits (kind.Number usage form) && form.digits == 2

-- an item that may receive the status of a file
abbrev pub is_status : Sort → Bool
is_status (sort.Item k length) = kind_is_status k length
is_status (sort.Number whole) = false
is_status (sort.Text length) = false
is_status sort.Zero = false
is_status sort.Figure = false
is_status sort.Unclear = true
