-- What operands are, and how two of them meet.
use Rattle.std.specs.Prelude.{ℕ, ◌-◌, Bool, true, false, not, ◌||◌, ◌&&◌, ◌==◌, List, [], ◌∷◌, Option, Some, None, slice_get}
use Rattle.decimal_bytes.specs.declared.form.NumForm.{NumForm}
use Rattle.cobol_syntax.specs.declared.place.Place.{Place}
use Rattle.cobol_syntax.specs.declared.place.Part.{Part}
use Rattle.cobol_syntax.specs.declared.place.Sub.{Sub}
use Rattle.cobol_syntax.specs.declared.place.Sub.TheVariants as sub
use Rattle.cobol_syntax.specs.declared.program.Usage.{Usage}
use Rattle.cobol_syntax.specs.declared.program.Usage.TheVariants as usage
use Rattle.data_layout.specs.declared.item.Class.{Class}
use Rattle.data_layout.specs.declared.item.Class.TheVariants as class
use Rattle.data_layout.specs.declared.item.Item.{Item}
use Rattle.data_layout.specs.declared.item.Step.{Step}
use Rattle.data_layout.specs.declared.item.Layout.{Layout}
use Rattle.data_layout.specs.declared.found.Found.{Found}
use Rattle.data_layout.specs.declared.found.Found.TheVariants as found
use Rattle.data_layout.specs.Find.{meaning}
use Rattle.operand_kinds.specs.declared.kind.Kind.{Kind}
use Rattle.operand_kinds.specs.declared.kind.Kind.TheVariants as kind
use Rattle.operand_kinds.specs.declared.reach.Reach.{Reach}
use Rattle.operand_kinds.specs.declared.reach.Reach.TheVariants as reaches
use Rattle.operand_kinds.specs.declared.seen.Seen.{Seen}

abbrev pub is_group : Kind → Bool
is_group kind.Group = true
is_group kind.Text = false
is_group (kind.Edited form) = false
is_group (kind.Number usage form) = false

abbrev pub is_number : Kind → Bool
is_number kind.Group = false
is_number kind.Text = false
is_number (kind.Edited form) = false
is_number (kind.Number usage form) = true

abbrev pub is_edited : Kind → Bool
is_edited kind.Group = false
is_edited kind.Text = false
is_edited (kind.Edited form) = true
is_edited (kind.Number usage form) = false

-- what is moved to it is aligned at the point
abbrev pub is_aligned : Kind → Bool
is_aligned k = is_number k || is_edited k

abbrev pub is_integer : Kind → Bool
is_integer kind.Group = false
is_integer kind.Text = false
is_integer (kind.Edited form) = false
is_integer (kind.Number usage form) = form.scale == 0

abbrev pub is_display : Usage → Bool
is_display usage.Display = true
is_display usage.Packed = false
is_display usage.Binary = false

-- an unsigned integer whose bytes are its digits
abbrev pub is_digits : Kind → Bool
is_digits kind.Group = false
is_digits kind.Text = false
is_digits (kind.Edited form) = false
is_digits (kind.Number usage form) = is_display usage && (form.scale == 0 && not form.signed)

abbrev pub kind_of : Class → Usage → NumForm → Kind
kind_of class.Group usage form = kind.Group
kind_of class.Text usage form = kind.Text
kind_of class.Edited usage form = kind.Edited form
kind_of class.Number usage form = kind.Number usage form

abbrev pub kind_of_item : Item → Kind
kind_of_item item = kind_of item.class item.usage item.form

-- a move copies bytes where one side is a group, or where a text gets another text, an edited item or digits
abbrev pub copies_bytes : Kind → Kind → Bool
copies_bytes from to = (is_group from || is_group to) || (not (is_aligned to) && (not (is_number from) || is_digits from))

-- two numbers are compared by value, everything else by bytes
abbrev pub compares_values : Kind → Kind → Bool
compares_values left right = is_number left && is_number right

abbrev pub reach_from : ℕ → Option Sub → ℕ → Reach
reach_from start None bytes = reaches.Fixed start (bytes - start)
reach_from start (Some (sub.Number length at)) bytes = reaches.Fixed start length
reach_from start (Some (sub.Name names)) bytes = reaches.Open (bytes - start)

abbrev pub reach_anywhere : Option Sub → ℕ → Reach
reach_anywhere None bytes = reaches.Open bytes
reach_anywhere (Some (sub.Number length at)) bytes = reaches.Moving length
reach_anywhere (Some (sub.Name names)) bytes = reaches.Open bytes

abbrev pub reach_of : Sub → Option Sub → ℕ → Reach
reach_of (sub.Number start at) length bytes = reach_from (start - 1) length bytes
reach_of (sub.Name names) length bytes = reach_anywhere length bytes

-- the bytes that a place takes of an item of so many
abbrev pub reach : Option Part → ℕ → Reach
reach None bytes = reaches.Fixed 0 bytes
reach (Some part) bytes = reach_of part.start part.length bytes

-- a reference is a text
abbrev pub kind_of_part : Option Part → Kind → Kind
kind_of_part None whole = whole
kind_of_part (Some part) whole = kind.Text

abbrev pub seen_item : Option Part → ℕ → Option Item → Option Seen
seen_item cut number None = None
seen_item cut number (Some item) =
    Some (record { item = number; kind = kind_of_part cut (kind_of_item item); reach = reach cut item.span.length })

abbrev pub seen_found : Layout → Option Part → Found → Option Seen
seen_found layout cut (found.Item number) = seen_item cut number (slice_get layout.items number)
seen_found layout cut (found.Named number) = None
seen_found layout cut found.Unknown = None
seen_found layout cut found.Twice = None

-- what a place is: its name means one item
abbrev pub seen : Layout → Place → Option Seen
seen layout place = seen_found layout place.cut (meaning layout place.names)

abbrev pub has_no_steps : List Step → Bool
has_no_steps [] = true
has_no_steps (step ∷ steps) = false

abbrev pub is_single_integer : Option Item → Bool
is_single_integer None = false
is_single_integer (Some item) = is_integer (kind_of_item item) && has_no_steps item.steps

abbrev pub is_subscript_found : Layout → Found → Bool
is_subscript_found layout (found.Item number) = is_single_integer (slice_get layout.items number)
is_subscript_found layout (found.Named number) = false
is_subscript_found layout found.Unknown = false
is_subscript_found layout found.Twice = false

-- a subscript, or the start or length of a reference, is an integer item in no table
abbrev pub is_subscript : Layout → List (List ℕ) → Bool
is_subscript layout names = is_subscript_found layout (meaning layout names)
