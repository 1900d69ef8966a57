-- Which item of a portfolio a window item names.
use Rattle.std.specs.Prelude.{ℕ, ◌+◌, ◌==◌, List, [], ◌∷◌, map, Option, Some, None, slice_get, if◌then◌else◌}
use Rattle.std.specs.Option.{option_map}
use Rattle.std.specs.Char.{to_ascii_uppercase}
use Rattle.cobol_syntax.specs.declared.program.Program.{Program}
use Rattle.data_layout.specs.declared.item.Layout.{Layout}
use Rattle.data_layout.specs.declared.portfolio.ItemRef.{ItemRef}
use Rattle.data_layout.specs.declared.portfolio.Portfolio.{Portfolio}
use Rattle.item_seeds.specs.Names.{named_item}
use Rattle.name_tables.specs.Table.{holds_nothing, with_value}

abbrev pub with_byte : ℕ → (List ℕ × List ℕ) → (List ℕ × List ℕ)
with_byte b parts = (b ∷ parts.0, parts.1)

-- a window item is the name of a program and that of an item, parted at the first point; without a point it is none
abbrev pub parted : List ℕ → Option (List ℕ × List ℕ)
parted [] = None
parted (b ∷ bs) = if b == 46 then Some ([], bs) else option_map (with_byte b) (parted bs)

-- the number of the program that has each name, where the first of these has this number; of several the first
abbrev pub numbers_from : ℕ → List Program → List ℕ → Option ℕ
numbers_from number [] = holds_nothing
numbers_from number (p ∷ ps) = with_value (numbers_from (number + 1) ps) p.id number

abbrev pub ref_to : ℕ → Option ℕ → Option ItemRef
ref_to program None = None
ref_to program (Some item) = Some (record { program = program; item = item })

-- the one item that the text names in a layout
abbrev pub ref_in : ℕ → Option Layout → List ℕ → Option ItemRef
ref_in program None text = None
ref_in program (Some layout) text = ref_to program (named_item layout text)

abbrev pub ref_at : List Layout → Option ℕ → List ℕ → Option ItemRef
ref_at layouts None text = None
ref_at layouts (Some program) text = ref_in program (slice_get layouts program) text

abbrev pub ref_of : (List ℕ → Option ℕ) → List Layout → Option (List ℕ × List ℕ) → Option ItemRef
ref_of numbers layouts None = None
ref_of numbers layouts (Some parts) = ref_at layouts (numbers (map to_ascii_uppercase parts.0)) parts.1

-- the item that a window item means where programs have these numbers; names are read in capitals
abbrev pub meant_by : (List ℕ → Option ℕ) → List Layout → List ℕ → Option ItemRef
meant_by numbers layouts text = ref_of numbers layouts (parted text)

-- the item of a portfolio that a window item means
abbrev pub item_meant : Portfolio → List ℕ → Option ItemRef
item_meant p = meant_by (numbers_from 0 p.programs) p.layouts
