-- Programs with their layouts as programs of the meaning.
use Rattle.std.specs.Prelude.{ℕ, ◌-◌, List, [], ◌∷◌, length, map, Option, Some, None, slice_get, slice_index_or}
use Rattle.y2k_base.specs.declared.place.AreaId.{AreaId}
use Rattle.y2k_base.specs.declared.place.Span.{Span}
use Rattle.cobol_syntax.specs.declared.program.Program.{Program}
use Rattle.data_layout.specs.declared.item.Item.{Item}
use Rattle.data_layout.specs.declared.item.Step.{Step}
use Rattle.data_layout.specs.declared.item.CondItem.{CondItem}
use Rattle.data_layout.specs.declared.item.Area.{Area}
use Rattle.data_layout.specs.declared.item.Layout.{Layout}
use Rattle.data_layout.specs.declared.portfolio.FileUse.{FileUse}
use Rattle.data_layout.specs.declared.portfolio.Portfolio.{Portfolio}
use Rattle.data_layout.specs.Find.{area_of}
use Rattle.program_meaning.specs.Tree.{Name, Operand}
use Rattle.program_meaning.specs.Kind.{Group}
use Rattle.program_meaning.specs.Layout as layout
use Rattle.program_meaning.specs.State as state
use Rattle.program_meaning.specs.Portfolio.{channels_of}
use Rattle.tree_reading.specs.Reading.{read_values, read_file, read_select, read_paragraph}
use Rattle.layout_reading.specs.Kinds.{read_kind}
use Rattle.layout_reading.specs.Names.{unnamed, name_or_unnamed, above_from}
use Rattle.layout_reading.specs.Values.{values_of, first_value, other_values}

-- the number of the first area of a program in its portfolio
abbrev pub first_area : List Area → ℕ
first_area [] = 0
first_area (area ∷ areas) = area.id.0

-- areas count from the first one of the program
abbrev pub read_span : ℕ → Span → layout.Span
read_span first span = record { area = span.area.0 - first; start = span.offset; count = span.length }

abbrev pub read_step : Step → layout.Occurs
read_step step = record { size = step.size; count = step.count }

-- an item of a layout, with its VALUE
abbrev pub read_item : Layout → Item → Option Operand → layout.Item
read_item l item value = record {
  name = name_or_unnamed item.name;
  above = above_from (length l.items) l.items l.areas item.span.area item.parent;
  span = read_span (first_area l.areas) item.span;
  kind = read_kind item;
  occurs = map read_step item.steps;
  value = value;
}

-- each item with its VALUE, in their order
abbrev pub read_items : Layout → List Item → List (Option Operand) → List layout.Item
read_items l [] vs = []
read_items l (item ∷ items) vs = read_item l item (first_value vs) ∷ read_items l items (other_values vs)

-- an item that is not there
abbrev pub no_item : layout.Item
no_item = record { name = unnamed; above = []; span = record { area = 0; start = 0; count = 0 }; kind = Group; occurs = []; value = None }

-- the area of the item with this number
abbrev pub area_at : Layout → ℕ → AreaId
area_at l k = area_of (slice_get l.items k)

-- a condition-name lies in its item, and in the groups round that
abbrev pub read_cond : Layout → List layout.Item → CondItem → layout.CondName
read_cond l items c = record {
  name = c.name;
  above = above_from (length l.items) l.items l.areas (area_at l c.item) (Some c.item);
  item = slice_index_or items c.item no_item;
  values = map read_values c.ranges;
}

abbrev pub read_area : Area → ℕ
read_area area = area.length

-- the layout of a program
abbrev pub read_layout : Program → Layout → layout.Layout
read_layout program l = record {
  areas = map read_area l.areas;
  items = read_items l l.items (values_of program);
  conds = map (read_cond l (read_items l l.items (values_of program))) l.conds;
}

-- the external names of the files of a portfolio
abbrev pub externals : List FileUse → List Name
externals files = map (λ (file : FileUse). file.external) files

-- each SELECT with the number of its external file, and with the area of its FD, which is the number of the FD
abbrev pub read_channels : List FileUse → Program → List state.Channel
read_channels files program = channels_of (externals files) (map read_file program.files) (map read_select program.selects)

-- a program with its layout
abbrev pub read_program : List FileUse → Program → Layout → state.Program
read_program files program l = record {
  paragraphs = map read_paragraph program.paragraphs;
  layout = read_layout program l;
  channels = read_channels files program;
}

-- the programs in order, each with its layout
abbrev pub read_programs : List FileUse → List Program → List Layout → List state.Program
read_programs files [] ls = []
read_programs files (p ∷ ps) [] = []
read_programs files (p ∷ ps) (l ∷ ls) = read_program files p l ∷ read_programs files ps ls

abbrev pub read_portfolio : Portfolio → List state.Program
read_portfolio portfolio = read_programs portfolio.files portfolio.programs portfolio.layouts

-- a program that is not there
abbrev pub no_program : state.Program
no_program = record { paragraphs = []; layout = record { areas = []; items = []; conds = [] }; channels = [] }

-- the programs of a job, by their numbers
abbrev pub programs_of : Portfolio → List ℕ → List state.Program
programs_of portfolio numbers = map (λ (number : ℕ). slice_index_or (read_portfolio portfolio) number no_program) numbers
