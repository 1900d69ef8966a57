-- Operands as uses have them, and where uses stand.
use Rattle.std.specs.Prelude.{ℕ, false, List, [], ◌∷◌, Option, Some, None, is_some}
use Rattle.y2k_base.specs.declared.word.Word.{Word}
use Rattle.cobol_syntax.specs.declared.place.Place.{Place}
use Rattle.cobol_syntax.specs.declared.expr.Operand.{Operand}
use Rattle.cobol_syntax.specs.declared.expr.Operand.TheVariants as operand
use Rattle.data_layout.specs.declared.item.Item.{Item}
use Rattle.data_layout.specs.declared.item.Layout.{Layout}
use Rattle.data_layout.specs.declared.found.Found.{Found}
use Rattle.data_layout.specs.declared.found.Found.TheVariants as found
use Rattle.data_layout.specs.Find.{meaning}
use Rattle.date_views.specs.declared.side.Side.{Side}
use Rattle.date_views.specs.Sides.{side_of, whole_side}
use Rattle.statement_rules.specs.Statements.{origin_at, record_side}
use Rattle.date_uses.specs.declared.uses.DateUse.{DateUse}
use Rattle.date_uses.specs.declared.uses.UseForm.{UseForm}
use Rattle.date_uses.specs.declared.uses.UseForm.TheVariants as forms
use Rattle.date_uses.specs.declared.uses.Used.{Used}
use Rattle.date_uses.specs.declared.uses.Used.TheVariants as used
use Rattle.date_uses.specs.declared.places.Spot.{Spot}

-- the place of a word of a program
abbrev pub spot_of : ℕ → List Word → ℕ → Spot
spot_of program words word = record { program = program; word = word; at = origin_at words word }

abbrev pub use_at : Spot → UseForm → DateUse
use_at spot form = record { program = spot.program; at = spot.at; form = form }

abbrev pub number_found : Found → Option ℕ
number_found (found.Item number) = Some number
number_found (found.Named number) = None
number_found found.Unknown = None
number_found found.Twice = None

-- a place as it is written
abbrev pub place_used : Layout → Place → Used
place_used layout place =
    used.Place (record { side = side_of layout place; item = number_found (meaning layout place.names); cut = is_some place.cut; at = place.at })

abbrev pub operand_used : Layout → Operand → Used
operand_used layout (operand.Place place) = place_used layout place
operand_used layout (operand.Number value digits word) = used.Number value digits word
operand_used layout (operand.Text bytes word) = used.Text bytes word
operand_used layout (operand.Figure byte word) = used.Figure byte word

abbrev pub operand_used_if : Layout → Option Operand → Option Used
operand_used_if layout None = None
operand_used_if layout (Some x) = Some (operand_used layout x)

-- a whole item, at its entry
abbrev pub item_used : ℕ → Item → Used
item_used number item = used.Place (record { side = whole_side item; item = Some number; cut = false; at = item.entry_at })

-- a record area
abbrev pub area_used : Spot → Option Side → Used
area_used spot side = used.Place (record { side = side; item = None; cut = false; at = spot.word })

-- the record that WRITE names, as a group
abbrev pub record_used : Layout → Spot → List ℕ → Used
record_used layout spot name =
    used.Place (record { side = record_side layout name; item = number_found (meaning layout (name ∷ [])); cut = false; at = spot.word })

abbrev pub mention : Layout → Spot → Place → List DateUse
mention layout spot place = use_at spot (forms.Mention (place_used layout place)) ∷ []

abbrev pub mention_if : Layout → Spot → Option Place → List DateUse
mention_if layout spot None = []
mention_if layout spot (Some place) = mention layout spot place

-- a literal is no place
abbrev pub operand_mention : Layout → Spot → Operand → List DateUse
operand_mention layout spot (operand.Place place) = mention layout spot place
operand_mention layout spot (operand.Number value digits word) = []
operand_mention layout spot (operand.Text bytes word) = []
operand_mention layout spot (operand.Figure byte word) = []

abbrev pub operand_mention_if : Layout → Spot → Option Operand → List DateUse
operand_mention_if layout spot None = []
operand_mention_if layout spot (Some x) = operand_mention layout spot x
