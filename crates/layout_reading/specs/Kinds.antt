-- What an item is, as the meaning of programs has it.
use Rattle.std.specs.Prelude.{◌≡◌, List, [], Option, Some, None, map}
use Rattle.y2k_base.specs.declared.picture.Picture.{Picture}
use Rattle.decimal_bytes.specs.declared.form.NumForm.{NumForm}
use Rattle.cobol_syntax.specs.declared.program.Usage.{Usage}
use Rattle.data_layout.specs.declared.item.Item.{Item}
use Rattle.data_layout.specs.declared.item.Class.{Class}
use Rattle.data_layout.specs.declared.item.Class.TheVariants as class
use Rattle.operand_kinds.specs.declared.kind.Kind as operand
use Rattle.operand_kinds.specs.declared.kind.Kind.TheVariants as kinds
use Rattle.program_meaning.specs.Number as number
use Rattle.program_meaning.specs.Kind.{Kind, Symbol, symbol_of, Group, Text, Edited, Number}
use Rattle.tree_reading.specs.Reading.{written_out, read_usage, read_sign_place}

abbrev pub read_form : NumForm → number.NumForm
read_form f = record { digits = f.digits; scale = f.scale; signed = f.signed; sign = read_sign_place f.sign }

-- the symbols of a picture, one for each place
abbrev pub symbols : Option Picture → List Symbol
symbols None = []
symbols (Some p) = map symbol_of (written_out p.runs)

abbrev pub kind_by : Class → Usage → NumForm → Option Picture → Kind
kind_by class.Group usage form picture = Group
kind_by class.Text usage form picture = Text
kind_by class.Edited usage form picture = Edited (symbols picture)
kind_by class.Number usage form picture = Number (read_usage usage) (read_form form)

abbrev pub read_kind : Item → Kind
read_kind item = kind_by item.class item.usage item.form item.picture

-- what a place is by the few words of `operand_kinds`, as the meaning has it. The picture of an edited item is left
-- out there
abbrev pub IsReadAs : operand.Kind → Kind → Type 0
IsReadAs kinds.Group k = k ≡ Group
IsReadAs kinds.Text k = k ≡ Text
IsReadAs (kinds.Edited form) k = (picture : List Symbol) × (k ≡ Edited picture)
IsReadAs (kinds.Number usage form) k = k ≡ Number (read_usage usage) (read_form form)
