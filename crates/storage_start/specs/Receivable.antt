-- Items that can receive a number: no more than 18 digits stand after the point.
use Rattle.std.specs.Prelude.{◌≤◌, Option}
use Rattle.y2k_base.specs.declared.picture.Picture.{Picture}
use Rattle.data_layout.specs.declared.item.Item.{Item}
use Rattle.layout_reading.specs.Kinds.{symbols}
use Rattle.operand_kinds.specs.declared.kind.Kind.{Kind}
use Rattle.operand_kinds.specs.declared.kind.Kind.TheVariants as kinds
use Rattle.operand_kinds.specs.Kinds.{kind_of_item}
use Rattle.program_meaning.specs.Kind.{digits_after}

abbrev pub KindReceives : Kind → Option Picture → Type 0
KindReceives kinds.Group picture = Unit {0}
KindReceives kinds.Text picture = Unit {0}
KindReceives (kinds.Edited form) picture = digits_after (symbols picture) ≤ 18
KindReceives (kinds.Number usage form) picture = form.scale ≤ 18

abbrev pub IsReceivable : Item → Type 0
IsReceivable item = KindReceives (kind_of_item item) item.picture
