-- Sides of relations as the meaning of programs has them.
use Rattle.std.specs.Prelude.{◌≡◌, ℕ, List, take}
use Rattle.cobol_syntax.specs.declared.program.Program.{Program}
use Rattle.data_layout.specs.declared.item.Layout.{Layout}
use Rattle.operand_kinds.specs.declared.kind.Kind as operand
use Rattle.operand_kinds.specs.declared.kind.Kind.TheVariants as kinds
use Rattle.layout_reading.specs.Reading.{read_layout}
use Rattle.program_meaning.specs.Compare as meant
use Rattle.program_meaning.specs.Layout as meaning
use Rattle.program_meaning.specs.Storage.{Storage}
use Rattle.storage_tests.specs.declared.side.Side.{Side}
use Rattle.storage_tests.specs.declared.side.Side.TheVariants as s
use Rattle.storage_tests.specs.declared.compared.Compared.{Compared}
use Rattle.storage_tests.specs.declared.compared.Compared.TheVariants as c
use Rattle.storage_tests.specs.declared.digits.Digits.{Digits}

abbrev pub read_side : Side → meant.Side
read_side s.Number = meant.IsNumber
read_side s.Bytes = meant.IsBytes
read_side (s.Figure byte) = meant.IsFigure byte

-- what a place of a kind is in a relation
abbrev pub kind_side : operand.Kind → Side
kind_side kinds.Group = s.Bytes
kind_side kinds.Text = s.Bytes
kind_side (kinds.Edited form) = s.Bytes
kind_side (kinds.Number usage form) = s.Number

-- what a part of a program with this layout is in a relation, whatever the storage holds
abbrev pub IsSide : Layout → (meaning.Layout → Storage → meant.Side) → Side → Type 0
IsSide l of_side side = (program : Program) (store : Storage) → of_side (read_layout program l) store ≡ read_side side

abbrev pub text_of : Digits → List ℕ
text_of d = take d.length d.text

abbrev pub read_compared : Compared → meant.Compared
read_compared (c.Whole bytes) = meant.Whole bytes.now
read_compared (c.Digits digits) = meant.Whole (text_of digits)
read_compared (c.Repeated byte) = meant.Repeated byte
