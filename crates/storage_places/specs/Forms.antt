-- The digits, point and sign of the item that a place means.
use Rattle.std.specs.Prelude.{◌≡◌, ◌≤◌, false}
use Rattle.cobol_syntax.specs.declared.place.Place.{Place}
use Rattle.cobol_syntax.specs.declared.program.Program.{Program}
use Rattle.data_layout.specs.declared.item.Layout.{Layout}
use Rattle.decimal_bytes.specs.declared.form.NumForm.{NumForm}
use Rattle.decimal_bytes.specs.declared.form.SignPlace.TheVariants as sign
use Rattle.operand_kinds.specs.declared.kind.Kind.{Kind}
use Rattle.operand_kinds.specs.declared.kind.Kind.TheVariants as kinds
use Rattle.program_meaning.specs.Answer.{Gives}
use Rattle.program_meaning.specs.Arithmetic.{receiver_form}
use Rattle.program_meaning.specs.Storage.{Storage}
use Rattle.tree_reading.specs.Reading.{read_place}
use Rattle.layout_reading.specs.Kinds.{read_form}
use Rattle.layout_reading.specs.Reading.{read_layout}

-- a group or a text has no digits
abbrev pub no_digits : NumForm
no_digits = record { digits = 0; scale = 0; signed = false; sign = sign.Trailing }

abbrev pub kind_form : Kind → NumForm
kind_form kinds.Group = no_digits
kind_form kinds.Text = no_digits
kind_form (kinds.Edited form) = form
kind_form (kinds.Number usage form) = form

-- what the meaning gives as the form of a place that receives, in every program with this layout
pub record IsFormOf (l : Layout) (place : Place) (form : NumForm) : Type 0 where
  pub same : (program : Program) (store : Storage) → receiver_form (read_layout program l) store (read_place place) ≡ Gives (read_form form)
  pub digits : form.digits ≤ 18
  pub scale : form.scale ≤ 18
