-- What a number is in the bytes of a view, and what receivers get.
use Rattle.std.specs.Prelude.{◌≡◌, ℕ, List, length, Option, Some, None}
use Rattle.operand_kinds.specs.declared.kind.Kind as operand
use Rattle.operand_kinds.specs.declared.kind.Kind.TheVariants as kinds
use Rattle.layout_reading.specs.Kinds.{read_form}
use Rattle.layout_reading.specs.Reading.{read_span}
use Rattle.program_meaning.specs.Answer.{Answer, Gives, and_then}
use Rattle.program_meaning.specs.Arithmetic.{Scaled, exact}
use Rattle.program_meaning.specs.Kind.{Kind, Symbol, Group, Text, Edited, Number}
use Rattle.program_meaning.specs.Storage.{Storage, write, decimal_in}
use Rattle.storage_places.specs.Fits.{IsNumber}
use Rattle.storage_places.specs.Held.{IsWithin}
use Rattle.tree_reading.specs.Reading.{read_usage}
use Rattle.storage_sums.specs.declared.writing.Stored.{Stored}

-- the exact number that bytes of a kind hold
abbrev pub exact_in : Kind → List ℕ → Answer Scaled
exact_in k bs = and_then (decimal_in k bs) (λ d. Gives (exact d))

-- a number has as many bytes as its form says
abbrev pub NumberFits : operand.Kind → ℕ → Type 0
NumberFits kinds.Group bytes = Unit {0}
NumberFits kinds.Text bytes = Unit {0}
NumberFits (kinds.Edited form) bytes = Unit {0}
NumberFits (kinds.Number usage form) bytes = IsNumber usage form bytes

-- what a place with these symbols in its picture is taken as
abbrev pub kind_shown : operand.Kind → List Symbol → Kind
kind_shown kinds.Group picture = Group
kind_shown kinds.Text picture = Text
kind_shown (kinds.Edited form) picture = Edited picture
kind_shown (kinds.Number usage form) picture = Number (read_usage usage) (read_form form)

-- a number or an edited item has as many bytes as its picture says
abbrev pub ShownFits : operand.Kind → List Symbol → ℕ → Type 0
ShownFits kinds.Group picture bytes = Unit {0}
ShownFits kinds.Text picture bytes = Unit {0}
ShownFits (kinds.Edited form) picture bytes = bytes ≡ length picture
ShownFits (kinds.Number usage form) picture bytes = IsNumber usage form bytes

-- bytes for a place of the areas
pub record IsStored (first : ℕ) (lengths : List ℕ) (stored : Stored) : Type 0 where
  pub within : IsWithin first lengths stored.span
  pub whole : length stored.bytes ≡ stored.span.length

abbrev pub AreStored : ℕ → List ℕ → Option Stored → Type 0
AreStored first lengths None = Unit {0}
AreStored first lengths (Some stored) = IsStored first lengths stored

-- the storage with bytes for a receiver
abbrev pub stored_in : ℕ → Storage → Stored → Storage
stored_in first store stored = write store (read_span first stored.span) stored.bytes

-- and with those for a receiver that needn't be there
abbrev pub stored_if : ℕ → Option Stored → Storage → Storage
stored_if first None store = store
stored_if first (Some stored) store = stored_in first store stored
