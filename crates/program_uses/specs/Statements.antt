-- What is wrong in statements, with all that they hold.
use Rattle.std.specs.Prelude.{ℕ, ◌==◌, Bool, true, false, not, ◌||◌, ◌&&◌, List, [], ◌∷◌, map, Option, Some, None}
use Rattle.cobol_syntax.specs.declared.statement.Statement.{Statement, fold-Statement}
use Rattle.cobol_syntax.specs.declared.statement.Branch.{Branch, fold-Branch}
use Rattle.cobol_syntax.specs.declared.statement.Form.{Form, Form-F, fold-Form}
use Rattle.cobol_syntax.specs.declared.statement.Form.TheOpen as f
use Rattle.cobol_syntax.specs.declared.statement.Form.TheOpen.{Branch-F, Statement-F}
use Rattle.cobol_syntax.specs.declared.program.Sentence.{Sentence}
use Rattle.cobol_syntax.specs.declared.program.Paragraph.{Paragraph}
use Rattle.data_layout.specs.declared.item.Layout.{Layout}
use Rattle.operand_uses.specs.declared.fault.UseFault.{UseFault}
use Rattle.operand_uses.specs.Order.{sooner, shape_fault, name_fault}
use Rattle.operand_uses.specs.Places.{place_fault}
use Rattle.operand_uses.specs.Conditions.{condition_fault}
use Rattle.program_uses.specs.declared.beside.Beside.{Beside}
use Rattle.program_uses.specs.Names.{Known}
use Rattle.program_uses.specs.Overlap.{beside_apart}
use Rattle.program_uses.specs.Simple.{move_fault, compute_fault, control_fault, range_fault, read_fault, write_fault, show_fault}

-- A statement: whether it may be one of several that are read from its text, and the first fault in it and in what
-- it holds.
pub record Told : Type 0 where
  pub beside : Beside
  pub fault : Option UseFault

-- a statement that may be one of several
abbrev pub told : ℕ → Option UseFault → Told
told owner fault = record { beside = record { at = owner; right = true }; fault = fault }

-- a statement with a size phrase is the only one of its text
abbrev pub with_size : {A : Type 0} → Beside → Option A → Beside
with_size own None = own
with_size own (Some phrase) = record { at = own.at; right = false }

-- two neighbours are read from one text if they begin at one word
abbrev pub beside_fault : Option Beside → Beside → Option UseFault
beside_fault None next = None
beside_fault (Some last) next = shape_fault next.at (not (last.at == next.at) || (last.right && next.right))

-- the first fault in statements one after another, after what is at fault already
abbrev pub listed : Option UseFault → Option Beside → List Told → Option UseFault
listed fault last [] = fault
listed fault last (t ∷ ts) = listed (sooner fault (sooner (beside_fault last t.beside) t.fault)) (Some t.beside) ts

-- a statement with the phrases that it holds
abbrev pub with_held : Option UseFault → Option (Option UseFault) → Option UseFault
with_held own None = own
with_held own (Some fault) = sooner own fault

module _ (layout : Layout) (files paragraphs : Known) where
  abbrev pub form_layer : Form-F (ℕ → Told) (Option UseFault) Told → ℕ → Told
  form_layer (f.Move from to) owner = told owner (move_fault layout owner from to)
  -- arithmetic with a size phrase, or with a receiver that overlaps an operand, is the only statement of its text
  form_layer (f.Compute to rounded value rest size) owner =
      record { beside = with_size (beside_apart layout owner to value) size; fault = with_held (compute_fault layout owner to value rest) size }
  form_layer (f.If test body other) owner =
      told owner (sooner (condition_fault layout owner test) (sooner (listed None None body) (listed None None other)))
  form_layer f.NextSentence owner = told owner None
  form_layer (f.GoTo name) owner = told owner (name_fault owner (paragraphs name))
  form_layer f.Stop owner = told owner None
  form_layer f.Nothing owner = told owner None
  form_layer (f.Perform range body control) owner =
      told owner (sooner (range_fault paragraphs owner range) (sooner (control_fault layout owner control) (listed None None body)))
  form_layer (f.Open mode file) owner = told owner (name_fault owner (files file))
  form_layer (f.Close file) owner = told owner (name_fault owner (files file))
  form_layer (f.Read file into end) owner = told owner (with_held (read_fault layout files owner file into) end)
  form_layer (f.Write name from advance) owner = told owner (write_fault layout owner name from advance)
  form_layer (f.Accept to from) owner = told owner (place_fault layout owner to)
  form_layer (f.Show operands) owner = told owner (show_fault layout owner None operands)

  abbrev pub branch_layer : Branch-F (ℕ → Told) (Option UseFault) Told → Option UseFault
  branch_layer x = sooner (listed None None x.yes) (listed None None x.no)

  abbrev pub statement_layer : Statement-F (ℕ → Told) (Option UseFault) Told → Told
  statement_layer x = x.form x.at

  abbrev pub tell_form : Form → ℕ → Told
  tell_form = fold-Form (ℕ → Told) (Option UseFault) Told form_layer branch_layer statement_layer

  abbrev pub branch_fault : Branch → Option UseFault
  branch_fault = fold-Branch (ℕ → Told) (Option UseFault) Told form_layer branch_layer statement_layer

  abbrev pub tell : Statement → Told
  tell = fold-Statement (ℕ → Told) (Option UseFault) Told form_layer branch_layer statement_layer

  abbrev pub sentences_fault : Option UseFault → List Sentence → Option UseFault
  sentences_fault fault [] = fault
  sentences_fault fault (sentence ∷ sentences) =
      sentences_fault (sooner fault (listed None None (map tell sentence.statements))) sentences

  -- the first fault in the procedure division, after what is at fault already
  abbrev pub paragraphs_fault : Option UseFault → List Paragraph → Option UseFault
  paragraphs_fault fault [] = fault
  paragraphs_fault fault (one ∷ others) = paragraphs_fault (sooner fault (sentences_fault None one.sentences)) others
