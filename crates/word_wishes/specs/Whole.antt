-- What is wanted in a portfolio, and the edits of single words that this comes to.
use Rattle.std.specs.Prelude.{ℕ, ◌+◌, List, [], ◌∷◌, ◌++◌, slice_get, Option, Some, None}
use Rattle.y2k_base.specs.declared.edit.Edit.{Edit}
use Rattle.y2k_base.specs.declared.word.Word.{Word}
use Rattle.cobol_syntax.specs.declared.program.Program.{Program}
use Rattle.data_layout.specs.declared.item.Item.{Item}
use Rattle.data_layout.specs.declared.item.Layout.{Layout}
use Rattle.data_layout.specs.declared.portfolio.Portfolio.{Portfolio}
use Rattle.year_labels.specs.declared.label.Fact.{Fact}
use Rattle.window_modes.specs.declared.modes.YearMode.{YearMode}
use Rattle.date_uses.specs.declared.uses.DateUse.{DateUse}
use Rattle.date_uses.specs.declared.uses.UseForm.{UseForm}
use Rattle.date_uses.specs.declared.uses.UseForm.TheVariants as forms
use Rattle.date_uses.specs.Uses.{uses}
use Rattle.literal_images.specs.declared.meeting.Meeting.TheVariants as meetings
use Rattle.literal_images.specs.Meetings.{meeting_of}
use Rattle.word_wishes.specs.Literals.{literal_wishes, compared_wishes, range_wishes}
use Rattle.word_wishes.specs.References.{reference_wishes}
use Rattle.word_wishes.specs.Entries.{entries_wishes}
use Rattle.word_wishes.specs.Chosen.{AreChosen}

-- a use in a program with these words and items
abbrev pub form_wishes : List YearMode → ℕ → List Word → List Item → UseForm → List Edit
form_wishes modes program words items (forms.Move kind from to bridge) = literal_wishes modes program words (meeting_of kind) from to
form_wishes modes program words items (forms.Accept to from) = []
form_wishes modes program words items (forms.Compare left rel right) = compared_wishes modes program words left right
form_wishes modes program words items (forms.Class of numeric) = []
form_wishes modes program words items (forms.Sum to left right size) = []
form_wishes modes program words items (forms.Difference to left right size) = []
form_wishes modes program words items (forms.Value item of) = literal_wishes modes program words meetings.Moved of item
form_wishes modes program words items (forms.Range item low high) = range_wishes modes program words item low high
form_wishes modes program words items (forms.Mention of) = reference_wishes modes program words items of

abbrev pub in_layout : List YearMode → DateUse → Program → Option Layout → List Edit
in_layout modes u program None = []
in_layout modes u program (Some layout) = form_wishes modes u.program program.words layout.items u.form

abbrev pub in_program : List YearMode → DateUse → Option Program → Option Layout → List Edit
in_program modes u None layout = []
in_program modes u (Some program) layout = in_layout modes u program layout

abbrev pub use_wishes : List YearMode → Portfolio → DateUse → List Edit
use_wishes modes portfolio u = in_program modes u (slice_get portfolio.programs u.program) (slice_get portfolio.layouts u.program)

abbrev pub uses_wishes : List YearMode → Portfolio → List DateUse → List Edit
uses_wishes modes portfolio [] = []
uses_wishes modes portfolio (u ∷ more) = use_wishes modes portfolio u ++ uses_wishes modes portfolio more

-- the entries of programs, of which the first has this number
abbrev pub programs_wishes : List YearMode → ℕ → List Program → List Layout → List Edit
programs_wishes modes number [] layouts = []
programs_wishes modes number (program ∷ programs) [] = []
programs_wishes modes number (program ∷ programs) (layout ∷ layouts) =
    entries_wishes modes number program layout ++ programs_wishes modes (number + 1) programs layouts

-- what is wanted in a portfolio with that labelling and these years: by its entries, and by its uses in their order
abbrev pub wishes : List Fact → List YearMode → Portfolio → List Edit
wishes facts modes portfolio =
    programs_wishes modes 0 portfolio.programs portfolio.layouts ++ uses_wishes modes portfolio (uses facts portfolio)

-- the edits of single words
abbrev pub AreWordEdits : List Fact → List YearMode → Portfolio → List Edit → Type 0
AreWordEdits facts modes portfolio edits = AreChosen portfolio.programs (wishes facts modes portfolio) edits
