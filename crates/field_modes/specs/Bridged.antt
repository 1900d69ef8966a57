-- The edits that write anew the moves of a portfolio that cross, and put in the areas that these need.
use Rattle.std.specs.Prelude.{ℕ, ◌+◌, Bool, true, false, List, [], ◌∷◌, ◌++◌, Option, Some, None, slice_get, if◌then◌else◌}
use Rattle.std.specs.List.{list_any}
use Rattle.y2k_base.specs.declared.edit.Edit.{Edit}
use Rattle.y2k_base.specs.declared.word.Origin.{Origin}
use Rattle.y2k_base.specs.declared.word.Word.{Word}
use Rattle.cobol_syntax.specs.declared.program.Program.{Program}
use Rattle.data_layout.specs.declared.item.Layout.{Layout}
use Rattle.data_layout.specs.declared.portfolio.Portfolio.{Portfolio}
use Rattle.year_labels.specs.declared.label.Fact.{Fact}
use Rattle.window_modes.specs.declared.modes.YearMode.{YearMode}
use Rattle.generated_areas.specs.declared.area.GeneratedArea.{GeneratedArea}
use Rattle.generated_areas.specs.declared.area.GeneratedArea.TheVariants as areas
use Rattle.statement_places.specs.Parts.{Seen, Move, Compute, Accept, Test, parts}
use Rattle.statement_words.specs.Edited.{stretch}
use Rattle.statement_words.specs.Areas.{areas_edits}
use Rattle.statement_words.specs.Groups.{alone, groups}
use Rattle.field_modes.specs.declared.crossing.Crossing.{Crossing}
use Rattle.field_modes.specs.Crossings.{part_crossing, any_crosses}
use Rattle.field_modes.specs.Crossed.{crossed}

abbrev pub crossed_part : ℕ → List Word → List Edit → List Seen → Origin → Crossing → Seen → List Word
crossed_part program words edits group at c (Move begin end from to) = crossed program words edits group to c at
crossed_part program words edits group at c (Compute begin end to rounded value) = alone program words edits group (Compute begin end to rounded value)
crossed_part program words edits group at c (Accept begin end to from) = alone program words edits group (Accept begin end to from)
crossed_part program words edits group at c (Test of) = alone program words edits group (Test of)

-- a part that crosses gets its new words; any other stands alone
abbrev pub written : ℕ → List Word → List Edit → List Seen → Origin → Seen → Option Crossing → List Word
written program words edits group at part None = alone program words edits group part
written program words edits group at part (Some c) = crossed_part program words edits group at c part

abbrev pub all_written : List Fact → List YearMode → Layout → ℕ → List Word → List Edit → List Seen → Origin → List Seen → List Word
all_written facts modes layout program words edits group at [] = []
all_written facts modes layout program words edits group at (part ∷ parts) =
    written program words edits group at part (part_crossing facts modes layout part)
    ++ all_written facts modes layout program words edits group at parts

abbrev pub rewritten : List Fact → List YearMode → Layout → ℕ → List Word → List Edit → List Seen → ℕ → ℕ → Option Word → List Edit
rewritten facts modes layout program words edits group at end None = []
rewritten facts modes layout program words edits group at end (Some word) =
    stretch program words at end (all_written facts modes layout program words edits group word.origin group)

-- a MOVE of which one part crosses is written anew, all of it
abbrev pub first_edits : List Fact → List YearMode → Layout → ℕ → List Word → List Edit → List Seen → Seen → List Edit
first_edits facts modes layout program words edits group (Move at end from to) =
    if any_crosses facts modes layout group then rewritten facts modes layout program words edits group at end (slice_get words at) else []
first_edits facts modes layout program words edits group (Compute at end to rounded value) = []
first_edits facts modes layout program words edits group (Accept at end to from) = []
first_edits facts modes layout program words edits group (Test of) = []

abbrev pub group_edits : List Fact → List YearMode → Layout → ℕ → List Word → List Edit → List Seen → List Edit
group_edits facts modes layout program words edits [] = []
group_edits facts modes layout program words edits (first ∷ more) = first_edits facts modes layout program words edits (first ∷ more) first

abbrev pub groups_edits : List Fact → List YearMode → Layout → ℕ → List Word → List Edit → List (List Seen) → List Edit
groups_edits facts modes layout program words edits [] = []
groups_edits facts modes layout program words edits (group ∷ more) =
    group_edits facts modes layout program words edits group ++ groups_edits facts modes layout program words edits more

abbrev pub is_for_moves : GeneratedArea → Bool
is_for_moves areas.Date = false
is_for_moves areas.FullDate = false
is_for_moves areas.Day = false
is_for_moves areas.FullDay = false
is_for_moves (areas.Short n) = true
is_for_moves (areas.Long n) = true

-- all areas of a program, where one of them is for a move that crosses
abbrev pub needed_edits : ℕ → List Word → List GeneratedArea → List Edit
needed_edits program words needed = if list_any is_for_moves needed then areas_edits program words needed else []

abbrev pub program_edits : List Fact → List YearMode → List Edit → ℕ → Program → Layout → List GeneratedArea → List Edit
program_edits facts modes edits number program layout needed =
    needed_edits number program.words needed
    ++ groups_edits facts modes layout number program.words edits (groups (parts program))

abbrev pub areas_or_none : Option (List GeneratedArea) → List GeneratedArea
areas_or_none None = []
areas_or_none (Some needed) = needed

-- each program has its layout, and by its number its areas; the first has this number
abbrev pub programs_edits : List Fact → List YearMode → List (List GeneratedArea) → List Edit → ℕ → List Program → List Layout → List Edit
programs_edits facts modes needed edits number [] layouts = []
programs_edits facts modes needed edits number (program ∷ programs) [] = []
programs_edits facts modes needed edits number (program ∷ programs) (layout ∷ layouts) =
    program_edits facts modes edits number program layout (areas_or_none (slice_get needed number))
    ++ programs_edits facts modes needed edits (number + 1) programs layouts

abbrev pub portfolio_edits : List Fact → List YearMode → List (List GeneratedArea) → List Edit → Portfolio → List Edit
portfolio_edits facts modes needed edits portfolio = programs_edits facts modes needed edits 0 portfolio.programs portfolio.layouts
