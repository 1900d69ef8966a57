-- The edits of a portfolio whose years have windows.
use Rattle.std.specs.Prelude.{ℕ, ◌+◌, List, [], ◌∷◌, ◌++◌, flat_map}
use Rattle.std.specs.List.Sorted.{IsStableByKey}
use Rattle.y2k_base.specs.declared.edit.Edit.{Edit}
use Rattle.y2k_base.specs.Edits.{AreInOrder, word_of, place_cmp}
use Rattle.cobol_syntax.specs.declared.program.Program.{Program}
use Rattle.data_layout.specs.declared.item.Layout.{Layout}
use Rattle.data_layout.specs.declared.portfolio.Portfolio.{Portfolio}
use Rattle.window_modes.specs.declared.modes.YearMode.{YearMode}
use Rattle.statement_places.specs.Parts.{Seen, Move, Compute, Accept, Test, parts}
use Rattle.statement_words.specs.Groups.{groups}
use Rattle.window_rewrite.specs.Old.{Old}
use Rattle.window_rewrite.specs.Asked.{asked}
use Rattle.window_rewrite.specs.Conditions.{test_edits}
use Rattle.window_rewrite.specs.Differences.{computations_edits}

abbrev pub part_edits : Old → List Seen → Seen → List Edit
part_edits old group (Move at end from to) = []
part_edits old group (Compute at end to rounded value) = computations_edits old group at end
part_edits old group (Accept at end to from) = []
part_edits old group (Test of) = test_edits old (asked of)

-- of a text statement with these parts, or of a condition
abbrev pub group_edits : Old → List Seen → List Edit
group_edits old [] = []
group_edits old (first ∷ more) = part_edits old (first ∷ more) first

abbrev pub groups_edits : Old → List (List Seen) → List Edit
groups_edits old groups = flat_map (group_edits old) groups

abbrev pub old_program : List YearMode → List Edit → ℕ → Program → Layout → Old
old_program modes edits number program layout =
    record { program = number; words = program.words; edits = edits; layout = layout; modes = modes }

abbrev pub program_edits : List YearMode → List Edit → ℕ → Program → Layout → List Edit
program_edits modes edits number program layout =
    groups_edits (old_program modes edits number program layout) (groups (parts program))

-- each program has its layout; the first has this number
abbrev pub programs_edits : List YearMode → List Edit → ℕ → List Program → List Layout → List Edit
programs_edits modes edits number [] layouts = []
programs_edits modes edits number (program ∷ programs) [] = []
programs_edits modes edits number (program ∷ programs) (layout ∷ layouts) =
    program_edits modes edits number program layout ++ programs_edits modes edits (number + 1) programs layouts

abbrev pub window_edits : List YearMode → List Edit → Portfolio → List Edit
window_edits modes edits portfolio = programs_edits modes edits 0 portfolio.programs portfolio.layouts

-- these edits, in order of words
pub record AreWindowEdits (modes : List YearMode) (edits : List Edit) (portfolio : Portfolio) (list : List Edit) : Type 0 where
  pub ordered : AreInOrder list
  pub same : IsStableByKey word_of place_cmp (window_edits modes edits portfolio) list
