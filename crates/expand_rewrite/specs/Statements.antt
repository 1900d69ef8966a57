-- The statements that are written anew, and the areas for dates and days that are accepted.
use Rattle.std.specs.Prelude.{ℕ, ◌+◌, Bool, true, false, List, [], ◌∷◌, ◌++◌, slice_get, Option, Some, None}
use Rattle.std.specs.List.{filter}
use Rattle.y2k_base.specs.declared.edit.Edit.{Edit}
use Rattle.cobol_syntax.specs.declared.program.Program.{Program}
use Rattle.data_layout.specs.declared.item.Layout.{Layout}
use Rattle.window_modes.specs.declared.modes.YearMode.{YearMode}
use Rattle.generated_areas.specs.declared.area.GeneratedArea.{GeneratedArea}
use Rattle.generated_areas.specs.declared.area.GeneratedArea.TheVariants as areas
use Rattle.statement_places.specs.Parts.{Seen, Move, Compute, Accept, Test, parts}
use Rattle.statement_words.specs.Areas.{areas_edits}
use Rattle.statement_words.specs.Groups.{groups}
use Rattle.expand_rewrite.specs.Old.{Old}
use Rattle.expand_rewrite.specs.Moves.{moves_edits}
use Rattle.expand_rewrite.specs.Accepts.{accept_edits}

-- a text statement with one receiver
abbrev pub single_edits : Old → Seen → List Edit
single_edits p (Move at end from to) = []
single_edits p (Compute at end to rounded value) = []
single_edits p (Accept at end to from) = accept_edits p at end to from
single_edits p (Test of) = []

-- one with several, by the first
abbrev pub several_edits : Old → Seen → List Seen → List Edit
several_edits p (Move at end from to) group = moves_edits p at from group
several_edits p (Compute at end to rounded value) group = []
several_edits p (Accept at end to from) group = []
several_edits p (Test of) group = []

abbrev pub group_edits : Old → List Seen → List Edit
group_edits p [] = []
group_edits p (part ∷ []) = single_edits p part
group_edits p (part ∷ (next ∷ more)) = several_edits p part (part ∷ (next ∷ more))

abbrev pub groups_edits : Old → List (List Seen) → List Edit
groups_edits p [] = []
groups_edits p (group ∷ groups) = group_edits p group ++ groups_edits p groups

-- those for bridged moves aren't needed here
abbrev pub is_of_accept : GeneratedArea → Bool
is_of_accept areas.Date = true
is_of_accept areas.FullDate = true
is_of_accept areas.Day = true
is_of_accept areas.FullDay = true
is_of_accept (areas.Short n) = false
is_of_accept (areas.Long n) = false

abbrev pub program_edits : Old → Program → List GeneratedArea → List Edit
program_edits p tree needed = areas_edits p.number p.words (filter is_of_accept needed) ++ groups_edits p (groups (parts tree))

abbrev pub areas_in : Option (List GeneratedArea) → List GeneratedArea
areas_in None = []
areas_in (Some needed) = needed

abbrev pub areas_at : List (List GeneratedArea) → ℕ → List GeneratedArea
areas_at needed number = areas_in (slice_get needed number)

-- the years, the pivot of the day, the areas that programs need, and the edits of single words
pub record Scene : Type 0 where
  pub modes : List YearMode
  pub day : ℕ
  pub needed : List (List GeneratedArea)
  pub words : List Edit

abbrev pub old : Scene → ℕ → Program → Layout → Old
old scene number tree layout = record {
  number = number;
  words = tree.words;
  edits = scene.words;
  layout = layout;
  modes = scene.modes;
  day = scene.day;
}

abbrev pub numbered_edits : Scene → ℕ → Program → Layout → List Edit
numbered_edits scene number tree layout = program_edits (old scene number tree layout) tree (areas_at scene.needed number)

-- each program has its layout; the first has this number
abbrev pub programs_edits : Scene → ℕ → List Program → List Layout → List Edit
programs_edits scene number [] layouts = []
programs_edits scene number (tree ∷ programs) [] = []
programs_edits scene number (tree ∷ programs) (layout ∷ layouts) =
    numbered_edits scene number tree layout ++ programs_edits scene (number + 1) programs layouts
