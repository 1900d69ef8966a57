-- The words of the command line.
use Rattle.std.specs.Prelude.{◌≡◌, ℕ, Bool, true, false, ◌&&◌, ◌||◌, if◌then◌else◌, ◌==◌, List, [], ◌∷◌, Some, codes}
use Rattle.run_command.specs.Words.{day_of, bound_of}
use Rattle.trial_run.specs.declared.day.Day.{Day}
use Rattle.std.specs.Char.{is_ascii_alphanumeric}

-- a letter, a digit, a hyphen or an underscore
abbrev pub is_part_byte : ℕ → Bool
is_part_byte b = is_ascii_alphanumeric b || b == 45 || b == 95

-- the rest of a name is parts with slashes between, each with a byte that is no point; seen says whether the part that
-- it begins in has such a byte before
abbrev pub is_name_rest : Bool → List ℕ → Bool
is_name_rest seen [] = seen
is_name_rest seen (b ∷ bs) =
    if b == 47 then seen && is_name_rest false bs else if is_part_byte b then is_name_rest true bs else b == 46 && is_name_rest seen bs

-- the name of a file of a shelf: parts of letters, digits, points, hyphens and underscores joined by slashes, no part empty
-- or of points alone
abbrev pub is_shelf_name : List ℕ → Bool
is_shelf_name name = is_name_rest false name

-- the words are `label-one SRC ITEM`
abbrev pub IsLabelOne : List (List ℕ) → List ℕ → List ℕ → Type 0
IsLabelOne words source item = (words ≡ codes "label-one" ∷ source ∷ item ∷ []) × (is_shelf_name source ≡ true)

abbrev pub IsNoLabelOne : List (List ℕ) → Type 0
IsNoLabelOne words = (source item : List ℕ) → IsLabelOne words source item → ⊥

-- the words are a form of the command line that has the name of a manifest alone
abbrev pub IsOfManifest : List ℕ → List (List ℕ) → List ℕ → Type 0
IsOfManifest form words main = (words ≡ form ∷ main ∷ []) × (is_shelf_name main ≡ true)

abbrev pub IsNotOfManifest : List ℕ → List (List ℕ) → Type 0
IsNotOfManifest form words = (main : List ℕ) → IsOfManifest form words main → ⊥

-- the words are `label M`
abbrev pub IsLabel : List (List ℕ) → List ℕ → Type 0
IsLabel words main = IsOfManifest (codes "label") words main

abbrev pub IsNoLabel : List (List ℕ) → Type 0
IsNoLabel words = IsNotOfManifest (codes "label") words

-- the words are `plan M`
abbrev pub IsPlan : List (List ℕ) → List ℕ → Type 0
IsPlan words main = IsOfManifest (codes "plan") words main

abbrev pub IsNoPlan : List (List ℕ) → Type 0
IsNoPlan words = IsNotOfManifest (codes "plan") words

-- what `run` runs: a job of the portfolio of a manifest, on a day, for so many steps, and into a folder
pub record IsTask (main date number out : List ℕ) (day : Day) (bound : ℕ) : Type 0 where
  pub main_name : is_shelf_name main ≡ true
  pub is_day : day_of date ≡ Some day
  pub is_bound : bound_of number ≡ Some bound
  pub out_name : is_shelf_name out ≡ true

-- the words are `run M JOB YYMMDD BOUND OUT`
pub record IsRun (words : List (List ℕ)) (main job : List ℕ) (day : Day) (bound : ℕ) (out : List ℕ) : Type 0 where
  pub date : List ℕ
  pub number : List ℕ
  pub are : words ≡ codes "run" ∷ main ∷ job ∷ date ∷ number ∷ out ∷ []
  pub task : IsTask main date number out day bound

abbrev pub IsNoRun : List (List ℕ) → Type 0
IsNoRun words = (main job : List ℕ) (day : Day) (bound : ℕ) (out : List ℕ) → IsRun words main job day bound out → ⊥
