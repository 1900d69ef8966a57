-- When the run of a job is tame.
use Rattle.std.specs.Prelude.{ℕ, ◌≤◌, List, [], map, length, slice_index_or, Option, Some, None}
use Rattle.data_layout.specs.declared.item.Layout.{Layout}
use Rattle.data_layout.specs.declared.portfolio.Portfolio.{Portfolio}
use Rattle.y2k_base.specs.declared.place.AreaId.{AreaId}
use Rattle.year_image.specs.Piece.{Piece}
use Rattle.file_convert.specs.declared.cut.Cuts.{Cuts}
use Rattle.file_convert.specs.Cuts.{pieces}
use Rattle.plan_images.specs.Tables.{cuts_at}
use Rattle.convert_plan.specs.declared.plan.Plan.{Plan}
use Rattle.layout_reading.specs.Reading.{programs_of}
use Rattle.program_meaning.specs.Files.{Disk}
use Rattle.program_meaning.specs.Job.{JobState, Going, Over, job_after}
use Rattle.program_meaning.specs.Step.{Calendar}
use Rattle.tame_runs.specs.Years.{AreTameFiles}
use Rattle.tame_runs.specs.Steps.{IsTameState}

-- the pieces of an area
abbrev pub area_pieces : List Cuts → AreaId → List Piece
area_pieces images area = pieces (cuts_at images area)

-- the pieces of the areas of a program
abbrev pub program_pieces : List Cuts → Layout → List (List Piece)
program_pieces images layout = map (λ area. area_pieces images area.id) layout.areas

-- those of the programs with these numbers
abbrev pub job_pieces : List Cuts → List Layout → List ℕ → List (List (List Piece))
job_pieces images layouts numbers = map (λ (number : ℕ). slice_index_or (map (program_pieces images) layouts) number []) numbers

abbrev pub pieces_if : List Cuts → Option AreaId → List Piece
pieces_if images None = []
pieces_if images (Some area) = area_pieces images area

-- the pieces of the records of each file
abbrev pub file_pieces : Plan → List (List Piece)
file_pieces plan = map (pieces_if plan.images) plan.files

-- what stands in a job is tame, and so is its next step
abbrev pub IsTameJob : ℕ → Calendar → List (List Piece) → List (List (List Piece)) → JobState → Type 0
IsTameJob pivot day files programs (Going ends program state rest) =
    IsTameState pivot day files (slice_index_or programs (length ends) []) program state
IsTameJob pivot day files programs (Over ends disks shown) = AreTameFiles files disks

-- the job of these programs of a portfolio, on these files and that day, is tame up to n steps
abbrev pub IsTameRun : Portfolio → Plan → List ℕ → List Disk → Calendar → ℕ → Type 0
IsTameRun portfolio plan numbers disks day n =
    (k : ℕ) → k ≤ n → IsTameJob plan.day day (file_pieces plan) (job_pieces plan.images portfolio.layouts numbers) (job_after day (programs_of portfolio numbers) disks k)
