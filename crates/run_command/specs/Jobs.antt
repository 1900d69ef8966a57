-- The programs of a job, by their numbers.
use Rattle.std.specs.Prelude.{ℕ, ◌+◌, List, [], ◌∷◌, Option, Some, None, if◌then◌else◌}
use Rattle.std.specs.Str.{bytes_eq}
use Rattle.cobol_syntax.specs.declared.program.Program.{Program}
use Rattle.portfolio.specs.declared.manifest.Manifest.{Manifest}
use Rattle.portfolio.specs.declared.manifest.NamedJob.{NamedJob}

-- the number of the program of that name, where the first program has this number
abbrev pub number_from : ℕ → List Program → List ℕ → Option ℕ
number_from n [] name = None
number_from n (p ∷ ps) name = if bytes_eq p.id name then Some n else number_from (n + 1) ps name

abbrev pub number_then : Option ℕ → Option (List ℕ) → Option (List ℕ)
number_then None numbers = None
number_then (Some n) None = None
number_then (Some n) (Some ns) = Some (n ∷ ns)

-- the numbers of programs by their names, where each is there
abbrev pub numbers_of : List Program → List (List ℕ) → Option (List ℕ)
numbers_of ps [] = Some []
numbers_of ps (name ∷ names) = number_then (number_from 0 ps name) (numbers_of ps names)

-- the names of the programs of a job
abbrev pub names_in : List NamedJob → List ℕ → Option (List (List ℕ))
names_in [] job = None
names_in (j ∷ js) job = if bytes_eq j.key job then Some j.programs else names_in js job

abbrev pub numbers_if : List Program → Option (List (List ℕ)) → Option (List ℕ)
numbers_if ps None = None
numbers_if ps (Some names) = numbers_of ps names

-- the programs of a manifest's job, where there is that job and each of its programs; names count as they are written
abbrev pub job_numbers : Manifest → List Program → List ℕ → Option (List ℕ)
job_numbers m ps job = numbers_if ps (names_in m.jobs job)
