-- What a run of a job prints: what was shown, and how each program ended.
use Rattle.std.specs.Prelude.{ℕ, Bool, true, false, List, [], ◌∷◌, ◌++◌, Option, Some, None, codes, decimal, slice_get, if◌then◌else◌}
use Rattle.std.specs.List.{concat, list_any}
use Rattle.y2k_base.specs.declared.word.Origin.{Origin}
use Rattle.cobol_syntax.specs.declared.program.Program.{Program}
use Rattle.portfolio.specs.declared.manifest.Manifest.{Manifest}
use Rattle.refusal_lines.specs.Lines.{text_name}
use Rattle.statement_places.specs.Statements.{statement_origin}
use Rattle.trial_run.specs.declared.end.End.{End}
use Rattle.trial_run.specs.declared.end.End.TheVariants as end
use Rattle.trial_run.specs.declared.end.FaultKind.{FaultKind}
use Rattle.trial_run.specs.declared.end.FaultKind.TheVariants as kind
use Rattle.trial_run.specs.declared.job.Shown.{Shown}

-- the parts of a piece, one after the other
abbrev pub shown_line : Shown → List ℕ
shown_line s = concat s.parts ++ codes "\n"

abbrev pub shown_lines : List Shown → List ℕ
shown_lines [] = []
shown_lines (s ∷ ss) = shown_line s ++ shown_lines ss

abbrev pub kind_word : FaultKind → List ℕ
kind_word kind.Data = codes "Data"
kind_word kind.Range = codes "Range"
kind_word kind.Zero = codes "Zero"
kind_word kind.Wide = codes "Wide"
kind_word kind.File = codes "File"

-- a place in a text, which goes by the name that the manifest gives it; a statement that isn't there has none
abbrev pub place_text : Manifest → Option Origin → List ℕ
place_text m None = []
place_text m (Some at) = codes " " ++ (text_name m at.file.0 ++ (codes ":" ++ (decimal at.line ++ (codes ":" ++ decimal at.column))))

-- how a program ended; the place of a fault is that of the first word of its statement
abbrev pub end_text : Manifest → Program → End → List ℕ
end_text m p end.Stopped = codes "stopped"
end_text m p (end.Fault fault at) = codes "fault " ++ (kind_word fault ++ place_text m (statement_origin p at.number))
end_text m p end.Running = codes "running"

abbrev pub end_line : Manifest → Program → End → List ℕ
end_line m p e = p.id ++ (codes " " ++ (end_text m p e ++ codes "\n"))

abbrev pub end_line_at : Manifest → Option Program → End → List ℕ
end_line_at m None e = []
end_line_at m (Some p) e = end_line m p e

-- the ends of a job's first programs, which go by their numbers
abbrev pub end_lines : Manifest → List Program → List ℕ → List End → List ℕ
end_lines m ps [] es = []
end_lines m ps (n ∷ ns) [] = []
end_lines m ps (n ∷ ns) (e ∷ es) = end_line_at m (slice_get ps n) e ++ end_lines m ps ns es

-- what was shown, then the ends
abbrev pub job_lines : Manifest → List Program → List ℕ → List Shown → List End → List ℕ
job_lines m ps numbers shown ends = shown_lines shown ++ end_lines m ps numbers ends

abbrev pub is_running : End → Bool
is_running end.Running = true
is_running _ = false

-- 9 where a program is still running, and else 0
abbrev pub job_status : List End → ℕ
job_status ends = if list_any is_running ends then 9 else 0
