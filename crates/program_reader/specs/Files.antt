-- How FD entries are read.
use Rattle.std.specs.Prelude.{ℕ, zero, suc, ◌+◌, Bool, true, false, ◌||◌, if◌then◌else◌, List, [], Option, Some, None, is_some, length}
use Rattle.std.specs.Option.{option_map, option_map_or, option_and_then}
use Rattle.cobol_syntax.specs.declared.expr.Operand.{Operand}
use Rattle.cobol_syntax.specs.declared.program.FileEntry.{FileEntry}
use Rattle.cond_reader.specs.declared.symbol.Symbol.TheVariants as s
use Rattle.cond_reader.specs.Text.{sees}
use Rattle.cond_reader.specs.Reads.{Reader, and_then, chain}
use Rattle.cond_reader.specs.Places.{name}
use Rattle.cond_reader.specs.Exprs.{constant}
use Rattle.program_reader.specs.declared.term.Term.{Term}
use Rattle.program_reader.specs.declared.term.Term.TheVariants as k
use Rattle.program_reader.specs.declared.file.FilePart.{FilePart}
use Rattle.program_reader.specs.declared.file.FilePart.TheVariants as p
use Rattle.program_reader.specs.Views.{View, has, past, past_is, past_is_or_are, ended, count, closed_by}

abbrev pub with_file_part : Option Operand → FilePart → Option Operand
with_file_part contains p.Idle = contains
with_file_part contains (p.Contains n) = Some n

abbrev pub is_second : Option Operand → FilePart → Bool
is_second contains p.Idle = false
is_second contains (p.Contains n) = is_some contains

abbrev pub step_to : Option ℕ → (ℕ → Option ℕ) → Option ℕ
step_to None f = None
step_to (Some j) f = f j

abbrev pub or_stay : ℕ → Option ℕ → ℕ
or_stay i None = i
or_stay i (Some j) = j

abbrev pub idle : Option ℕ → Option (FilePart × ℕ)
idle None = None
idle (Some j) = Some (p.Idle, j)

module _ (v : View) where
  -- one of two words
  unfoldable pub past_one : Term → Term → ℕ → Option ℕ
  past_one a b i = if has v a i || has v b i then Some (i + 1) else None

  unfoldable pub past_any : Term → Term → ℕ → ℕ
  past_any a b i = or_stay i (past_one a b i)

  unfoldable pub records : ℕ → Option ℕ
  records i = step_to (past_one k.Record k.Records i) (λ j. Some (past_is_or_are v j))

  unfoldable pub label : ℕ → Option ℕ
  label i = step_to (records i) (λ j. past_one k.Standard k.Omitted j)

  unfoldable pub block : ℕ → Option ℕ
  block i = and_then (count v (past v k.Contains i)) (λ n j. Some (past_any k.Records k.Characters j))

  unfoldable pub recording : ℕ → Option ℕ
  recording i = let j = past_is v (past v k.Mode i) in if has v k.Fixed j then Some (j + 1) else None

  abbrev pub past_some_names : ℕ → ℕ → ℕ
  past_some_names zero i = i
  past_some_names (suc n) i = if sees v.text s.Name i then past_some_names n (i + 1) else i

  unfoldable pub past_names : ℕ → ℕ
  past_names i = past_some_names (length v.terms) i

  unfoldable pub data_records : ℕ → Option ℕ
  data_records i = step_to (records i) (λ j. if sees v.text s.Name j then Some (past_names (j + 1)) else None)

  -- a clause without effect
  unfoldable pub idle_part : ℕ → Option ℕ
  idle_part i =
      if has v k.Label i then label (i + 1)
      else (if has v k.Block i then block (i + 1)
      else (if has v k.Data i then data_records (i + 1)
      else (if has v k.Recording i then recording (i + 1) else None)))

  -- after RECORD
  unfoldable pub record_contains : Reader FilePart
  record_contains i =
      let start = past v k.Contains i in
      and_then (count v start) (λ n j. and_then (constant v.text start) (λ o m. Some (p.Contains o, past v k.Characters m)))

  unfoldable pub file_part : Reader FilePart
  file_part i = if has v k.Record i then record_contains (i + 1) else idle (idle_part i)

  abbrev pub unless_second : Option Operand → FilePart → ℕ → Option (FilePart × ℕ)
  unless_second contains part j = if is_second contains part then None else Some (part, j)

  unfoldable pub next_file_part : Option Operand → Reader FilePart
  next_file_part contains i = and_then (file_part i) (unless_second contains)

  unfoldable pub more_file_parts : Option Operand → ℕ → Option Operand × ℕ
  more_file_parts = chain next_file_part with_file_part (length v.terms)

  unfoldable pub file_rest : List ℕ → ℕ → Reader FileEntry
  file_rest n begin i =
      let ps = more_file_parts None i in
      closed_by (record { name = n; contains = ps.0; entries = []; at = begin }) (ended v ps.1)

  unfoldable pub file : Reader FileEntry
  file i = if has v k.Fd i then and_then (name v.text (i + 1)) (λ n j. file_rest n i j) else None
