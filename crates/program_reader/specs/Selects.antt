-- How SELECT entries are read.
use Rattle.std.specs.Prelude.{ℕ, ◌+◌, Bool, true, false, if◌then◌else◌, List, Option, Some, None, is_some}
use Rattle.cobol_syntax.specs.declared.place.Place.{Place}
use Rattle.cobol_syntax.specs.declared.program.Select.{Select}
use Rattle.cond_reader.specs.declared.symbol.Symbol.TheVariants as s
use Rattle.cond_reader.specs.Text.{sees, spelling}
use Rattle.cond_reader.specs.Reads.{Reader, and_then, chain}
use Rattle.cond_reader.specs.Places.{name, place}
use Rattle.program_reader.specs.declared.term.Term.TheVariants as k
use Rattle.program_reader.specs.declared.select.SelectPart.{SelectPart}
use Rattle.program_reader.specs.declared.select.SelectPart.TheVariants as p
use Rattle.program_reader.specs.declared.select.SelectParts.{SelectParts}
use Rattle.program_reader.specs.Views.{View, has, past, past_is, ended, closed_by}

-- whether a clause of this kind is there
abbrev pub has_part : SelectParts → SelectPart → Bool
has_part ps p.Organization = ps.is_organized
has_part ps p.Access = ps.is_accessed
has_part ps (p.Status x) = is_some ps.status

abbrev pub with_part : SelectParts → SelectPart → SelectParts
with_part ps p.Organization = record ps { is_organized = true }
with_part ps p.Access = record ps { is_accessed = true }
with_part ps (p.Status x) = record ps { status = Some x }

abbrev pub no_parts : SelectParts
no_parts = record { is_organized = false; is_accessed = false; status = None }

module _ (v : View) where
  unfoldable pub sequential : SelectPart → ℕ → Option (SelectPart × ℕ)
  sequential part i = if has v k.Sequential i then Some (part, i + 1) else None

  unfoldable pub status : Reader SelectPart
  status i = if has v k.Status i then and_then (place v.text 64 (past_is v (i + 1))) (λ x j. Some (p.Status x, j)) else None

  unfoldable pub select_part : Reader SelectPart
  select_part i =
      if has v k.Organization i then sequential p.Organization (past_is v (i + 1))
      else (if has v k.Access i then sequential p.Access (past_is v (past v k.Mode (i + 1))) else status (past v k.File i))

  abbrev pub unless_there : SelectParts → SelectPart → ℕ → Option (SelectPart × ℕ)
  unless_there ps part j = if has_part ps part then None else Some (part, j)

  -- a clause of a kind that is not there yet
  unfoldable pub next_select_part : SelectParts → Reader SelectPart
  next_select_part ps i = and_then (select_part i) (unless_there ps)

  unfoldable pub more_select_parts : SelectParts → ℕ → SelectParts × ℕ
  more_select_parts = chain next_select_part with_part 3

  unfoldable pub external : Reader (List ℕ)
  external i = if sees v.text s.Literal i then Some (spelling v.text i, i + 1) else name v.text i

  unfoldable pub assigned : Reader (List ℕ)
  assigned i = if has v k.Assign i then (if sees v.text s.To (i + 1) then external (i + 2) else external (i + 1)) else None

  unfoldable pub select_rest : List ℕ → List ℕ → ℕ → Reader Select
  select_rest n x begin i =
      let ps = more_select_parts no_parts i in
      closed_by (record { name = n; external = x; status = ps.0.status; at = begin }) (ended v ps.1)

  unfoldable pub select : Reader Select
  select i =
      if has v k.Select i then and_then (name v.text (i + 1)) (λ n j. and_then (assigned j) (λ x m. select_rest n x i m))
      else None
