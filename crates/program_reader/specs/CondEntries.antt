-- How entries of condition-names are read.
use Rattle.std.specs.Prelude.{ℕ, ◌+◌, ◌||◌, if◌then◌else◌, List, [], ◌∷◌, Option, Some, None, length}
use Rattle.cobol_syntax.specs.declared.program.Range.{Range}
use Rattle.cond_reader.specs.Reads.{Reader, and_then, chain, with_last}
use Rattle.cond_reader.specs.Places.{name}
use Rattle.cond_reader.specs.Exprs.{constant}
use Rattle.program_reader.specs.declared.term.Term.TheVariants as k
use Rattle.program_reader.specs.declared.entry.Draft.{Draft}
use Rattle.program_reader.specs.Views.{View, has, past_is_or_are, ended, closed_by}
use Rattle.program_reader.specs.Drafts.{plain_entry}
use Rattle.program_reader.specs.Files.{step_to}

abbrev pub with_ranges : Draft → List Range → Draft
with_ranges d rs = record d { entry = record (d.entry) { ranges = rs } }

abbrev pub from_value : {A : Type 0} → Option ℕ → Reader A → Option (A × ℕ)
from_value None f = None
from_value (Some j) f = f j

module _ (v : View) where
  unfoldable pub range : Reader Range
  range i =
      and_then (constant v.text i) (λ low j.
      if has v k.Through j then and_then (constant v.text (j + 1)) (λ high m. Some (record { low = low; high = Some high }, m))
      else Some (record { low = low; high = None }, j))

  unfoldable pub more_ranges : List Range → ℕ → List Range × ℕ
  more_ranges = chain (λ _. range) with_last (length v.terms)

  unfoldable pub past_value : ℕ → Option ℕ
  past_value i = if has v k.Value i || has v k.Values i then Some (past_is_or_are v (i + 1)) else None

  unfoldable pub ranges : Reader (List Range)
  ranges i = and_then (range i) (λ first j. let rs = more_ranges (first ∷ []) j in closed_by rs.0 (ended v rs.1))

  unfoldable pub cond_rest : List ℕ → ℕ → Reader Draft
  cond_rest n begin i =
      and_then (from_value (past_value i) ranges) (λ rs j. Some (with_ranges (plain_entry 88 (Some n) None begin) rs, j))

  unfoldable pub cond_entry : ℕ → Reader Draft
  cond_entry begin i = and_then (name v.text i) (λ n j. cond_rest n begin j)
