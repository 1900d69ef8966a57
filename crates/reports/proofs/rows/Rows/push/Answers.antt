use Rattle.std.proofs.Common.{◌≤◌, ◌++◌, ℕ, List, length, map, ap, ◌∙◌, Bor}
use Rattle.std.proofs.lemmas.List.{length-map}
use Rattle.reports.specs.Rows.{written}
use Rattle.reports.proofs.Csv.{row_same, is_plain}
use Rattle.reports.proofs.rows.Rows.push.Goals as goal
use Rattle.reports.proofs.rows.Rows.push.Goals.{in-Ok, in-Err}

pub returns-clause-row : goal.returns-clause-row
returns-clause-row c = elim c.match-write_fields.branch [
  | in-Ok w ↦
      let between = c.requires.between in
      let fields : List (List ℕ) = map {A = Bor (List ℕ)} {B = List ℕ} (λ field. field.now) c.args.fields.now in
      let several : 2 ≤ length fields = rw (length-map c.args.fields.now (λ (field : Bor (List ℕ)). field.now)) c.requires.several in
      let text = w.in-Ok.ensures.bytes between.fields between.bytes (is_plain _ between.setup) in
      rw w.result-is (text ∙ ap (λ (row : List ℕ). written c.args.self.now ++ row) (row_same _ between.setup fields several))
  | in-Err w ↦ rw w.result-is tt
]
