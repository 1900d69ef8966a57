use Rattle.std.proofs.Common.{◌≡◌, ℕ, inl, inr, arith, sym, ap, ◌∙◌, subst, get_or}
use Rattle.std.proofs.lemmas.Bool.{cases_lt, false≢true}
use Rattle.std.proofs.lemmas.List.{get_or_default}
use Rattle.case_tables.specs.declared.row_table.Row.{Row}
use Rattle.case_tables.specs.Rows.{Fires}
use Rattle.case_tables.proofs.row_table.RowTable.gives.Goals as goal

pub loop-i-preserved : goal.loop-i-preserved
loop-i-preserved g c = λ k d low h.
    let rows = c.args.self.now.rows in
    elim (cases_lt k c.loop-i.i) [
      | inl before ↦ c.loop-i.invariant k d before h
      | inr after ↦
          let here : k ≡ c.loop-i.i = omega arith in
          let same = ap (λ (n : ℕ). get_or rows n d) here ∙ get_or_default rows c.loop-i.i d _ (omega arith) in
          absurd (false≢true (sym c.if-makes.false ∙ c.makes.ensures.1 (subst (λ (row : Row). Fires c.args.known.now row × (row.gives ≡ c.args.test)) same h)))
    ]
