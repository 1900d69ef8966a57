use Rattle.std.proofs.Common.{arith, sym, ◌∙◌}
use Rattle.std.proofs.lemmas.Bool.{false≢true}
use Rattle.case_tables.specs.declared.row_table.Row.{Row}
use Rattle.year_labels.specs.Operands.{IsByRow}
use Rattle.conflict_chain.specs.Named.{named}
use Rattle.conflict_chain.proofs.Steps.{none_more}
use Rattle.conflict_chain.proofs.follows.is_by_rows.Goals as goal

pub loop-i-preserved : goal.loop-i-preserved
loop-i-preserved c =
    none_more (λ (row : Row). IsByRow c.args.a.now c.args.b.now c.args.c.now row (named c.args.steps.now c.args.from.now) c.args.fact) c.args.rows.now c.loop-i.i _ (omega arith) c.loop-i.invariant
    (λ h. false≢true (sym c.if-is_by_row.false ∙ c.is_by_row.ensures.1 h))
