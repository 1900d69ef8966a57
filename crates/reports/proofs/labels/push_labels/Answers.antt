use Rattle.std.proofs.Common.{◌++◌, ℕ, List, map, take, sym, ap, ◌∙◌, append_assoc}
use Rattle.reports.specs.Labels as spec
use Rattle.reports.specs.Rows.{row_text, rows_text, written}
use Rattle.reports.proofs.Loops.{mapped_more}
use Rattle.reports.proofs.labels.push_labels.Goals as goal

pub loop-i-preserved : goal.loop-i-preserved
loop-i-preserved c =
    let row = spec.label_row c.args.names.now in
    let facts = c.args.labelling.now in
    let fact = c.in-Some.fact in
    let before = written c.args.rows.now in
    let rows = rows_text (map row (take c.loop-i.i facts)) in
    record {
      between = c.in_ok-push_label-in-Some.ensures.between;
      rows = c.in_ok-push_label-in-Some.ensures.row
          ∙ ap (λ (text : List ℕ). text ++ row_text (row fact)) c.loop-i.invariant.rows
          ∙ append_assoc before rows (row_text (row fact))
          ∙ ap (λ (text : List ℕ). before ++ text) (sym (mapped_more row facts c.loop-i.i fact (sym c.in-Some.ensures.value)));
    }
