use Rattle.std.proofs.Common.{◌≡◌, ℕ, List, subst, sym, ap, ◌∙◌}
use Rattle.std.specs.List.Sorted.{IsPermutation}
use Rattle.data_layout.specs.declared.item.Layout.{Layout}
use Rattle.reports.specs.declared.items.ItemStart.{ItemStart}
use Rattle.reports.specs.Items.{starts_in}
use Rattle.reports.specs.Plans.{plan_table}
use Rattle.reports.specs.Rows.{rows_text}
use Rattle.reports.proofs.Again.{plan_again}
use Rattle.reports.proofs.plan.report.Goals as goal

pub returns : goal.returns
returns c =
    let texts = c.args.texts.now.list in
    let starts = c.in_ok-starts.starts.items in
    let text_is : c.in_ok-text.text ≡ rows_text (plan_table texts c.args.portfolio.now c.args.index.now starts) =
    c.in_ok-text.ensures ∙ ap (λ (list : List ItemStart). rows_text (plan_table texts c.args.portfolio.now c.args.index.now list)) c.as_slice.ensures.value in
    record {
      starts = starts;
      same = subst (λ (layouts : List Layout). IsPermutation (starts_in 0 layouts) starts) c.items.ensures c.in_ok-starts.ensures.same;
      sorted = c.in_ok-starts.ensures.sorted;
      text_is = text_is;
      again = plan_again texts c.args.portfolio.now c.args.index.now starts c.in_ok-text.text text_is;
    }
