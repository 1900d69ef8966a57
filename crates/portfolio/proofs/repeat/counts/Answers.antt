use Rattle.std.proofs.Common.{◌+◌, ◌<◌, ℕ, cond, length, get_or, bytes_eq, rules, ap, sym, ◌∙◌}
use Rattle.portfolio.specs.Counts.{count_in}
use Rattle.portfolio.proofs.Counts.{next_count}
use Rattle.portfolio.proofs.repeat.counts.Goals as goal

pub loop-name-preserved : goal.loop-name-preserved
loop-name-preserved c =
    let key = c.items-key.result.now in
    let old = c.loop-name.counts in
    let names = c.args.names.now in
    let i = c.loop-name.name-index in
    let within : i < length names = search rules in
    next_count (count_in old) (count_in c.put_count.new.counts) names i key within
    (c.items-key.ensures ∙ c.name-item.is ∙ ap (get_or names i) (sym c.items-key.ensures))
    c.loop-name.invariant
    (λ q. c.in_ok-put_count.ensures q ∙ ap (λ (n : ℕ). cond (bytes_eq key q) (n + 1) (count_in old q)) c.count_of-before.ensures)
