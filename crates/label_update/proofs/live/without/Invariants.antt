use Rattle.std.proofs.Common.{◌≡◌, ◌++◌}
use Rattle.std.specs.Prelude.{not}
use Rattle.std.specs.List.{filter}
use Rattle.std.specs.Ordering.{eq_by_cmp}
use Rattle.std.specs.Set.{is_member}
use Rattle.label_update.specs.Named.{named_cmp}
use Rattle.label_update.proofs.live.without.Given as goal

abbrev pub invariant-loop-fact : goal.invariant-loop-fact
invariant-loop-fact l = l.kept ++ l.fact-iterator ≡ filter (λ k. not (is_member (eq_by_cmp named_cmp) l.others.keys k)) l.facts.keys
