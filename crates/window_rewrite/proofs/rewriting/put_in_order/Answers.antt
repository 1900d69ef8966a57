use Rattle.std.proofs.Common.{rules}
use Rattle.std.proofs.lemmas.List.Sorted.{answers_always}
use Rattle.y2k_base.specs.Edits.{word_of}
use Rattle.window_rewrite.proofs.rewriting.put_in_order.Goals as goal

pub returns-clause-sorted : goal.returns-clause-sorted
returns-clause-sorted c = c.in_ok-sort_by_key.ensures.sorted word_of (answers_always _ _ _ (λ f a r f' k. search rules))

pub returns-clause-stable : goal.returns-clause-stable
returns-clause-stable c = c.in_ok-sort_by_key.ensures.stable word_of (answers_always _ _ _ (λ f a r f' k. search rules))
