use Rattle.std.proofs.Common.{◌≡◌}
use Rattle.portfolio.specs.Keys.{is_word_of, all_keys}
use Rattle.portfolio.proofs.Unknown.{first_unknown}
use Rattle.portfolio.proofs.read.least_unknown.Given as goal

abbrev pub invariant-loop-key : goal.invariant-loop-key
invariant-loop-key l = first_unknown (is_word_of all_keys) l.key-iterator ≡ first_unknown (is_word_of all_keys) l.table.entries
