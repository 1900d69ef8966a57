use Rattle.std.proofs.Common.{◌≡◌, ◌+◌, length}
use Rattle.std.specs.Prelude.{option_map}
use Rattle.statement_words.specs.NewWords.{name_at}
use Rattle.statement_words.proofs.new_words.name_at.Given as goal

abbrev pub invariant-loop-rest : goal.invariant-loop-rest
invariant-loop-rest l = record {
  length : l.position + length l.rest ≡ length l.words;
  place : name_at l.name l.words ≡ option_map (λ n. l.position + n) (name_at l.name l.rest);
}

abbrev pub decreases-loop-rest : goal.decreases-loop-rest
decreases-loop-rest l = length l.rest
