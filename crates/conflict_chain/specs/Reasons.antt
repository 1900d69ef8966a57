-- Each fact of a labelling has a reason.
use Rattle.std.specs.Prelude.{List, Contains}
use Rattle.year_labels.specs.declared.label.Fact.{Fact}
use Rattle.year_labels.specs.declared.label.Seed.{Seed}
use Rattle.year_labels.specs.declared.rule.RuleInst.{RuleInst}
use Rattle.conflict_chain.specs.declared.chain.ChainStep.{ChainStep}
use Rattle.conflict_chain.specs.Chains.{IsChain}

-- a chain ends in each of the facts
abbrev pub HaveChains : List Seed → List RuleInst → List Fact → Type 0
HaveChains seeds rules facts = (f : Fact) → Contains facts f → (steps : List ChainStep) × IsChain seeds rules steps f
