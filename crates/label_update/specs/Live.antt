-- The labels of a portfolio and its seeds, and what changes between two.
use Rattle.std.specs.Prelude.{◌↔◌, List, Contains}
use Rattle.data_layout.specs.declared.portfolio.Portfolio.{Portfolio}
use Rattle.date_types.specs.Whole.{rules}
use Rattle.year_labels.specs.Derivation.{AreDerivable, IsLeast}
use Rattle.year_labels.specs.Order as order
use Rattle.year_labels.specs.declared.label.Fact.{Fact}
use Rattle.year_labels.specs.declared.label.Seed.{Seed}
use Rattle.label_update.specs.Named.{AreNamed, IsAscending}
use Rattle.label_update.specs.declared.live.Change.{Change}
use Rattle.label_update.specs.declared.live.LiveLabels.{LiveLabels}
use Rattle.label_update.specs.declared.named.NamedFact.{NamedFact}

-- the facts, by the numbers of their areas
abbrev pub labels_in : LiveLabels → List Fact
labels_in live = live.labelling

-- the same, by the names of their areas, each once and in order
abbrev pub named_in : LiveLabels → List NamedFact
named_in live = live.named.keys

-- the least labelling that holds the seeds and is closed under the rules of the portfolio, as computed from nothing
pub record IsLive (portfolio : Portfolio) (seeds : List Seed) (live : LiveLabels) : Type 0 where
  pub derivable : AreDerivable seeds (rules portfolio) (labels_in live)
  pub least : IsLeast seeds (rules portfolio) (labels_in live)
  pub ordered : order.IsAscending (labels_in live)
  pub named : AreNamed portfolio (labels_in live) (named_in live)

-- those of the first that aren't among the second, in order
pub record IsWithout (facts others kept : List NamedFact) : Type 0 where
  pub ordered : IsAscending kept
  pub same : (f : NamedFact) → Contains kept f ↔ (Contains facts f × (Contains others f → ⊥))

-- what came and what went
pub record IsChange (before after : List NamedFact) (change : Change) : Type 0 where
  pub added : IsWithout after before change.added
  pub removed : IsWithout before after change.removed
