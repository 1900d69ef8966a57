-- A portfolio with its labels, as a shelf holds it for a manifest, and why it holds none.
use Rattle.std.specs.Prelude.{◌≡◌, ℕ, List, Option, string_bytes}
use Rattle.y2k_base.specs.declared.text.Text.{Text}
use Rattle.conflict_chain.specs.Conflicts.{AreConflictsOf}
use Rattle.data_layout.specs.declared.portfolio.Portfolio.{Portfolio}
use Rattle.date_types.specs.Whole.{rules}
use Rattle.gathered.specs.Shelved.{HasGatherFault, RoseWith}
use Rattle.gathered.specs.declared.gathering.Gathered.{Gathered}
use Rattle.manifest_load.specs.declared.open.Opened.{Opened}
use Rattle.seed_load.specs.declared.refusal.SeedRefusal.{SeedRefusal}
use Rattle.seed_load.specs.declared.refusal.SeedRefusal.TheVariants as seed
use Rattle.shelf.specs.Causes.{Rose}
use Rattle.shelf.specs.Contents.{Files}
use Rattle.window_items.specs.Windows.{AreWindowsOf, HasWindowFault}
use Rattle.year_labels.specs.Derivation.{AreDerivable, IsLeast}
use Rattle.year_labels.specs.Order.{IsAscending}
use Rattle.year_labels.specs.declared.label.Seed.{Seed}
use Rattle.labelled_portfolio.specs.Seeded.{HasSeedRefusalFor, IsGatheredFor, IsSeeded}
use Rattle.labelled_portfolio.specs.declared.labels.Labels.{Labels}
use Rattle.labelled_portfolio.specs.declared.labelled.Labelled.{Labelled}
use Rattle.labelled_portfolio.specs.declared.refusal.Refusal.{Refusal}
use Rattle.labelled_portfolio.specs.declared.refusal.Refusal.TheVariants as refusal
use Rattle.labelled_portfolio.specs.declared.seeded.Seeded.{Seeded}

-- the rules of a portfolio, the least labelling by them that holds the seeds, and its conflicts
pub record AreLabels (p : Portfolio) (seeds : List Seed) (labels : Labels) : Type 0 where
  pub rules_are : labels.rules ≡ rules p
  pub derivable : AreDerivable seeds labels.rules labels.labelling
  pub least : IsLeast seeds labels.rules labels.labelling
  pub ordered : IsAscending labels.labelling
  pub conflicts_are : AreConflictsOf seeds labels.rules labels.labelling labels.conflicts

-- the windows of the manifest over its portfolio, and the labels
abbrev pub IsLabelledFrom : Opened → Seeded → Labelled → Type 0
IsLabelledFrom opened s l =
    (l.seeded ≡ s) × AreWindowsOf s.gathered.portfolio opened.manifest l.windows × AreLabels s.gathered.portfolio s.seeds l.labels

-- the texts of the manifest are this portfolio, its seed file has these seeds, and these are its windows and labels
abbrev pub IsLabelled : Option Files → Opened → Labelled → Type 0
IsLabelled told opened l = IsSeeded told opened l.seeded × IsLabelledFrom opened l.seeded l

-- what a portfolio of texts may lead to
abbrev pub HasSeedCause : Option Files → Opened → Gathered → Refusal → Type 0
HasSeedCause told opened g (refusal.Portfolio fault) = ⊥
HasSeedCause told opened g (refusal.Seeds fault) = HasSeedRefusalFor told opened g.texts.list g.portfolio fault
HasSeedCause told opened g (refusal.Windows fault) = ⊥
HasSeedCause told opened g refusal.Memory = Unit {0}

-- what a portfolio with its seeds may lead to
abbrev pub HasWindowCause : Opened → Seeded → Refusal → Type 0
HasWindowCause opened s (refusal.Portfolio fault) = ⊥
HasWindowCause opened s (refusal.Seeds fault) = ⊥
HasWindowCause opened s (refusal.Windows fault) = HasWindowFault s.gathered.portfolio opened.manifest fault
HasWindowCause opened s refusal.Memory = Unit {0}

-- why the shelf holds no labelled portfolio for a manifest: first its texts, then its seeds, then its window items
abbrev pub HasRefusal : Option Files → Opened → Refusal → Type 0
HasRefusal told opened (refusal.Portfolio fault) =
    HasGatherFault (string_bytes opened.folder) opened.length told opened.manifest fault
HasRefusal told opened (refusal.Seeds fault) =
    (g : Gathered) × IsGatheredFor told opened g.texts.list g.portfolio × HasSeedRefusalFor told opened g.texts.list g.portfolio fault
HasRefusal told opened (refusal.Windows fault) =
    (s : Seeded) × IsSeeded told opened s × HasWindowFault s.gathered.portfolio opened.manifest fault
HasRefusal told opened refusal.Memory = Unit {0}

-- where seeds are refused by the shelf's fault, its count rose
abbrev pub RoseWithSeeds : SeedRefusal → ℕ → ℕ → Type 0
RoseWithSeeds seed.Missing before now = Unit {0}
RoseWithSeeds seed.TooLarge before now = Unit {0}
RoseWithSeeds (seed.RowShape row) before now = Unit {0}
RoseWithSeeds (seed.SeedUnknown row) before now = Unit {0}
RoseWithSeeds seed.Shelf before now = Rose before now
RoseWithSeeds seed.Memory before now = Unit {0}

-- the same of any refusal
abbrev pub RoseBy : Refusal → ℕ → ℕ → Type 0
RoseBy (refusal.Portfolio fault) before now = RoseWith fault before now
RoseBy (refusal.Seeds fault) before now = RoseWithSeeds fault before now
RoseBy (refusal.Windows fault) before now = Unit {0}
RoseBy refusal.Memory before now = Unit {0}
