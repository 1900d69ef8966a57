-- What the status of a refusal says of it.
use Rattle.std.proofs.Common.{◌≡◌, ℕ, refl, arith}
use Rattle.gathered.specs.Shelved.{RoseWith}
use Rattle.gathered.specs.declared.fault.GatherFault.{GatherFault}
use Rattle.gathered.specs.declared.fault.GatherFault.TheVariants as gather
use Rattle.labelled_portfolio.specs.Labelled.{RoseBy, RoseWithSeeds}
use Rattle.labelled_portfolio.specs.declared.refusal.Refusal.{Refusal}
use Rattle.labelled_portfolio.specs.declared.refusal.Refusal.TheVariants as refusals
use Rattle.manifest_load.specs.declared.refusal.ManifestRefusal.{ManifestRefusal}
use Rattle.manifest_load.specs.declared.refusal.ManifestRefusal.TheVariants as manifest
use Rattle.refusal_lines.specs.Lines.{manifest_status, portfolio_status, seeds_status, status_of, window_status}
use Rattle.seed_load.specs.declared.refusal.SeedRefusal.{SeedRefusal}
use Rattle.seed_load.specs.declared.refusal.SeedRefusal.TheVariants as seeds
use Rattle.shelf.specs.Causes.{Rose}
use Rattle.window_items.specs.declared.fault.WindowFault.{WindowFault}
use Rattle.window_items.specs.declared.fault.WindowFault.TheVariants as windows

no36 : ◌≡◌ {A = ℕ} 3 6 → ⊥
no36 e = omega (arith, e)

no86 : ◌≡◌ {A = ℕ} 8 6 → ⊥
no86 e = omega (arith, e)

no32 : ◌≡◌ {A = ℕ} 3 2 → ⊥
no32 e = omega (arith, e)

no62 : ◌≡◌ {A = ℕ} 6 2 → ⊥
no62 e = omega (arith, e)

no82 : ◌≡◌ {A = ℕ} 8 2 → ⊥
no82 e = omega (arith, e)

-- status 6 is the shelf's alone
pub manifest_shelf : (r : ManifestRefusal) → manifest_status r ≡ 6 → r ≡ manifest.Shelf
manifest_shelf manifest.Missing e = absurd (no36 e)
manifest_shelf manifest.TooLarge e = absurd (no36 e)
manifest_shelf manifest.NotToml e = absurd (no36 e)
manifest_shelf (manifest.At kind key) e = absurd (no36 e)
manifest_shelf manifest.Shelf e = refl
manifest_shelf manifest.Memory e = absurd (no86 e)

portfolio_rose : (f : GatherFault) (before now : ℕ) → portfolio_status f ≡ 6 → RoseWith f before now → Rose before now
portfolio_rose (gather.Refused refused) before now e h = absurd (no36 e)
portfolio_rose (gather.Missing name) before now e h = absurd (no36 e)
portfolio_rose (gather.TooLarge name) before now e h = absurd (no36 e)
portfolio_rose (gather.FileUnknown name) before now e h = absurd (no36 e)
portfolio_rose (gather.RecordLengths name) before now e h = absurd (no36 e)
portfolio_rose (gather.Shelf name) before now e h = h
portfolio_rose gather.Memory before now e h = absurd (no86 e)

seeds_rose : (r : SeedRefusal) (before now : ℕ) → seeds_status r ≡ 6 → RoseWithSeeds r before now → Rose before now
seeds_rose seeds.Missing before now e h = absurd (no36 e)
seeds_rose seeds.TooLarge before now e h = absurd (no36 e)
seeds_rose (seeds.RowShape row) before now e h = absurd (no36 e)
seeds_rose (seeds.SeedUnknown row) before now e h = absurd (no36 e)
seeds_rose seeds.Shelf before now e h = h
seeds_rose seeds.Memory before now e h = absurd (no86 e)

window_rose : (f : WindowFault) (before now : ℕ) → window_status f ≡ 6 → Rose before now
window_rose (windows.Unknown text) before now e = absurd (no36 e)
window_rose windows.Memory before now e = absurd (no86 e)

pub rose : (r : Refusal) (before now : ℕ) → status_of r ≡ 6 → RoseBy r before now → Rose before now
rose (refusals.Portfolio fault) before now e h = portfolio_rose fault before now e h
rose (refusals.Seeds fault) before now e h = seeds_rose fault before now e h
rose (refusals.Windows fault) before now e h = window_rose fault before now e
rose refusals.Memory before now e h = absurd (no86 e)

-- no refusal has the status of words without a form
pub manifest_form : (r : ManifestRefusal) → manifest_status r ≡ 2 → ⊥
manifest_form manifest.Missing e = no32 e
manifest_form manifest.TooLarge e = no32 e
manifest_form manifest.NotToml e = no32 e
manifest_form (manifest.At kind key) e = no32 e
manifest_form manifest.Shelf e = no62 e
manifest_form manifest.Memory e = no82 e

portfolio_form : (f : GatherFault) → portfolio_status f ≡ 2 → ⊥
portfolio_form (gather.Refused refused) e = no32 e
portfolio_form (gather.Missing name) e = no32 e
portfolio_form (gather.TooLarge name) e = no32 e
portfolio_form (gather.FileUnknown name) e = no32 e
portfolio_form (gather.RecordLengths name) e = no32 e
portfolio_form (gather.Shelf name) e = no62 e
portfolio_form gather.Memory e = no82 e

seeds_form : (r : SeedRefusal) → seeds_status r ≡ 2 → ⊥
seeds_form seeds.Missing e = no32 e
seeds_form seeds.TooLarge e = no32 e
seeds_form (seeds.RowShape row) e = no32 e
seeds_form (seeds.SeedUnknown row) e = no32 e
seeds_form seeds.Shelf e = no62 e
seeds_form seeds.Memory e = no82 e

window_form : (f : WindowFault) → window_status f ≡ 2 → ⊥
window_form (windows.Unknown text) e = no32 e
window_form windows.Memory e = no82 e

pub form : (r : Refusal) → status_of r ≡ 2 → ⊥
form (refusals.Portfolio fault) e = portfolio_form fault e
form (refusals.Seeds fault) e = seeds_form fault e
form (refusals.Windows fault) e = window_form fault e
form refusals.Memory e = no82 e
