use Rattle.std.proofs.Common.{List, ℕ, subst}
use Rattle.window_modes.specs.Work.{AreMarkedModes}
use Rattle.window_modes.proofs.Classes.{modes_are}
use Rattle.window_modes.proofs.modes.window_modes.Goals as goal

pub returns : goal.returns
returns c =
    modes_are c.args.years.now c.in_ok-bytes.bytes.keys c.args.links.now c.in_ok-classes.classes c.args.groups.now c.in_ok-modes.modes c.in_ok-bytes.ensures c.in_ok-classes.ensures
    (subst (λ (names : List ℕ). AreMarkedModes c.args.years.now c.in_ok-bytes.bytes.keys names c.args.groups.now c.in_ok-modes.modes) c.items.ensures c.in_ok-modes.ensures)
