use Rattle.std.proofs.Common.{List, subst, sym}
use Rattle.year_pairs.specs.declared.year.Year.{Year}
use Rattle.year_pairs.specs.Years.{AreYearsOf}
use Rattle.convert_plan.proofs.Placed.{modes_placed, years_placed}
use Rattle.convert_plan.proofs.modes.modes_of.Goals as goal

pub window_modes-requires-clause-placed : goal.window_modes-requires-clause-placed
window_modes-requires-clause-placed c =
    years_placed c.args.labelling.now c.items-3.result.now c.requires.placed
    (subst (λ (ys : List Year). AreYearsOf c.args.labelling.now ys) (sym c.items-3.ensures) c.in_ok-years.ensures)

pub new-requires : goal.new-requires
new-requires c =
    modes_placed c.args.labelling.now c.items-3.result.now c.items-4.result.now c.items-5.result.now c.in_ok-modes.modes c.requires.placed
    (subst (λ (ys : List Year). AreYearsOf c.args.labelling.now ys) (sym c.items-3.ensures) c.in_ok-years.ensures) c.in_ok-modes.ensures
