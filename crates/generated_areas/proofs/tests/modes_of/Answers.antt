use Rattle.std.proofs.Common.{List, [], ◌∷◌, ◌++◌, ap, ◌∙◌, arith}
use Rattle.window_modes.specs.declared.modes.YearMode.{YearMode}
use Rattle.generated_areas.proofs.Placed.{two_placed}
use Rattle.generated_areas.proofs.tests.modes_of.Goals as goal

pub returns : goal.returns
returns c =
    two_placed _ c.mode-first.result c.mode-second.result
    (c.in_ok-push-2.ensures.ok ∙ ap (λ (modes : List YearMode). modes ++ c.mode-second.result ∷ []) (c.in_ok-push.ensures.ok ∙ ap (λ (modes : List YearMode). modes ++ c.mode-first.result ∷ []) c.new-modes.ensures))
    (omega (arith, c.mode-first.ensures.area, c.mode-second.ensures.area))
    (omega (arith, c.mode-first.ensures.offset))
    (omega (arith, c.mode-second.ensures.offset))
