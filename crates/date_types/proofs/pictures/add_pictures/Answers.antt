use Rattle.std.proofs.Common.{◌++◌, ◌∙◌, ap, List, Option}
use Rattle.y2k_base.specs.declared.word.Origin.{Origin}
use Rattle.date_types.specs.declared.pictures.Pictured.{Pictured}
use Rattle.date_types.specs.Pictures as spec
use Rattle.date_types.proofs.pictures.add_pictures.Goals as goal

pub returns : goal.returns
returns c =
    c.in_ok-add_ties.ensures
    ∙ ap (λ (before : Origin → Option Pictured). c.args.rules.now ++ spec.ties before c.items.result.now) c.new-longest.ensures
    ∙ ap (λ (items : List Pictured). c.args.rules.now ++ spec.ties spec.none items)
    (c.items.ensures ∙ c.in_ok-add_all_pictured.ensures ∙ ap (λ (items : List Pictured). items ++ spec.pictured c.args.programs.now c.args.layouts.now) c.new-pictured.ensures)
