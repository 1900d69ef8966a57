use Rattle.std.proofs.Common.{◌∙◌, ap, Option, Some, if◌then◌else◌}
use Rattle.std.proofs.Math.Path.{fun_ext}
use Rattle.y2k_base.specs.declared.word.Origin.{Origin}
use Rattle.date_types.specs.declared.pictures.Pictured.{Pictured}
use Rattle.date_types.specs.Pictures as spec
use Rattle.date_types.proofs.pictures.Longest.keep.Goals as goal

pub returns : goal.returns
returns c = fun_ext (λ (other : Origin).
    c.in_ok-put.ensures other
    ∙ ap (λ (kept : Pictured). if spec.are_one c.args.one.origin other then Some kept else spec.held c.args.self.now other)
    (c.longer-kept.ensures ∙ ap (λ (before : Option Pictured). spec.longer before c.args.one) c.of.ensures))
