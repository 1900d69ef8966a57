use Rattle.std.proofs.Common.{◌∙◌, ap, ℕ, List}
use Rattle.data_layout.specs.declared.found.Found.{Found}
use Rattle.data_layout.proofs.InIndex.{meant}
use Rattle.data_layout.proofs.item.Layout.find_name.Goals as goal

pub returns : goal.returns
returns c =
    c.among-found.ensures
    ∙ meant c.args.self.now c.args.name.now c.args.qualifiers.now c.of_name-things.result.now (c.of_name-things.ensures ∙ ap (λ (f : List ℕ → List Found). f c.args.name.now) c.requires.names)
