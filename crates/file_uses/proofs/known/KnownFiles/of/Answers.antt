use Rattle.std.proofs.Common.{ℕ, List, Option, Bor, unwrap_or, ap, sym, ◌∙◌}
use Rattle.std.specs.Option.{option_map}
use Rattle.portfolio.specs.declared.manifest.Named.{Named}
use Rattle.file_uses.specs.Names.{list_of, name_of}
use Rattle.file_uses.proofs.known.KnownFiles.of.Goals as goal

pub returns-in-None-clause-names : goal.returns-in-None-clause-names
returns-in-None-clause-names c =
    ap {B = List ℕ → List ℕ} (λ (f : List ℕ → Option (Bor (List ℕ))) (external : List ℕ). unwrap_or (option_map (λ (name : Bor (List ℕ)). name.now) (f external)) external) c.new.ensures
    ∙ ap (λ (files : Option (Bor (List Named))). name_of (list_of files)) (sym c.in-None.is)
