use Rattle.std.proofs.Common.{ℕ, List, [], ◌∷◌, ◌++◌, codes, ap, ◌∙◌}
use Rattle.written_names.specs.Clashes.{under}
use Rattle.written_names.proofs.ConversionLaws.{four}
use Rattle.written_names.proofs.conversion.add_own.Goals as goal

pub returns : goal.returns
returns c =
    let out = c.args.out.now in
    let add : List ℕ → List (List ℕ) → List (List ℕ) = λ (name : List ℕ) (names : List (List ℕ)). names ++ under out name ∷ [] in
    c.in_ok-add_name-4.ensures
    ∙ ap (add (codes "done")) (c.in_ok-add_name-3.ensures
    ∙ ap (add (codes "plan.csv")) (c.in_ok-add_name-2.ensures
    ∙ ap (add (codes "labels.csv")) c.in_ok-add_name.ensures))
    ∙ four c.args.names.now (under out c.args.manifest.now) (under out (codes "labels.csv")) (under out (codes "plan.csv")) (under out (codes "done"))
