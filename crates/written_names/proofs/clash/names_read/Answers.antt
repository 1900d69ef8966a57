use Rattle.std.proofs.Common.{◌++◌, ℕ, List, map, ap, ◌∙◌}
use Rattle.std.specs.Option.{option_to_list}
use Rattle.name_tables.specs.Names.{Known, named, with_name}
use Rattle.portfolio.specs.Faults.{file_of}
use Rattle.portfolio.specs.declared.manifest.Named.{Named}
use Rattle.written_names.specs.Clashes.{with_all}
use Rattle.written_names.proofs.ClashLaws.{all_read}
use Rattle.written_names.proofs.clash.names_read.Goals as goal

pub returns : goal.returns
returns c =
    let f : List ℕ → List ℕ = λ (name : List ℕ). c.args.folder.now ++ name in
    let manifest = c.args.manifest.now in
    all_read f _ _ _ _ _ _ manifest.programs (map file_of manifest.copybooks) (option_to_list manifest.seeds) (map file_of manifest.files)
    (c.in_ok-add.ensures ∙ ap (λ (k : Known). with_name k c.args.main.now) c.new-names.ensures)
    (c.in_ok-add_names.ensures ∙ ap (λ (xs : List (List ℕ)). with_all (named c.add.new.self) (map f xs)) c.items.ensures)
    (c.in_ok-add_files.ensures ∙ ap (λ (xs : List Named). with_all (named c.add_names.new.names) (map f (map file_of xs))) c.items-2.ensures)
    c.in_ok-add_seeds.ensures
    (c.in_ok-add_files-2.ensures ∙ ap (λ (xs : List Named). with_all (named c.add_seeds.new.names) (map f (map file_of xs))) c.items-3.ensures)
