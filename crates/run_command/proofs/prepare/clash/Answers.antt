use Rattle.std.proofs.Common.{rules, ◌≡◌, ℕ, List, MatchOption, subst, string_bytes}
use Rattle.name_tables.specs.Names.{IsLeast, NonePasses}
use Rattle.portfolio.specs.Faults.{all_files}
use Rattle.written_names.specs.Clashes.{is_clash, names_of_run, names_read}
use Rattle.run_command.proofs.prepare.clash.Goals as goal

pub returns : goal.returns
returns c =
    let same : c.items-2.result.now ≡ names_of_run c.args.out.now c.args.opened.now.manifest.files = search rules in
    subst (λ (w : List (List ℕ)). MatchOption c.in_ok-found.found
    (NonePasses (is_clash (names_read c.args.main.now (string_bytes c.args.opened.now.folder) (all_files c.args.opened.now.manifest)) w))
    (IsLeast (is_clash (names_read c.args.main.now (string_bytes c.args.opened.now.folder) (all_files c.args.opened.now.manifest)) w)))
    same c.in_ok-found.ensures
