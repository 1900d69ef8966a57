use Rattle.std.proofs.Common.{◌≡◌, ℕ, List, MatchOption, string_bytes, ap, ◌∙◌, subst}
use Rattle.name_tables.specs.Names.{Known, named, no_names, IsLeast, NonePasses}
use Rattle.portfolio.specs.Faults.{all_files}
use Rattle.written_names.specs.Clashes.{found_in, is_clash, names_read, with_all}
use Rattle.written_names.proofs.ClashLaws.{found_clashes}
use Rattle.written_names.proofs.clash.out_clash.Goals as goal

pub returns : goal.returns
returns c =
    let all : List (List ℕ) = all_files c.args.opened.now.manifest in
    let read : List (List ℕ) = names_read c.args.main.now (string_bytes c.args.opened.now.folder) all in
    let known : named c.in_ok-read.read ≡ with_all no_names read =
    c.in_ok-read.ensures
    ∙ ap (λ (main : List ℕ). with_all no_names (names_read main c.as_bytes-folder.result.now all)) c.as_bytes.ensures.value
    ∙ ap (λ (folder : List ℕ). with_all no_names (names_read c.args.main.now folder all)) c.as_bytes-folder.ensures.value in
    let clashes : named c.in_ok-clashes.clashes ≡ is_clash read c.args.written.now =
    c.in_ok-clashes.ensures ∙ ap (λ (k : Known). found_in k no_names c.args.written.now) known ∙ found_clashes read c.args.written.now in
    subst (λ (k : Known). MatchOption c.in_ok-found.found (NonePasses k) (IsLeast k)) clashes c.in_ok-found.ensures
