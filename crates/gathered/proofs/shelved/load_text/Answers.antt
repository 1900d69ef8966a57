use Rattle.std.proofs.Common.{rules, ◌≡◌, ◌++◌, ℕ, List, sym, ◌∙◌, subst}
use Rattle.text_load.specs.Texts.{HasLoadFault}
use Rattle.gathered.specs.Shelved.{IsUnloadedAs}
use Rattle.gathered.proofs.shelved.load_text.Goals as goal

pub returns-in-Ok-clause-fault : goal.returns-in-Ok-clause-fault
returns-in-Ok-clause-fault g c =
    let told = g.S.Shelf.told c.args.shelf.now in
    let own : c.items-in-Err-load.result.now ≡ c.args.listed.now.name = search rules in
    let loaded : c.as_str.result.now ≡ c.args.folder.now ++ c.args.listed.now.name = search rules in
    let name : c.as_str-in-Err-load.result.now ≡ c.args.folder.now ++ c.args.listed.now.name = search rules in
    let cause = subst (λ (n : List ℕ). HasLoadFault n c.args.used told c.in-Err-load.fault) (loaded ∙ sym name) c.in-Err-load.ensures.cause in
    subst (λ (n : List ℕ). IsUnloadedAs n c.args.used told c.args.listed.now.name c.fault_of.result) name
    (subst (λ (n : List ℕ). IsUnloadedAs c.as_str-in-Err-load.result.now c.args.used told n c.fault_of.result) own
    (c.fault_of.ensures.cause c.args.used told cause))
