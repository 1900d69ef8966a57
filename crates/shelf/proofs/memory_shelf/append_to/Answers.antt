use Rattle.std.proofs.Common.{◌≡◌, ◌∙◌, ap, sym, ℕ, List, ◌++◌, Some, None, String, Vec, rules}
use Rattle.std.specs.BTreeMap.{BTreeMap}
use Rattle.std.specs.Option.{option_map}
use Rattle.std.specs.FinMap.{get, insert}
use Rattle.std.specs.declared.alloc.Global.{Global}
use Rattle.shelf.specs.Memory.{held}
use Rattle.shelf.proofs.Held.{get-held, held-set, insert_same, bytes_of-here, bytes_of-missing}
use Rattle.shelf.proofs.memory_shelf.append_to.Goals as goal

pub returns-in-Ok-clause-ok : goal.returns-in-Ok-clause-ok
returns-in-Ok-clause-ok c =
    let files = c.args.files.now in
    let name = c.args.name.now in
    let was = c.in-Some.bytes.now in
    let here : get (held files) name ≡ Some was.items = get-held files name ∙ ap (option_map (λ (w : Vec ℕ Global). w.items)) (sym c.in-Some.ensures.value) in
    held-set name files (c.get_mut.follows.lender c.extend_from_slice.new.self) c.extend_from_slice.new.self ((c.get_mut.follows.holds c.extend_from_slice.new.self).3 (search rules))
    ∙ ap (insert (held files) name) (c.in-Ok.ensures.items ∙ ap (λ (xs : List ℕ). xs ++ c.args.piece.now) (sym (bytes_of-here (held files) name was.items here)))

pub returns-in-Err-clause-err : goal.returns-in-Err-clause-err
returns-in-Err-clause-err c =
    let files = c.args.files.now in
    let name = c.args.name.now in
    let was = c.in-Some.bytes.now in
    let here : get (held files) name ≡ Some was.items = get-held files name ∙ ap (option_map (λ (w : Vec ℕ Global). w.items)) (sym c.in-Some.ensures.value) in
    held-set name files (c.get_mut.follows.lender c.extend_from_slice.new.self) c.extend_from_slice.new.self ((c.get_mut.follows.holds c.extend_from_slice.new.self).3 (search rules))
    ∙ ap (insert (held files) name) c.in-Err.ensures.items
    ∙ insert_same (held files) name was.items here

pub returns-in-Ok-set_file-clause-ok : goal.returns-in-Ok-set_file-clause-ok
returns-in-Ok-set_file-clause-ok c =
    let files = c.args.files.now in
    let name = c.args.name.now in
    let missing : get (held files) name ≡ None = get-held files name ∙ ap (option_map (λ (w : Vec ℕ Global). w.items)) (sym c.in-None.ensures.value) in
    c.in-Ok-set_file.ensures.ok
    ∙ ap (λ (m : BTreeMap (String Global) (Vec ℕ Global)). insert (held m) name c.in_ok-bytes-in-None.bytes.items) c.get_mut.follows.holds-at-none
    ∙ ap (insert (held files) name) (c.in_ok-bytes-in-None.ensures.items ∙ ap (λ (xs : List ℕ). xs ++ c.args.piece.now) (sym (bytes_of-missing (held files) name missing)))
