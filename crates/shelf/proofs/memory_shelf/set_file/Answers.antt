use Rattle.std.proofs.Common.{◌∙◌, ap, List, ℕ, string_bytes}
use Rattle.std.specs.FinMap.{insert}
use Rattle.shelf.specs.Memory.{held}
use Rattle.shelf.proofs.Held.{held-set}
use Rattle.shelf.proofs.memory_shelf.set_file.Goals as goal

pub returns-clause-ok : goal.returns-clause-ok
returns-clause-ok c =
    held-set (string_bytes c.in_ok-name.name) c.args.files.now c.insert.new.self c.args.bytes c.in_ok-insert.ensures.updates
    ∙ ap (λ (name : List ℕ). insert (held c.args.files.now) name c.args.bytes.items) c.in_ok-name.ensures.ok
