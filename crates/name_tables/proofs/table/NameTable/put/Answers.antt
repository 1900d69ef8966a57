use Rattle.std.proofs.Common.{ℕ, List, Some}
use Rattle.std.proofs.Math.Path.{fun_ext}
use Rattle.std.proofs.lemmas.Map.Text.{btree_map_updates_str}
use Rattle.name_tables.proofs.table.NameTable.put.Goals as goal

pub returns : goal.returns
returns V c = fun_ext (λ (other : List ℕ).
    btree_map_updates_str c.args.name.now c.args.self.now.index c.insert.new.self (Some c.args.value) c.in_ok-insert.ensures.updates other)
