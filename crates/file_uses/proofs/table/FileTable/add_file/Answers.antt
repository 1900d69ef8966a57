use Rattle.std.proofs.Common.{List, ◌++◌, ℕ, map, ap, sym, ◌∙◌}
use Rattle.file_uses.specs.Table.{file_name}
use Rattle.file_uses.proofs.InTable.{keys_more}
use Rattle.file_uses.proofs.table.FileTable.add_file.Goals as goal

pub returns-clause-table : goal.returns-clause-table
returns-clause-table c =
    ap (map (λ k. k.items)) c.in_ok-insert.ensures.keys
    ∙ keys_more (λ k. k.items) c.args.self.now.names.keys c.extend_from_slice.new.self c.args.self.now.files.items c.args.file c.requires.table
    (c.in_ok-extend_from_slice.ensures.items ∙ ap (λ (xs : List ℕ). xs ++ c.items.result.now) c.new-name.ensures.items ∙ c.items.ensures)
    c.requires.absent
    ∙ ap (map file_name) (sym c.in_ok-push.ensures.items)
