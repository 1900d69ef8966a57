use Rattle.std.proofs.Common.{◌∙◌}
use Rattle.file_uses.proofs.InTable.{found_index}
use Rattle.file_uses.proofs.table.FileTable.index_of.Goals as goal

pub returns-clause-index : goal.returns-clause-index
returns-clause-index c =
    c.get_index_of.ensures.index ∙ found_index (λ k. k.items) c.args.self.now.names.keys c.args.self.now.files.items c.args.external.now c.requires
