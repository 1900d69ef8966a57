use Rattle.std.proofs.Common.{sym, ◌∙◌}
use Rattle.file_uses.proofs.InTable.{length_found, length_missing}
use Rattle.file_uses.proofs.table.FileTable.length_of.Goals as goal

pub returns-in-Some : goal.returns-in-Some
returns-in-Some c =
    c.length_at.ensures ∙ sym (length_found c.args.self.now.files.items c.args.external.now c.in-Some.index (sym c.index_of.ensures.index ∙ c.in-Some.is))

pub returns-in-None : goal.returns-in-None
returns-in-None c = sym (length_missing c.args.self.now.files.items c.args.external.now (sym c.index_of.ensures.index ∙ c.in-None.is))
