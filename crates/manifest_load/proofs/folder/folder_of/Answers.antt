use Rattle.std.proofs.Common.{◌∙◌}
use Rattle.manifest_load.proofs.FolderLaws.{shorter, whole}
use Rattle.manifest_load.proofs.folder.folder_of.Goals as goal

pub returns-then-last-eq47 : goal.returns-then-last-eq47
returns-then-last-eq47 c = whole c.loop-folder.folder.now c.in-len1-up.len_at_least c.if-last-eq47.true ∙ c.loop-folder.invariant

pub loop-folder-preserved : goal.loop-folder-preserved
loop-folder-preserved c = shorter c.loop-folder.folder.now c.in-len1-up.len_at_least c.if-last-eq47.false ∙ c.loop-folder.invariant
