use Rattle.std.proofs.Common.{List, subst}
use Rattle.cobol_syntax.specs.declared.program.Program.{Program}
use Rattle.data_layout.specs.declared.item.Layout.{Layout}
use Rattle.file_uses.specs.Names.{list_of}
use Rattle.gathered.specs.Portfolios.{AreFiles}
use Rattle.gathered.proofs.gathering.used_files.Goals as goal

pub returns-in-Ok-clause-files : goal.returns-in-Ok-clause-files
returns-in-Ok-clause-files c =
    subst (λ (ps : List Program). AreFiles (list_of c.args.files) ps c.args.members.now.layouts c.in-Ok.used) c.items.ensures
    (subst (λ (ls : List Layout). AreFiles (list_of c.args.files) c.items.result.now ls c.in-Ok.used) c.items-2.ensures
    (record { is = c.in-Ok.ensures.files; known = c.in-Ok.ensures.known; lengths = c.in-Ok.ensures.lengths }))
