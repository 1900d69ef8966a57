use Rattle.std.proofs.Common.{List, sym, subst}
use Rattle.std.specs.List.{AllByRecursion}
use Rattle.data_layout.specs.Index.{IsReady}
use Rattle.data_layout.specs.declared.portfolio.Portfolio.{Portfolio}
use Rattle.file_uses.specs.Names.{list_of}
use Rattle.program_texts.specs.Programs.{nothing, AreMembers}
use Rattle.program_texts.specs.declared.line.Source.{Source}
use Rattle.gathered.specs.Sound.{IsSound}
use Rattle.gathered.proofs.Ready.{ready_members}
use Rattle.gathered.proofs.Sound.{sound}
use Rattle.gathered.proofs.gathering.portfolio_of.Goals as goal

pub returns-in-Ok-used_files-clause-sound : goal.returns-in-Ok-used_files-clause-sound
returns-in-Ok-used_files-clause-sound c =
    subst IsSound (sym c.portfolio_with.ensures)
    (sound c.args.words.now (list_of c.args.files) (record { programs = c.in-Ok.members.programs; layouts = c.in-Ok.members.layouts; files = c.in-Ok-used_files.used })
    (record {
      members = subst (λ (ss : List Source). AreMembers c.args.words.now.books.list nothing ss c.in-Ok.members.programs c.in-Ok.members.layouts) c.items.ensures c.in-Ok.ensures.members;
      files_used = c.in-Ok-used_files.ensures.files;
    }))

pub returns-in-Ok-used_files-clause-ready : goal.returns-in-Ok-used_files-clause-ready
returns-in-Ok-used_files-clause-ready c =
    subst (λ (p : Portfolio). AllByRecursion IsReady p.layouts) (sym c.portfolio_with.ensures)
    (ready_members _ _ _ _ _ c.in-Ok.ensures.members)
