-- The layouts of members are ready to be asked.
use Rattle.std.proofs.Common.{List, [], ◌∷◌}
use Rattle.std.specs.List.{AllByRecursion}
use Rattle.cobol_syntax.specs.declared.program.Program.{Program}
use Rattle.copy_origins.specs.declared.books.Book.{Book}
use Rattle.data_layout.specs.Index.{IsReady}
use Rattle.data_layout.specs.declared.item.Layout.{Layout}
use Rattle.program_texts.specs.Programs.{Before, after, AreMembers}
use Rattle.program_texts.specs.declared.line.Source.{Source}

pub ready_members : (books : List Book) (before : Before) (ss : List Source) (ps : List Program) (ls : List Layout) → AreMembers books before ss ps ls → AllByRecursion IsReady ls
ready_members books before [] [] [] m = tt
ready_members books before [] [] (l ∷ ls) m = absurd m
ready_members books before [] (p ∷ ps) ls m = absurd m
ready_members books before (s ∷ ss) [] ls m = absurd m
ready_members books before (s ∷ ss) (p ∷ ps) [] m = absurd m
ready_members books before (s ∷ ss) (p ∷ ps) (l ∷ ls) (member, rest) =
    (member.laid.2, ready_members books (after before p l) ss ps ls rest)
