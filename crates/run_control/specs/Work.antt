-- How much is left to pass before a task is at hand.
use Rattle.std.specs.Prelude.{ℕ, ◌+◌, ◌*◌, List, [], ◌∷◌, length, Option, Some, None}
use Rattle.std.specs.List.{fold}
use Rattle.cobol_syntax.specs.declared.program.Paragraph.{Paragraph}
use Rattle.run_control.specs.declared.task.Frame.{Frame}
use Rattle.run_control.specs.declared.task.Entry.{Entry}
use Rattle.run_control.specs.declared.task.Entry.TheVariants as e
use Rattle.run_control.specs.declared.position.Position.{Position}

abbrev pub paragraphs_work : List Paragraph → ℕ
paragraphs_work [] = 0
paragraphs_work (p ∷ ps) = 1 + (2 * length p.sentences + paragraphs_work ps)

abbrev pub frame_work : Option Frame → ℕ
frame_work None = 0
frame_work (Some f) = 1 + (2 * length f.sentences.now + paragraphs_work f.paragraphs.now)

abbrev pub entry_work : Entry → ℕ
entry_work (e.Rest list) = 1
entry_work (e.Next task) = 1
entry_work (e.Return f) = frame_work (Some f)

abbrev pub entries_work : List Entry → ℕ
entries_work = fold (λ n e. n + entry_work e) 0

abbrev pub work : Position → ℕ
work p = entries_work p.entries.items + (2 * length p.sentences.now + paragraphs_work p.paragraphs.now)
