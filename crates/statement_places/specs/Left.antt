-- What is left to look at: lists of statements, the next one last.
use Rattle.std.specs.Prelude.{ℕ, ◌+◌, ◌*◌, List, [], ◌++◌, length}
use Rattle.std.specs.List.{fold}
use denote.Ref.{Bor}
use Rattle.cobol_syntax.specs.declared.statement.Statement.{Statement}
use Rattle.statement_places.specs.declared.left.Left.{Left}
use Rattle.statement_places.specs.Statements.{Numbered, of_statements}

abbrev pub all_of : List (Bor (List Statement)) → List Numbered
all_of = fold (λ found list. of_statements list.now ++ found) []

abbrev pub left : Left → List Numbered
left l = all_of l.lists.items

-- how much that is: a statement counts more than the three lists that can come of it
abbrev pub work_of : List (Bor (List Statement)) → ℕ
work_of = fold (λ n list. n + (1 + 3 * length (of_statements list.now))) 0

abbrev pub work : Left → ℕ
work l = work_of l.lists.items
