use Rattle.std.proofs.Common.{◌≡◌, ◌++◌, length, map}
use Rattle.gathered.specs.Shelved.{book_of}
use Rattle.gathered.proofs.shelved.add_books.Given as goal

abbrev pub invariant-loop-rest : goal.invariant-loop-rest
invariant-loop-rest l = l.listed ++ map book_of l.rest ≡ l.fn.listed ++ map book_of l.books

abbrev pub decreases-loop-rest : goal.decreases-loop-rest
decreases-loop-rest l = length l.rest
