use Rattle.std.proofs.Common.{◌≡◌, length}
use Rattle.copy_origins.specs.Expansion.{book_with}
use Rattle.copy_origins.proofs.books.first_book.Given as goal

abbrev pub invariant-loop-rest : goal.invariant-loop-rest
invariant-loop-rest l = book_with l.key l.rest ≡ book_with l.key l.books

abbrev pub decreases-loop-rest : goal.decreases-loop-rest
decreases-loop-rest l = length l.rest
