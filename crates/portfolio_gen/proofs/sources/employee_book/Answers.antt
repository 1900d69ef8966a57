use Rattle.portfolio_gen.proofs.SourceTexts.{same_parts}
use Rattle.portfolio_gen.proofs.sources.employee_book.Goals as goal

pub returns : goal.returns
returns c =
    same_parts _ _ _ _ _ _ _ c.in_ok-bytes_of.ensures c.in_ok-bytes_of-2.ensures c.in_ok-bytes_of-3.ensures
