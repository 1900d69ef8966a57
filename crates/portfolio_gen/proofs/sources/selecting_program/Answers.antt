use Rattle.portfolio_gen.proofs.SourceTexts.{same_parts}
use Rattle.portfolio_gen.proofs.sources.selecting_program.Goals as goal

pub returns : goal.returns
returns c = same_parts _ _ _ _ _ _ _ c.in_ok-bytes_of.ensures c.new.ensures c.in_ok-bytes_of-2.ensures
