use Rattle.tree_words.proofs.Programs.{program-fits}
use Rattle.tree_words.proofs.read_programs_fit.Goals as goal

pub returns : goal.returns
returns c = program-fits
