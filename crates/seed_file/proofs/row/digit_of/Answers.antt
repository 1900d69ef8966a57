use Rattle.seed_file.proofs.Shape.{no_digit}
use Rattle.seed_file.proofs.row.digit_of.Goals as goal

pub returns-in-Err : goal.returns-in-Err
returns-in-Err c = no_digit c.args.text.now c.in-Err.ensures.cases.0
