use Rattle.std.specs.Prelude.{Ok, Err}
use Rattle.std.proofs.Common.{rules}
use Rattle.program_reader.specs.Whole.{IsAnswer}
use Rattle.program_reader.proofs.WholeLaws.{read-sound}
use Rattle.program_reader.proofs.WholeRefusals.{refusal-sound}
use Rattle.program_reader.proofs.read.read_program.Goals as goal

pub returns-in-Ok-answer-clause-read : goal.returns-in-Ok-answer-clause-read
returns-in-Ok-answer-clause-read c =
    let exact : IsAnswer c.args.expanded.now.words c.args.program c.args.file (Ok c.in-Ok-answer.program) = search rules in
    read-sound _ _ _ _ exact

pub returns-in-Err-answer-clause-refused : goal.returns-in-Err-answer-clause-refused
returns-in-Err-answer-clause-refused c =
    let exact : IsAnswer c.args.expanded.now.words c.args.program c.args.file (Err c.in-Err-answer.refused) = search rules in
    refusal-sound _ _ _ _ exact
