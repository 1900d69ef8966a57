use Rattle.std.proofs.Common.{ap, sym, ◌∙◌, Result, Ordering}
use Rattle.exact_arithmetic.specs.declared.fault.ArithmeticFault.{ArithmeticFault}
use Rattle.exact_arithmetic.specs.Answers.{order_answer}
use Rattle.program_meaning.specs.Compare as meant
use Rattle.number_bytes.specs.Held.{read_scaled}
use Rattle.storage_tests.proofs.comparing.ordered.Goals as goal

pub returns-in-Err-clause-err : goal.returns-in-Err-clause-err
returns-in-Err-clause-err c =
    c.run_fault.ensures (meant.number_cmp (read_scaled c.args.left) (read_scaled c.args.right))
    (sym c.number_cmp.ensures ∙ ap (λ (r : Result Ordering ArithmeticFault). order_answer r) c.in-Err.is)
