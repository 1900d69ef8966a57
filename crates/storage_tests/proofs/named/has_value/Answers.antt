use Rattle.std.proofs.Common.{◌≡◌, Err, rules}
use Rattle.layout_reading.specs.Reading.{read_layout}
use Rattle.program_meaning.specs.Compare.{is_value}
use Rattle.program_meaning.specs.Layout.{Layout}
use Rattle.place_table.specs.Tables.{layout_of}
use Rattle.storage_places.specs.Held.{held}
use Rattle.tree_reading.specs.Reading.{read_operand, operand_if}
use Rattle.storage_tests.specs.Seen.{seen}
use Rattle.storage_tests.proofs.CompareLaws.{first-value-fails}
use Rattle.storage_tests.proofs.Faults.{same-fault, failed-before, exits}
use Rattle.storage_tests.proofs.named.has_value.Goals as goal

pub returns-in_err-is_value-clause-err : goal.returns-in_err-is_value-clause-err
returns-in_err-is_value-clause-err c =
    let e : c.from_residual.result ≡ Err c.in_err-is_value.field-0.0 = search rules in
    exits _ _ _ e (λ program.
    same-fault _ _ _ (c.loop-rest.invariant.values program)
    (first-value-fails (read_layout program (layout_of c.args.places.now)) (held c.args.storage.now) (seen c.args.storage.now c.args.view) c.loop-rest.rest.now c.range-item.result _
    c.in-len1-up.len_at_least c.range-item.is
    (failed-before (λ (l : Layout). is_value l (held c.args.storage.now) (seen c.args.storage.now c.args.view) (read_operand c.range-item.result.low) (operand_if c.range-item.result.high)) _ _ _
    c.loop-rest.invariant.grown.layout c.in_err-is_value.ensures.err program)))
