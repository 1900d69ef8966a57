use Rattle.std.proofs.Common.{List, ◌++◌, ap, sym, ◌∙◌}
use Rattle.std.proofs.lemmas.List.{append-nil}
use Rattle.file_uses.specs.declared.record.FileRecord.{FileRecord}
use Rattle.file_uses.proofs.record.records_of.Goals as goal

pub returns : goal.returns
returns c =
    sym (append-nil c.loop-program.records)
    ∙ ap (λ (xs : List FileRecord). c.loop-program.records ++ xs) (sym (c.in_default.ensures.none c.loop-program.number))
    ∙ c.loop-program.invariant
