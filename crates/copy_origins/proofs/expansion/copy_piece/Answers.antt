use Rattle.copy_origins.proofs.Signs.{none-case, some-case}
use Rattle.copy_origins.proofs.Pieces.{shape-fault, unusable-fault, step-copied}
use Rattle.copy_origins.proofs.expansion.copy_piece.Goals as goal

pub returns-in-None-clause-err : goal.returns-in-None-clause-err
returns-in-None-clause-err c = shape-fault _ _ _ c.requires.copy (none-case _ _ c.in-None.is c.in-Ok.ensures)

pub returns-in-Err-usable-clause-err : goal.returns-in-Err-usable-clause-err
returns-in-Err-usable-clause-err c =
    unusable-fault _ _ _ c.in-Some.order _ _ _ (some-case _ _ _ c.in-Some.is c.in-Ok.ensures) c.items.ensures c.in-Err-usable.ensures.err

pub returns-clause-ok : goal.returns-clause-ok
returns-clause-ok c =
    step-copied _ _ c.in-Some.order c.in-Ok-usable.book.now _ _ _ _ _ _ (some-case _ _ _ c.in-Some.is c.in-Ok.ensures) c.items.ensures c.in-Ok-usable.ensures.ok
    c.items-in-Ok-usable.ensures c.items-in-Ok-usable-2.ensures c.in-Ok-replace.ensures
