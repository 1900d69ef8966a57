use Rattle.std.proofs.Common.{◌≡◌, length, arith}
use Rattle.std.proofs.lemmas.List.{nil_from_length}
use Rattle.copy_origins.proofs.Orders.{at-front}
use Rattle.copy_origins.proofs.Laws.{no-expansion, only-one}
use Rattle.copy_origins.proofs.Pieces.{done-all, done-more, fault-later, step-at, fault-at, step-shorter}
use Rattle.copy_origins.proofs.expansion.expand.Goals as goal

pub returns-in-Err-clause-err : goal.returns-in-Err-clause-err
returns-in-Err-clause-err c =
    fault-later _ _ _ _ _ c.loop-rest.invariant
    (fault-at _ _ _ _ _ (at-front c.loop-rest.rest.now c.word-item.result (omega arith) c.word-item.is) c.items-list.ensures c.in-Err.ensures.err)

pub loop-rest-smaller : goal.loop-rest-smaller
loop-rest-smaller c =
    step-shorter _ _ _ _ _
    (step-at _ _ _ _ _ _ _ (at-front c.loop-rest.rest.now c.word-item.result (omega arith) c.word-item.is) c.items-list.ensures c.in-Ok.ensures.ok)

pub loop-rest-preserved : goal.loop-rest-preserved
loop-rest-preserved c =
    done-more _ _ _ _ _ _ c.loop-rest.invariant
    (step-at _ _ _ _ _ _ _ (at-front c.loop-rest.rest.now c.word-item.result (omega arith) c.word-item.is) c.items-list.ensures c.in-Ok.ensures.ok)

pub returns-in-Err-clause-none : goal.returns-in-Err-clause-none
returns-in-Err-clause-none c =
    no-expansion _ _ _ (fault-later _ _ _ _ _ c.loop-rest.invariant
    (fault-at _ _ _ _ _ (at-front c.loop-rest.rest.now c.word-item.result (omega arith) c.word-item.is) c.items-list.ensures c.in-Err.ensures.err))

pub returns-clause-only : goal.returns-clause-only
returns-clause-only c =
    let none : length c.loop-rest.rest.now ≡ 0 = omega (arith, c.in_default.len_below) in
    only-one _ _ _ (done-all _ _ _ _ c.loop-rest.invariant (nil_from_length c.loop-rest.rest.now none))
