use Rattle.std.proofs.Common.{arith, get_or}
use Rattle.std.proofs.lemmas.Bool.{false≢true}
use Rattle.std.proofs.lemmas.List.Elements.{Contains-get_or}
use Rattle.conflict_chain.proofs.chain.are_earlier.Goals as goal

pub returns-then-from-i : goal.returns-then-from-i
returns-then-from-i c =
    let from = c.args.from.now in (
      λ e. absurd (false≢true e),
      λ all. absurd (omega (arith, all (get_or from c.loop-i.i 0) (Contains-get_or from c.loop-i.i 0 (omega arith)), c.if-from-i.true)),
    )
