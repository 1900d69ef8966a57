use Rattle.std.proofs.Common.{◌≡◌, ◌-◌, length}
use Rattle.proc_reader.specs.Arithmetic.{more_summands}
use Rattle.cond_reader.specs.Exprs.{operand_at}
use Rattle.proc_reader.specs.Trees.{joined}
use Rattle.proc_reader.specs.declared.tree.Joining.TheVariants as by
use Rattle.cond_reader.specs.Reads.{chain}
use Rattle.proc_reader.specs.View.{source_of}
use Rattle.proc_reader.proofs.sentence.Sentences.more_summands.Given as goal

abbrev pub invariant-loop-turn : goal.invariant-loop-turn
invariant-loop-turn l =
    more_summands (source_of l.self) l.level l.fn.sum l.fn.at ≡ chain (λ _. operand_at (source_of l.self).text l.level) (joined by.Add) (length l.self.parts.kinds.now - l._turn) l.sum l.at
