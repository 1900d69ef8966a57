use Rattle.std.proofs.Common.{◌≡◌, ◌-◌, length}
use Rattle.cond_reader.specs.Exprs.{operand_at}
use Rattle.cond_reader.specs.Reads.{chain, with_last}
use Rattle.proc_reader.specs.Moves.{more_operands}
use Rattle.proc_reader.specs.View.{source_of}
use Rattle.proc_reader.proofs.sentence.Sentences.more_operands.Given as goal

abbrev pub invariant-loop-turn : goal.invariant-loop-turn
invariant-loop-turn l =
    more_operands (source_of l.self) l.level l.fn.operands l.fn.at ≡ chain (λ _. operand_at (source_of l.self).text l.level) with_last (length l.self.parts.kinds.now - l._turn) l.operands l.at
