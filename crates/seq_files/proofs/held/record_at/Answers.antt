use Rattle.std.proofs.Common.{◌≡◌, ℕ, ◌+◌, ◌-◌, ◌∷◌, take, drop, ap, ◌∙◌, arith, length-drop}
use Rattle.byte_lists.specs.Records.{records_of}
use Rattle.byte_lists.proofs.RecordLaws.{records_of-end}
use Rattle.seq_files.proofs.HeldLaws.{record-next}
use Rattle.seq_files.proofs.held.record_at.Goals as goal

same-size : (m n : ℕ) → n ≡ m + n - m
same-size m n = omega arith

pub returns-then-saturating_sub-size-clause-end : goal.returns-then-saturating_sub-size-clause-end
returns-then-saturating_sub-size-clause-end c =
    records_of-end c.args.size (drop c.args.next c.args.bytes.now) (omega (arith, c.if-saturating_sub-size.true, c.saturating_sub.ensures, length-drop c.args.next c.args.bytes.now))

pub returns-clause-found : goal.returns-clause-found
returns-clause-found c =
    record-next c.args.size c.args.next c.args.bytes.now c.requires.positive (omega (arith, c.if-saturating_sub-size.false, c.saturating_sub.ensures))
    ∙ ap (λ n. take n (drop c.args.next c.args.bytes.now) ∷ records_of c.args.size (drop (c.args.next + c.args.size) c.args.bytes.now)) (same-size c.args.next c.args.size)
