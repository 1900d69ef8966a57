use Rattle.std.proofs.Common.{◌≡◌, ◌+◌, ◌-◌, take, drop, ap, ◌∙◌, arith}
use Rattle.file_convert.specs.Cuts.{piece_of}
use Rattle.year_ageing.specs.Years.{fault_of}
use Rattle.year_ageing.proofs.record.fault_in.Goals as goal

pub returns : goal.returns
returns c =
    let e : c.args.start + c.args.width - c.args.start ≡ c.args.width = omega arith in
    c.cut_fault.ensures ∙ ap (λ n. fault_of c.args.task (piece_of c.args.cut.now) (take n (drop c.args.start c.args.bytes.now))) e
