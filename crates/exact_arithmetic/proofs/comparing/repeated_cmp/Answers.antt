use Rattle.std.proofs.Common.{length, replicate, sym, ◌∙◌}
use Rattle.std.proofs.lemmas.List.{length-replicate}
use Rattle.exact_arithmetic.proofs.TextLaws.{text_cmp-same}
use Rattle.exact_arithmetic.proofs.comparing.repeated_cmp.Goals as goal

pub returns : goal.returns
returns c =
    c.run_cmp.ensures ∙ sym (text_cmp-same (replicate (length c.args.right.now) c.args.byte) c.args.right.now (length-replicate (length c.args.right.now) c.args.byte))
