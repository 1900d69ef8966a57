use Rattle.std.proofs.Common.{length, replicate, sym, ◌∙◌}
use Rattle.std.proofs.lemmas.List.{length-replicate}
use Rattle.exact_arithmetic.proofs.TextLaws.{text_cmp-same}
use Rattle.exact_arithmetic.proofs.comparing.cmp_repeated.Goals as goal

pub returns : goal.returns
returns c =
    c.cmp_run.ensures ∙ sym (text_cmp-same c.args.left.now (replicate (length c.args.left.now) c.args.byte) (sym (length-replicate (length c.args.left.now) c.args.byte)))
