use Rattle.std.proofs.Common.{ℕ, List, ◌-◌, length, take, drop, ap, sym, ◌∙◌, arith}
use Rattle.std.specs.declared.cmp.Ordering.{Ordering}
use Rattle.std.specs.Ordering.{ordering_then}
use Rattle.std.proofs.lemmas.List.{take_rest}
use Rattle.byte_lists.specs.Text.{text_cmp}
use Rattle.exact_arithmetic.proofs.TextLaws.{text_cmp-cut}
use Rattle.exact_arithmetic.proofs.comparing.text_cmp.Goals as goal

pub returns-in-Equal : goal.returns-in-Equal
returns-in-Equal c =
    let left = c.args.left.now in
    let right = c.args.right.now in
    let n = c.min-common.result in
    c.rest_cmp.ensures
    ∙ ap (λ (xs : List ℕ). text_cmp xs (take (length right - n) (drop n right))) (take_rest left n)
    ∙ ap (text_cmp (drop n left)) (take_rest right n)
    ∙ sym (text_cmp-cut left right n (omega arith) (omega arith) ∙ ap (λ (o : Ordering). ordering_then o (text_cmp (drop n left) (drop n right))) (sym c.cmp.ensures ∙ c.in-Equal.is))

pub returns-in-Less : goal.returns-in-Less
returns-in-Less c =
    let left = c.args.left.now in
    let right = c.args.right.now in
    let n = c.min-common.result in
    sym (text_cmp-cut left right n (omega arith) (omega arith) ∙ ap (λ (o : Ordering). ordering_then o (text_cmp (drop n left) (drop n right))) (sym c.cmp.ensures ∙ c.in-Less.is))

pub returns-in-Greater : goal.returns-in-Greater
returns-in-Greater c =
    let left = c.args.left.now in
    let right = c.args.right.now in
    let n = c.min-common.result in
    sym (text_cmp-cut left right n (omega arith) (omega arith) ∙ ap (λ (o : Ordering). ordering_then o (text_cmp (drop n left) (drop n right))) (sym c.cmp.ensures ∙ c.in-Greater.is))
