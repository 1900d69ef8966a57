use Rattle.std.proofs.Common.{[], ◌∷◌, ◌++◌, ◌+◌, length, ap, sym, ◌∙◌}
use Rattle.proc_reader.specs.Trees.{statement}
use Rattle.proc_reader.proofs.TreeLaws.{numbered_last, numbered_length}
use Rattle.proc_reader.proofs.tree.numbered.Goals as goal

pub loop-form-preserved : goal.loop-form-preserved
loop-form-preserved c =
    let p = c.args.program in
    let i = c.args.at in
    let j = c.args.end in
    let n = c.args.first in
    let same = c.in_ok-number.ensures ∙ ap (λ m. n + m) (c.len.ensures ∙ ap length c.loop-form.invariant ∙ numbered_length p i j n c.loop-form.yielded) in
    c.in_ok-push.ensures.ok
    ∙ ap (λ x. c.loop-form.statements ++ x ∷ []) (c.statement.ensures ∙ ap (λ m. statement p m i j c.in-Some.form) same)
    ∙ ap (λ xs. xs ++ statement p (n + length c.loop-form.yielded) i j c.in-Some.form ∷ []) c.loop-form.invariant
    ∙ sym (numbered_last p i j n c.loop-form.yielded c.in-Some.form)
