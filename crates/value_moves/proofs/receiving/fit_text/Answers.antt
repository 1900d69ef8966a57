use Rattle.std.proofs.Common.{◌≡◌, ℕ, ◌-◌, ◌++◌, length, take, replicate, ap, ◌∙◌, rules}
use Rattle.std.specs.Vec.{vec_len}
use Rattle.byte_lists.specs.Text.{copied}
use Rattle.value_moves.proofs.CopyLaws.{fitted}
use Rattle.value_moves.proofs.receiving.fit_text.Goals as goal

pub returns : goal.returns
returns c =
    let bytes = c.into_vec-bytes.result in
    let long : vec_len bytes ≡ length bytes.items = search rules in
    c.from_vec.ensures ∙ c.in_ok-resize.ensures.items ∙ ap (λ (n : ℕ). take c.args.length bytes.items ++ replicate (c.args.length - n) 32) long ∙ fitted c.args.length bytes.items
    ∙ ap (copied c.args.length) c.into_vec-bytes.ensures
