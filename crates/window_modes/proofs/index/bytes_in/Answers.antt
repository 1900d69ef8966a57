use Rattle.std.proofs.Common.{◌≡◌, ◌+◌, ℕ, arith, ap, ◌∙◌}
use Rattle.window_modes.specs.Work.{bytes_between}
use Rattle.window_modes.proofs.Ranges.{in_span}
use Rattle.window_modes.proofs.index.bytes_in.Goals as goal

pub returns-in_ok-found-in-Some : goal.returns-in_ok-found-in-Some
returns-in_ok-found-in-Some c =
    let span = c.args.span in
    let end : c.in-Some.end ≡ span.offset + span.length = omega (arith, c.in-Some.ensures) in
    in_span c.args.bytes.now.keys c.in_ok-found-in-Some.found.items span (c.in_ok-found-in-Some.ensures ∙ ap (λ (n : ℕ). bytes_between span.area span.offset n c.args.bytes.now.keys) end)
