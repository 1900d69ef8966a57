use Rattle.std.proofs.Common.{◌≡◌, ◌∷◌, [], ◌++◌, List, ℕ, ◌+◌, take, sym, ap, ◌∙◌}
use Rattle.std.proofs.lemmas.List.{take_more, flat_map_more}
use Rattle.std.proofs.lemmas.Option.{get_or_from_slice_get, slice_get_within}
use Rattle.year_labels.specs.declared.label.Fact.{Fact}
use Rattle.label_command.specs.Lines.{line_of, lines_of}
use Rattle.label_command.proofs.print.label_lines.Goals as goal

pub loop-i-preserved : goal.loop-i-preserved
loop-i-preserved c =
    let areas = c.args.areas.now in
    let facts = c.args.labelling.now in
    let fact = c.in-Some.fact in
    let i = c.loop-i.i in
    let more : take (i + 1) facts ≡ take i facts ++ fact ∷ [] =
    take_more facts i fact (slice_get_within facts i fact (sym c.in-Some.ensures.value)) ∙ ap (λ (f : Fact). take i facts ++ f ∷ []) (get_or_from_slice_get facts i fact fact (sym c.in-Some.ensures.value)) in
    c.in_ok-push_line-in-Some.ensures
    ∙ ap (λ (bytes : List ℕ). bytes ++ line_of areas fact) c.loop-i.invariant
    ∙ flat_map_more (line_of areas) [] (take i facts) fact
    ∙ sym (ap (lines_of areas) more)
