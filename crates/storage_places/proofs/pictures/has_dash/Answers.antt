use Rattle.std.proofs.Common.{Bool, ◌||◌, sym, ap, ◌∙◌}
use Rattle.y2k_base.specs.declared.picture.Run.{Run}
use Rattle.program_meaning.specs.Kind.{has_dash}
use Rattle.number_bytes.specs.Stored.{symbols}
use Rattle.storage_places.proofs.PictureLaws.{dash_from, more}
use Rattle.storage_places.proofs.pictures.has_dash.Goals as goal

pub returns-then-is_dash : goal.returns-then-is_dash
returns-then-is_dash c =
    let blank : Run = record { symbol = 0; count = 0 } in
    let rest = c.loop-rest.rest.now in
    sym (c.loop-rest.invariant ∙ dash_from rest blank c.in-len1-up.len_at_least ∙ ap (λ (b : Bool). b || has_dash (symbols (more rest))) (sym c.is_dash.ensures ∙ c.if-is_dash.true))

pub loop-rest-preserved : goal.loop-rest-preserved
loop-rest-preserved c =
    let blank : Run = record { symbol = 0; count = 0 } in
    let rest = c.loop-rest.rest.now in
    c.loop-rest.invariant ∙ dash_from rest blank c.in-len1-up.len_at_least ∙ ap (λ (b : Bool). b || has_dash (symbols (more rest))) (sym c.is_dash.ensures ∙ c.if-is_dash.false)
