use Rattle.std.proofs.Common.{◌≡◌, ◌∷◌, [], ◌++◌, List, sym, ap, ◌∙◌, subst}
use Rattle.std.specs.Prelude.{All}
use Rattle.std.proofs.lemmas.List.{map-append}
use Rattle.std.proofs.lemmas.List.Elements.{All-push}
use Rattle.file_convert.specs.declared.cut.Cuts.{Cuts}
use Rattle.plan_images.specs.declared.table.Table.{Table}
use Rattle.plan_images.specs.Edges.{IsSound, cuts_of}
use Rattle.plan_images.proofs.build.tables_of.Goals as goal

pub loop-cuts-preserved : goal.loop-cuts-preserved
loop-cuts-preserved c =
    let old = c.loop-cuts.tables.items in
    let table = c.in_ok-table.table in
    let more : c.push.new.self.items ≡ old ++ table ∷ [] = c.in_ok-push.ensures.items in (
      ap cuts_of more ∙ map-append (λ (t : Table). t.cuts) old (table ∷ []) ∙ ap (λ (cs : List Cuts). cs ++ table.cuts ∷ []) c.loop-cuts.invariant.0
          ∙ ap (λ (x : Cuts). c.loop-cuts.yielded ++ x ∷ []) c.in_ok-table.ensures.cuts,
      subst (λ (ts : List Table). All IsSound ts) (sym more) (All-push IsSound old table c.loop-cuts.invariant.1 c.in_ok-table.ensures.sound),
    )
