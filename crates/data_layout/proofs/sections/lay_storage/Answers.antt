use Rattle.std.proofs.Common.{◌++◌, ◌∙◌, ap, sym, List, None, length}
use Rattle.data_layout.specs.declared.item.Item.{Item}
use Rattle.data_layout.specs.declared.item.CondItem.{CondItem}
use Rattle.data_layout.specs.declared.item.Area.{Area}
use Rattle.data_layout.specs.Tree.{parts_of}
use Rattle.data_layout.specs.Items as items
use Rattle.data_layout.specs.Sections.{tops, own_area}
use Rattle.data_layout.proofs.Laid.{named-conds, pushed, step-conds, count-laid}
use Rattle.data_layout.proofs.InSections.{named-storage, named-areas, step-storage, step-areas}
use Rattle.data_layout.proofs.sections.lay_storage.Goals as goal

pub loop-entry-preserved-then-entry-eq-NAMED : goal.loop-entry-preserved-then-entry-eq-NAMED
loop-entry-preserved-then-entry-eq-NAMED c =
    let b = c.in-Some.ensures.some in
    let e = c.in-Some.entry.now in
    let h = c.if-entry-eq-NAMED.true in
    let rest = c.loop-entry.rest.now in
    let inner = c.in-Some.inner.now in
    let n = length c.loop-entry.sheet.items in (
      ap (λ (l : List Item). c.loop-entry.sheet.items ++ l) (sym (named-storage c.loop-entry.owners n rest inner e b h)) ∙ c.loop-entry.invariant.0,
      pushed c.loop-entry.sheet.conds c.push.new.self (items.conds None n (tops inner)) _ _ c.in_ok-push.ensures.ok c.in_ok-cond_of.ensures
          ∙ ap (λ (l : List CondItem). c.loop-entry.sheet.conds ++ l) (sym (named-conds None n 0 rest inner e b h)) ∙ c.loop-entry.invariant.1,
      ap (λ (l : List Area). c.loop-entry.areas ++ l) (sym (named-areas c.loop-entry.owners rest inner e b h)) ∙ c.loop-entry.invariant.2,
    )

pub loop-entry-preserved : goal.loop-entry-preserved
loop-entry-preserved c =
    let b = c.in-Some.ensures.some in
    let e = c.in-Some.entry.now in
    let h = c.if-entry-eq-NAMED.false in
    let rest = c.loop-entry.rest.now in
    let inner = c.in-Some.inner.now in
    let after = c.in_ok-after.after.now in
    let owners = c.loop-entry.owners in
    let onward = c.in_ok-owners.owners in
    let goes = c.in_ok-after.ensures.rest in
    let xs = c.loop-entry.sheet.items in
    let zs = c.lay_item.new.sheet.items in
    let laid = c.in_ok-after.ensures.items in (
      step-storage owners onward c.own_area-around.result rest inner after e xs zs b h goes
          (c.own_area-around.ensures ∙ ap own_area c.area_for.ensures) c.in_ok-owners.ensures laid ∙ c.loop-entry.invariant.0,
      step-conds None (length xs) (length zs) 0 rest inner after e c.loop-entry.sheet.conds c.lay_item.new.sheet.conds b h goes
          (count-laid c.own_area-around.result _ 0 _ _ (parts_of e inner) e xs zs laid)
          c.in_ok-after.ensures.conds ∙ c.loop-entry.invariant.1,
      step-areas owners onward rest inner after e c.loop-entry.areas c.add_area.new.areas b h goes c.in_ok-owners.ensures c.in_ok-add_area.ensures ∙ c.loop-entry.invariant.2,
    )
