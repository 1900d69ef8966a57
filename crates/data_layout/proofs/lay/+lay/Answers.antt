use Rattle.std.proofs.Common.{ℕ, ◌+◌, ◌++◌, ◌∙◌, ap, sym, List, arith, length}
use Rattle.data_layout.specs.declared.item.Item.{Item}
use Rattle.data_layout.specs.declared.item.CondItem.{CondItem}
use Rattle.data_layout.specs.Tree.{within, forest, parts_of}
use Rattle.data_layout.specs.Items as spec
use Rattle.data_layout.proofs.Laid.{beyond-after-named, beyond-after, named-items, named-conds, pushed, step-items, step-conds, count-laid}
use Rattle.data_layout.proofs.lay.+lay.Goals as goal

pub lay_parts-loop-entry-preserved-then-entry-eq-NAMED :
    goal.lay_parts-loop-entry-preserved-then-entry-eq-NAMED
lay_parts-loop-entry-preserved-then-entry-eq-NAMED t c =
    let b = c.in-Some.ensures.some in
    let e = c.in-Some.entry.now in
    let h = c.if-entry-eq-NAMED.true in
    let around = c.args.around.now in
    let r = c.args.around_rank in
    let rest = c.loop-entry.rest.now in
    let inner = c.in-Some.inner.now in
    let n = length c.loop-entry.sheet.items in (
      beyond-after-named r rest inner e b h ∙ c.loop-entry.invariant.0,
      omega (arith, b.shorter, c.loop-entry.invariant.1),
      ap (λ (l : List Item). c.loop-entry.sheet.items ++ l) (sym (named-items around n c.loop-entry.next c.loop-entry.object r rest inner e b h)) ∙ c.loop-entry.invariant.2,
      pushed c.loop-entry.sheet.conds c.push.new.self (spec.conds around.parent n (within r (forest inner))) _ _ c.in_ok-push.ensures.ok c.in_ok-cond_of.ensures
          ∙ ap (λ (l : List CondItem). c.loop-entry.sheet.conds ++ l) (sym (named-conds around.parent n r rest inner e b h)) ∙ c.loop-entry.invariant.3,
    )

pub lay_parts-loop-entry-preserved : goal.lay_parts-loop-entry-preserved
lay_parts-loop-entry-preserved t c =
    let b = c.in-Some.ensures.some in
    let e = c.in-Some.entry.now in
    let h = c.if-entry-eq-NAMED.false in
    let around = c.args.around.now in
    let r = c.args.around_rank in
    let rest = c.loop-entry.rest.now in
    let inner = c.in-Some.inner.now in
    let after = c.in_ok-added.after.now in
    let goes = c.in_ok-added.ensures.rest in (
      beyond-after r rest inner after e b goes ∙ c.loop-entry.invariant.0,
      omega (arith, b.shorter, goes.shorter, c.loop-entry.invariant.1),
      step-items around c.loop-entry.next c.loop-entry.object c.start_of-object.result c.in_ok-next.next r rest inner after e c.loop-entry.sheet.items c.lay_item.new.sheet.items b h goes
          c.start_of-object.ensures (c.in_ok-next.ensures ∙ ap (λ (n : ℕ). c.loop-entry.next + n) c.in_ok-added.ensures.adds) c.in_ok-added.ensures.items ∙ c.loop-entry.invariant.2,
      step-conds around.parent (length c.loop-entry.sheet.items) (length c.lay_item.new.sheet.items) r rest inner after e c.loop-entry.sheet.conds c.lay_item.new.sheet.conds b h goes
          (count-laid around _ c.start_of-object.result _ _ (parts_of e inner) e c.loop-entry.sheet.items c.lay_item.new.sheet.items c.in_ok-added.ensures.items)
          c.in_ok-added.ensures.conds ∙ c.loop-entry.invariant.3,
    )
