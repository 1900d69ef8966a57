use Rattle.std.proofs.Common.{◌∙◌, sym, subst, List, arith}
use Rattle.data_layout.specs.declared.fault.LayoutFault.{LayoutFault}
use Rattle.data_layout.specs.Names.{named}
use Rattle.data_layout.specs.Faults as spec
use Rattle.data_layout.proofs.Laid.{beyond-after-named, beyond-after}
use Rattle.data_layout.proofs.Telling.{IsFirst-front}
use Rattle.data_layout.proofs.Checked.{carried, at-name, at-item-front, past-name, past-item, names-past-name, names-past-item}
use Rattle.data_layout.proofs.CheckedItem.{fails-before, fails-under, fails-after, has-none}
use Rattle.data_layout.proofs.check.+check.Goals as goal

pub check_item-returns-in_err-check_before-clause-tells :
    goal.check_item-returns-in_err-check_before-clause-tells
check_item-returns-in_err-check_before-clause-tells t c =
    let fault = c.in_err-check_before.field-0.0 in
    carried c.from_residual.result fault _ c.from_residual.ensures.0 c.from_residual.ensures.1
    (fails-before c.args.words.now c.args.setting (named c.args.names.now) c.args.objects.now c.args.entry.now c.args.inner.now c.rank-around.result c.rank-around.ensures
    c.holds_items-items.result fault c.holds_items-items.ensures c.in_err-check_before.ensures)

pub check_item-returns-in_err-rest-clause-tells : goal.check_item-returns-in_err-rest-clause-tells
check_item-returns-in_err-rest-clause-tells t c =
    let fault = c.in_err-rest.field-0.0 in
    carried c.from_residual-in_err-rest.result fault _ c.from_residual-in_err-rest.ensures.0 c.from_residual-in_err-rest.ensures.1
    (fails-under c.args.words.now c.args.setting (named c.args.names.now) c.args.objects.now c.args.entry.now c.args.inner.now c.rank-around.result c.rank-around.ensures
    c.holds_items-items.result c.in_ok-within.within (named c.new-own.result) fault c.holds_items-items.ensures c.in_ok-within.ensures c.new-own.ensures c.in_ok-check_before.ensures c.in_err-rest.ensures.tells)

pub check_item-returns-in_err-check_after-clause-tells : goal.check_item-returns-in_err-check_after-clause-tells
check_item-returns-in_err-check_after-clause-tells t c =
    let fault = c.in_err-check_after.field-0.0 in
    carried c.from_residual-in_err-check_after.result fault _ c.from_residual-in_err-check_after.ensures.0 c.from_residual-in_err-check_after.ensures.1
    (fails-after c.args.words.now c.args.setting (named c.args.names.now) c.args.objects.now c.args.entry.now c.args.inner.now c.rank-around.result c.rank-around.ensures
    c.holds_items-items.result c.in_ok-within.within (named c.new-own.result) c.in_ok-of_parts.of_parts c.in_ok-one.one c.in_ok-all.all fault c.holds_items-items.ensures c.in_ok-within.ensures c.new-own.ensures
    c.in_ok-of_parts.ensures.bytes c.in_ok-one.ensures c.in_ok-all.ensures c.in_ok-check_before.ensures c.in_ok-rest.ensures.tells c.in_err-check_after.ensures)

pub check_item-returns-clause-tells : goal.check_item-returns-clause-tells
check_item-returns-clause-tells t c =
    has-none c.args.words.now c.args.setting (named c.args.names.now) c.args.objects.now c.args.entry.now c.args.inner.now c.rank-around.result c.rank-around.ensures
    c.holds_items-items.result c.in_ok-within.within (named c.new-own.result) c.in_ok-of_parts.of_parts c.in_ok-one.one c.in_ok-all.all c.holds_items-items.ensures c.in_ok-within.ensures c.new-own.ensures
    c.in_ok-of_parts.ensures.bytes c.in_ok-one.ensures c.in_ok-all.ensures c.in_ok-check_before.ensures c.in_ok-rest.ensures.tells c.in_ok-check_after.ensures

pub check_parts-loop-entry-preserved-then-entry-eq-NAMED :
    goal.check_parts-loop-entry-preserved-then-entry-eq-NAMED
check_parts-loop-entry-preserved-then-entry-eq-NAMED t c =
    let b = c.in-Some.ensures.some in
    let e = c.in-Some.entry.now in
    let h = c.if-entry-eq-NAMED.true in
    let r = c.args.around in
    let rest = c.loop-entry.rest.now in
    let inner = c.in-Some.inner.now in
    let names = named c.loop-entry.names in
    let onward = named c.add.new.self in (
      beyond-after-named r rest inner e b h ∙ c.loop-entry.invariant.0,
      omega (arith, b.shorter, c.loop-entry.invariant.1),
      past-name c.args.words.now c.args.setting names onward c.loop-entry.objects r rest inner e b h c.in_ok-check_name.ensures c.in_ok-add.ensures ∙ c.loop-entry.invariant.2,
      names-past-name names onward r rest inner e b h c.in_ok-add.ensures ∙ c.loop-entry.invariant.3,
    )

pub check_parts-returns-in_err-check_name-clause-tells : goal.check_parts-returns-in_err-check_name-clause-tells
check_parts-returns-in_err-check_name-clause-tells t c =
    let b = c.in-Some.ensures.some in
    let e = c.in-Some.entry.now in
    let fault = c.in_err-check_name.field-0.0 in
    carried c.from_residual.result fault _ c.from_residual.ensures.0 c.from_residual.ensures.1
    (subst (λ (fs : List LayoutFault). spec.IsFirst fault fs) (sym (at-name c.args.words.now c.args.setting (named c.loop-entry.names) c.loop-entry.objects c.args.around c.loop-entry.rest.now c.in-Some.inner.now e b c.if-entry-eq-NAMED.true) ∙ c.loop-entry.invariant.2)
    (IsFirst-front _ _ fault c.in_err-check_name.ensures))

pub check_parts-returns-in_err-all-clause-tells : goal.check_parts-returns-in_err-all-clause-tells
check_parts-returns-in_err-all-clause-tells t c =
    let b = c.in-Some.ensures.some in
    let e = c.in-Some.entry.now in
    let fault = c.in_err-all.field-0.0 in
    carried c.from_residual-in_err-all.result fault _ c.from_residual-in_err-all.ensures.0 c.from_residual-in_err-all.ensures.1
    (subst (λ (fs : List LayoutFault). spec.IsFirst fault fs) (sym (at-item-front c.args.words.now c.args.setting (named c.loop-entry.names) c.loop-entry.objects c.args.around c.loop-entry.rest.now c.in-Some.inner.now e b c.if-entry-eq-NAMED.false) ∙ c.loop-entry.invariant.2)
    (IsFirst-front _ _ fault c.in_err-all.ensures.tells))

pub check_parts-loop-entry-preserved : goal.check_parts-loop-entry-preserved
check_parts-loop-entry-preserved t c =
    let b = c.in-Some.ensures.some in
    let e = c.in-Some.entry.now in
    let h = c.if-entry-eq-NAMED.false in
    let r = c.args.around in
    let rest = c.loop-entry.rest.now in
    let inner = c.in-Some.inner.now in
    let after = c.in_ok-all.after.now in
    let goes = c.in_ok-all.ensures.rest in
    let names = named c.loop-entry.names in
    let onward = named c.add-else-entry-eq-NAMED.new.self in (
      beyond-after r rest inner after e b goes ∙ c.loop-entry.invariant.0,
      omega (arith, b.shorter, goes.shorter, c.loop-entry.invariant.1),
      past-item c.args.words.now c.args.setting names onward c.loop-entry.objects c.in_ok-objects.objects c.in_ok-all.all r rest inner after e b h goes c.in_ok-all.ensures.tells c.in_ok-add-2.ensures c.in_ok-objects.ensures c.in_ok-all.ensures.bytes ∙ c.loop-entry.invariant.2,
      names-past-item names onward r rest inner after e b goes c.in_ok-add-2.ensures ∙ c.loop-entry.invariant.3,
    )
