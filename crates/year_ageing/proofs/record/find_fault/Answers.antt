use Rattle.std.proofs.Common.{◌≡◌, ℕ, ◌+◌, ◌-◌, List, [], Option, None, length, drop, get_or, refl, sym, ap, ◌∙◌, subst, arith}
use Rattle.std.proofs.lemmas.List.{drop_all}
use Rattle.year_image.specs.Piece.{width}
use Rattle.file_convert.specs.Cuts.{piece_of, pieces, pieces_from, IsInOrderFrom}
use Rattle.file_convert.specs.declared.cut.Cut.{Cut}
use Rattle.file_convert.proofs.CutLemmas.{no_cut}
use Rattle.year_ageing.specs.Years.{side_width, task_side, fault_of}
use Rattle.year_ageing.specs.Records.{first_by, first_fault}
use Rattle.year_ageing.proofs.Walk.{side_size, size-whole, length_most, fault_keep, first-end}
use Rattle.year_ageing.proofs.Steps.{next_inside, next_order, next_room, found_here, found_later}
use Rattle.year_ageing.proofs.record.find_fault.Goals as goal

pub loop-cut-init : goal.loop-cut-init
loop-cut-init c =
    let cuts = c.args.cuts.now in
    let task = c.args.task in
    let P : List Cut → Type 0 = λ l. IsInOrderFrom 0 cuts.length l in
    let same : side_size (task_side task) (pieces_from 0 cuts.length c.items-cut-items.result.now) ≡ side_size (task_side task) (pieces cuts) = ap (λ (l : List Cut). side_size (task_side task) (pieces_from 0 cuts.length l)) c.items-cut-items.ensures in
    record {
      order = subst P (sym c.items-cut-items.ensures) c.requires.order.2;
      room = omega (arith, same, size-whole (task_side task) cuts c.requires.order, c.requires.long);
      found = ap (λ (l : List Cut). first_by (task_side task) (fault_of task) 0 (pieces_from 0 cuts.length l) c.args.bytes.now) c.items-cut-items.ensures;
    }

pub overflow_add-start : goal.overflow_add-start
overflow_add-start c =
    let cuts = c.args.cuts.now in
    let cs : List Cut = c.items-cut-items.result.now in
    let side = task_side c.args.task in
    let p = piece_of (get_or cs c.loop-cut.cut-index no_cut) in
    omega (arith, next_room c.loop-cut.from c.loop-cut.to cuts.length cs c.loop-cut.cut-index c.loop-cut-test.true side (length c.args.bytes.now) (side_width side p) (width p) refl refl c.loop-cut.invariant.room, length_most side cuts c.requires.order, c.requires.long)

pub fault_in-requires-clause-size : goal.fault_in-requires-clause-size
fault_in-requires-clause-size c =
    let p = piece_of (get_or c.items-cut-items.result.now c.loop-cut.cut-index no_cut) in
    c.side_width-width.ensures ∙ ap (λ s. side_width s p) c.task_side-side.ensures

pub fault_in-requires-clause-inside : goal.fault_in-requires-clause-inside
fault_in-requires-clause-inside c =
    let cuts = c.args.cuts.now in
    let cs : List Cut = c.items-cut-items.result.now in
    let side = task_side c.args.task in
    let p = piece_of (get_or cs c.loop-cut.cut-index no_cut) in
    let wide : c.side_width-width.result ≡ side_width side p = c.side_width-width.ensures ∙ ap (λ s. side_width s p) c.task_side-side.ensures in
    omega (arith, next_room c.loop-cut.from c.loop-cut.to cuts.length cs c.loop-cut.cut-index c.loop-cut-test.true side (length c.args.bytes.now) c.side_width-width.result (width p) wide refl c.loop-cut.invariant.room)

pub returns-in-Some : goal.returns-in-Some
returns-in-Some c =
    let cuts = c.args.cuts.now in
    let task = c.args.task in
    let cs : List Cut = c.items-cut-items.result.now in
    let p = piece_of (get_or cs c.loop-cut.cut-index no_cut) in
    let wide : c.side_width-width.result ≡ side_width (task_side task) p = c.side_width-width.ensures ∙ ap (λ s. side_width s p) c.task_side-side.ensures in
    found_here c.loop-cut.from c.loop-cut.to cuts.length cs c.loop-cut.cut-index c.loop-cut-test.true (task_side task) (fault_of task) (fault_keep task) c.args.bytes.now c.side_width-width.result wide (first_fault task cuts c.args.bytes.now) c.loop-cut.invariant.found c.in-Some.kind c.in-Some.ensures

pub overflow_add-to : goal.overflow_add-to
overflow_add-to c =
    let cuts = c.args.cuts.now in
    let cs : List Cut = c.items-cut-items.result.now in
    let side = task_side c.args.task in
    let p = piece_of (get_or cs c.loop-cut.cut-index no_cut) in
    let wide : c.side_width-width.result ≡ side_width side p = c.side_width-width.ensures ∙ ap (λ s. side_width s p) c.task_side-side.ensures in
    omega (arith, next_room c.loop-cut.from c.loop-cut.to cuts.length cs c.loop-cut.cut-index c.loop-cut-test.true side (length c.args.bytes.now) c.side_width-width.result (width p) wide refl c.loop-cut.invariant.room, length_most side cuts c.requires.order, c.requires.long)

pub overflow_add-from : goal.overflow_add-from
overflow_add-from c =
    let cuts = c.args.cuts.now in
    let cs : List Cut = c.items-cut-items.result.now in
    let p = piece_of (get_or cs c.loop-cut.cut-index no_cut) in
    let n : c.side_width.result ≡ width p = c.side_width.ensures in
    omega (arith, n, next_inside c.loop-cut.from c.loop-cut.to cuts.length cs c.loop-cut.cut-index c.loop-cut-test.true c.loop-cut.invariant.order, c.requires.order.1)

pub loop-cut-preserved : goal.loop-cut-preserved
loop-cut-preserved c =
    let cuts = c.args.cuts.now in
    let task = c.args.task in
    let cs : List Cut = c.items-cut-items.result.now in
    let i = c.loop-cut.cut-index in
    let p = piece_of (get_or cs i no_cut) in
    let n : c.side_width.result ≡ width p = c.side_width.ensures in
    let wide : c.side_width-width.result ≡ side_width (task_side task) p = c.side_width-width.ensures ∙ ap (λ s. side_width s p) c.task_side-side.ensures in
    record {
      order = next_order c.loop-cut.from c.loop-cut.to cuts.length cs i c.loop-cut-test.true c.side_width.result n c.loop-cut.invariant.order;
      room = next_room c.loop-cut.from c.loop-cut.to cuts.length cs i c.loop-cut-test.true (task_side task) (length c.args.bytes.now) c.side_width-width.result c.side_width.result wide n c.loop-cut.invariant.room;
      found = found_later c.loop-cut.from c.loop-cut.to cuts.length cs i c.loop-cut-test.true (task_side task) (fault_of task) (fault_keep task) c.args.bytes.now c.side_width-width.result wide (first_fault task cuts c.args.bytes.now) c.loop-cut.invariant.found c.side_width.result n c.in-None.ensures;
    }

pub returns : goal.returns
returns c =
    let cuts = c.args.cuts.now in
    let task = c.args.task in
    let cs : List Cut = c.items-cut-items.result.now in
    let none : drop c.loop-cut.cut-index cs ≡ [] = drop_all c.loop-cut.cut-index cs c.loop-cut-test.false in
    sym (first-end (task_side task) (fault_of task) (fault_keep task) c.loop-cut.from c.loop-cut.to cuts.length c.args.bytes.now)
    ∙ ap (λ (l : List Cut). first_by (task_side task) (fault_of task) c.loop-cut.to (pieces_from c.loop-cut.from cuts.length l) (drop c.loop-cut.to c.args.bytes.now)) (sym none)
    ∙ c.loop-cut.invariant.found
