use Rattle.std.specs.Int.{w8}
use Rattle.std.proofs.Common.{◌≡◌, ℕ, ℤ, ◌+◌, ◌-◌, ◌++◌, List, [], length, take, drop, get_or, to_z, of_z, SFits, rules, refl, sym, ap, ◌∙◌, subst, arith}
use Rattle.std.proofs.lemmas.Int.{to_z-of_z}
use Rattle.std.proofs.lemmas.List.{drop_all}
use Rattle.byte_lists.specs.Part.{part, with_part}
use Rattle.year_image.specs.Piece.{width}
use Rattle.file_convert.specs.Cuts.{piece_of, pieces, pieces_from, IsInOrderFrom}
use Rattle.file_convert.specs.declared.cut.Cut.{Cut}
use Rattle.file_convert.proofs.CutLemmas.{no_cut}
use Rattle.year_ageing.specs.Years.{side_width, aged}
use Rattle.year_ageing.specs.Records.{changed, changed_by}
use Rattle.year_ageing.specs.declared.task.Task.TheVariants as tasks
use Rattle.year_ageing.proofs.Walk.{side_size, size-whole, length_most, change_keep, changed-end}
use Rattle.year_ageing.proofs.Steps.{next_inside, next_order, next_room, aged_next}
use Rattle.year_ageing.proofs.record.age_cuts.Goals as goal

pub loop-cut-init : goal.loop-cut-init
loop-cut-init c =
    let cuts = c.args.cuts.now in
    let side = c.args.side in
    let years : ℤ = to_z w8 (of_z w8 c.args.years) in
    let P : List Cut → Type 0 = λ l. IsInOrderFrom 0 cuts.length l in
    let same : side_size side (pieces_from 0 cuts.length c.items-cut-items.result.now) ≡ side_size side (pieces cuts) = ap (λ (l : List Cut). side_size side (pieces_from 0 cuts.length l)) c.items-cut-items.ensures in
    record {
      order = subst P (sym c.items-cut-items.ensures) c.requires.order.2;
      room = omega (arith, same, size-whole side cuts c.requires.order, c.requires.long);
      done = ap (λ (l : List Cut). changed_by side (aged side years) (pieces_from 0 cuts.length l) c.args.bytes.now) c.items-cut-items.ensures;
    }

pub overflow_add-start : goal.overflow_add-start
overflow_add-start c =
    let cuts = c.args.cuts.now in
    let cs : List Cut = c.items-cut-items.result.now in
    let p = piece_of (get_or cs c.loop-cut.cut-index no_cut) in
    omega (arith, next_room c.loop-cut.from c.loop-cut.to cuts.length cs c.loop-cut.cut-index c.loop-cut-test.true c.args.side (length c.loop-cut.bytes) (side_width c.args.side p) (width p) refl refl c.loop-cut.invariant.room, length_most c.args.side cuts c.requires.order, c.requires.long, c.loop-cut.auto.bytes)

pub age_in-requires-clause-inside : goal.age_in-requires-clause-inside
age_in-requires-clause-inside c =
    let cuts = c.args.cuts.now in
    let cs : List Cut = c.items-cut-items.result.now in
    let p = piece_of (get_or cs c.loop-cut.cut-index no_cut) in
    omega (arith, next_room c.loop-cut.from c.loop-cut.to cuts.length cs c.loop-cut.cut-index c.loop-cut-test.true c.args.side (length c.loop-cut.bytes) (side_width c.args.side p) (width p) refl refl c.loop-cut.invariant.room)

pub overflow_add-to : goal.overflow_add-to
overflow_add-to c =
    let cuts = c.args.cuts.now in
    let cs : List Cut = c.items-cut-items.result.now in
    let p = piece_of (get_or cs c.loop-cut.cut-index no_cut) in
    let wide : c.side_width.result ≡ side_width c.args.side p = c.side_width.ensures in
    omega (arith, next_room c.loop-cut.from c.loop-cut.to cuts.length cs c.loop-cut.cut-index c.loop-cut-test.true c.args.side (length c.loop-cut.bytes) c.side_width.result (width p) wide refl c.loop-cut.invariant.room, length_most c.args.side cuts c.requires.order, c.requires.long, c.loop-cut.auto.bytes)

pub overflow_add-from : goal.overflow_add-from
overflow_add-from c =
    let cuts = c.args.cuts.now in
    let cs : List Cut = c.items-cut-items.result.now in
    let p = piece_of (get_or cs c.loop-cut.cut-index no_cut) in
    let n : c.side_width-in-loop-cut.result ≡ width p = c.side_width-in-loop-cut.ensures in
    omega (arith, n, next_inside c.loop-cut.from c.loop-cut.to cuts.length cs c.loop-cut.cut-index c.loop-cut-test.true c.loop-cut.invariant.order, c.requires.order.1)

pub loop-cut-preserved : goal.loop-cut-preserved
loop-cut-preserved c =
    let cuts = c.args.cuts.now in
    let side = c.args.side in
    let years : ℤ = to_z w8 (of_z w8 c.args.years) in
    let cs : List Cut = c.items-cut-items.result.now in
    let i = c.loop-cut.cut-index in
    let d = get_or cs i no_cut in
    let p = piece_of d in
    let from = c.loop-cut.from in
    let to = c.loop-cut.to in
    let bs = c.loop-cut.bytes in
    let new = c.age_in.new.bytes in
    let start = to + (d.offset - from) in
    let n : c.side_width-in-loop-cut.result ≡ width p = c.side_width-in-loop-cut.ensures in
    let wide : c.side_width.result ≡ side_width side p = c.side_width.ensures in
    let room = next_room from to cuts.length cs i c.loop-cut-test.true side (length bs) c.side_width.result c.side_width-in-loop-cut.result wide n c.loop-cut.invariant.room in
    let e : new ≡ with_part bs start (aged side years p (part bs start (side_width side p))) = c.age_in.ensures in
    record {
      order = next_order from to cuts.length cs i c.loop-cut-test.true c.side_width-in-loop-cut.result n c.loop-cut.invariant.order;
      room = omega (arith, room, c.age_in.auto.bytes);
      done = aged_next from to cuts.length cs i c.loop-cut-test.true side years bs new (changed (tasks.Age side years) cuts c.args.bytes.now) c.side_width.result c.side_width-in-loop-cut.result wide n c.loop-cut.invariant.order (omega (arith, room)) e c.loop-cut.invariant.done;
    }

pub returns : goal.returns
returns c =
    let cuts = c.args.cuts.now in
    let side = c.args.side in
    let years : ℤ = to_z w8 (of_z w8 c.args.years) in
    let fits : SFits w8 c.args.years = search rules in
    let same : years ≡ c.args.years = to_z-of_z w8 c.args.years fits in
    let cs : List Cut = c.items-cut-items.result.now in
    let bs = c.loop-cut.bytes in
    let none : drop c.loop-cut.cut-index cs ≡ [] = drop_all c.loop-cut.cut-index cs c.loop-cut-test.false in
    changed-end side (aged side years) (change_keep (tasks.Age side years)) c.loop-cut.from c.loop-cut.to cuts.length bs (changed (tasks.Age side years) cuts c.args.bytes.now)
    (ap (λ (l : List Cut). c.loop-cut.to + side_size side (pieces_from c.loop-cut.from cuts.length l)) (sym none) ∙ c.loop-cut.invariant.room)
    (ap (λ (l : List Cut). take c.loop-cut.to bs ++ changed_by side (aged side years) (pieces_from c.loop-cut.from cuts.length l) (drop c.loop-cut.to bs)) (sym none) ∙ c.loop-cut.invariant.done)
    ∙ ap (λ (y : ℤ). changed (tasks.Age side y) cuts c.args.bytes.now) same
