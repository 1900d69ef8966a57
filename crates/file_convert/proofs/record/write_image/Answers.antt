use Rattle.std.proofs.Common.{◌≡◌, ℕ, ◌+◌, ◌-◌, ◌≤◌, ◌++◌, ◌∷◌, List, [], length, take, drop, get_or, sym, ap, ◌∙◌, subst, arith, length-drop}
use Rattle.std.proofs.lemmas.List.{drop_more, drop_all, length-take-le}
use Rattle.year_image.specs.Piece.{width, grown_width, grown_size}
use Rattle.year_image.specs.Image.{image}
use Rattle.file_convert.specs.declared.cut.Cut.{Cut}
use Rattle.file_convert.specs.Cuts.{piece_of, pieces, pieces_from, IsInOrderFrom}
use Rattle.file_convert.proofs.CutLemmas.{no_cut, order_more, order_end, grown_size-pieces, growths, grown_width-ge, written_step, written_last}
use Rattle.file_convert.proofs.record.write_image.Goals as goal

pub write_next-requires-clause-inside : goal.write_next-requires-clause-inside
write_next-requires-clause-inside c =
    let cs = c.items-cut-items.result.now in
    let i = c.loop-cut.cut-index in
    let d = get_or cs i no_cut in
    let end = c.args.cuts.now.length in
    let h = order_more c.loop-cut.from end cs i c.loop-cut-test.true c.loop-cut.invariant.order in
    omega (arith, order_end (d.offset + width (piece_of d)) end (drop (i + 1) cs) h.2, c.requires.long)

pub write_next-requires-clause-room : goal.write_next-requires-clause-room
write_next-requires-clause-room c =
    let cs = c.items-cut-items.result.now in
    let i = c.loop-cut.cut-index in
    let d = get_or cs i no_cut in
    let end = c.args.cuts.now.length in
    let h = order_more c.loop-cut.from end cs i c.loop-cut-test.true c.loop-cut.invariant.order in
    let room : c.loop-cut.to + grown_size (pieces_from c.loop-cut.from end (d ∷ drop (i + 1) cs)) ≡ length c.loop-cut.into =
    ap (λ (l : List Cut). c.loop-cut.to + grown_size (pieces_from c.loop-cut.from end l)) (sym (drop_more cs i no_cut c.loop-cut-test.true)) ∙ c.loop-cut.invariant.room in
    let now : c.loop-cut.from + grown_size (pieces_from c.loop-cut.from end (d ∷ drop (i + 1) cs)) ≡ end + ((grown_width (piece_of d) - width (piece_of d)) + growths (drop (i + 1) cs)) = grown_size-pieces c.loop-cut.from end (d ∷ drop (i + 1) cs) h in
    let last : d.offset + width (piece_of d) ≤ end = order_end (d.offset + width (piece_of d)) end (drop (i + 1) cs) h.2 in
    omega (arith, room, now, last, h.0, grown_width-ge (piece_of d))

pub loop-cut-preserved : goal.loop-cut-preserved
loop-cut-preserved c =
    let cs : List Cut = c.items-cut-items.result.now in
    let i = c.loop-cut.cut-index in
    let d : Cut = get_or cs i no_cut in
    let rest : List Cut = drop (i + 1) cs in
    let end = c.args.cuts.now.length in
    let from = c.loop-cut.from in
    let to = c.loop-cut.to in
    let source = c.args.source.now in
    let whole = image 48 (pieces c.args.cuts.now) source in
    let h = order_more from end cs i c.loop-cut-test.true c.loop-cut.invariant.order in
    let w : c.width.result ≡ width (piece_of d) = c.width.ensures in
    let g : c.grown_width.result ≡ grown_width (piece_of d) = c.grown_width.ensures in
    let room : to + grown_size (pieces_from from end (d ∷ rest)) ≡ length c.loop-cut.into =
    ap (λ (l : List Cut). to + grown_size (pieces_from from end l)) (sym (drop_more cs i no_cut c.loop-cut-test.true)) ∙ c.loop-cut.invariant.room in
    let written : take to c.loop-cut.into ++ image 48 (pieces_from from end (d ∷ rest)) (drop from source) ≡ whole =
    ap (λ (l : List Cut). take to c.loop-cut.into ++ image 48 (pieces_from from end l) (drop from source)) (sym (drop_more cs i no_cut c.loop-cut-test.true)) ∙ c.loop-cut.invariant.written in
    let P : ℕ → Type 0 = λ n. IsInOrderFrom (d.offset + n) end rest in
    let order : IsInOrderFrom (d.offset + c.width.result) end rest = subst P (sym w) h.2 in
    let now : from + grown_size (pieces_from from end (d ∷ rest)) ≡ end + ((grown_width (piece_of d) - width (piece_of d)) + growths rest) = grown_size-pieces from end (d ∷ rest) h in
    let next : d.offset + c.width.result + grown_size (pieces_from (d.offset + c.width.result) end rest) ≡ end + growths rest = grown_size-pieces (d.offset + c.width.result) end rest order in
    let last : d.offset + width (piece_of d) ≤ end = order_end (d.offset + width (piece_of d)) end rest h.2 in
    let after = written_step from to end d rest source c.loop-cut.into c.write_next.new.into whole h c.requires.long room c.write_next.ensures written in
    let Q : ℕ → Type 0 = λ n. take (to + (d.offset - from + n)) c.write_next.new.into ++ image 48 (pieces_from (d.offset + width (piece_of d)) end rest) (drop (d.offset + width (piece_of d)) source) ≡ whole in
    let R : ℕ → Type 0 = λ n. take (to + (d.offset - from + c.grown_width.result)) c.write_next.new.into ++ image 48 (pieces_from (d.offset + n) end rest) (drop (d.offset + n) source) ≡ whole in
    record {
      order = order;
      room = omega (arith, room, now, next, last, h.0, w, g, grown_width-ge (piece_of d), c.write_next.auto.into);
      written = subst R (sym w) (subst Q (sym g) after);
    }

pub copy_at-requires : goal.copy_at-requires
copy_at-requires c =
    let end = c.args.cuts.now.length in
    let from = c.loop-cut.from in
    let cs = c.items-cut-items.result.now in
    let none : drop c.loop-cut.cut-index cs ≡ [] = drop_all c.loop-cut.cut-index cs c.loop-cut-test.false in
    let size : from + grown_size (pieces_from from end (drop c.loop-cut.cut-index cs)) ≡ end + growths (drop c.loop-cut.cut-index cs) = grown_size-pieces from end (drop c.loop-cut.cut-index cs) c.loop-cut.invariant.order in
    let le : from ≤ end = order_end from end (drop c.loop-cut.cut-index cs) c.loop-cut.invariant.order in
    let lt : length (take (length c.args.source.now - from) (drop from c.args.source.now)) ≡ length c.args.source.now - from = length-take-le (length c.args.source.now - from) (drop from c.args.source.now) (omega (arith, length-drop from c.args.source.now)) in
    omega (arith, size, le, lt, c.loop-cut.invariant.room, c.requires.long, ap growths none)

pub returns : goal.returns
returns c =
    let end = c.args.cuts.now.length in
    let from = c.loop-cut.from in
    let cs = c.items-cut-items.result.now in
    let none : drop c.loop-cut.cut-index cs ≡ [] = drop_all c.loop-cut.cut-index cs c.loop-cut-test.false in
    let le : from ≤ end = order_end from end (drop c.loop-cut.cut-index cs) c.loop-cut.invariant.order in
    written_last from c.loop-cut.to end c.args.source.now c.loop-cut.into c.copy_at.new.into (image 48 (pieces c.args.cuts.now) c.args.source.now) le c.requires.long
    (ap (λ (l : List Cut). c.loop-cut.to + grown_size (pieces_from from end l)) (sym none) ∙ c.loop-cut.invariant.room)
    c.copy_at.ensures
    (ap (λ (l : List Cut). take c.loop-cut.to c.loop-cut.into ++ image 48 (pieces_from from end l) (drop from c.args.source.now)) (sym none) ∙ c.loop-cut.invariant.written)
