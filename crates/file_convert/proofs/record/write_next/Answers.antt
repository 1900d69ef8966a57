use Rattle.std.proofs.Common.{◌≡◌, ℕ, ◌+◌, ◌-◌, List, length, drop, ap, ◌∙◌, arith, length-drop}
use Rattle.std.proofs.lemmas.List.{length-take-le}
use Rattle.year_image.specs.Piece.{width, grown_width}
use Rattle.year_image.specs.Image.{grow}
use Rattle.byte_lists.specs.Part.{part, with_part}
use Rattle.year_image.proofs.Lengths.{length-grow}
use Rattle.file_convert.specs.Cuts.{piece_of}
use Rattle.file_convert.proofs.Parts.{with_part-with_part}
use Rattle.file_convert.proofs.record.write_next.Goals as goal

pub returns : goal.returns
returns c =
    let source = c.args.source.now in
    let p = piece_of c.args.cut.now in
    let start = c.args.cut.now.offset in
    let gap = start - c.args.from in
    let xs = part source c.args.from gap in
    let ys = part source start (width p) in
    let lx : length xs ≡ gap = length-take-le gap (drop c.args.from source) (omega (arith, length-drop c.args.from source, c.requires.inside, c.requires.order)) in
    let ly : length ys ≡ width p = length-take-le (width p) (drop start source) (omega (arith, length-drop start source, c.requires.inside)) in
    let lg : length (grow 48 p ys) ≡ grown_width p = length-grow 48 p ys ly in
    c.write_grown.ensures
    ∙ ap (λ (l : List ℕ). with_part c.copy_at.new.into (c.args.to + gap) (grow 48 p l)) c.covered_by.ensures
    ∙ ap (λ (l : List ℕ). with_part l (c.args.to + gap) (grow 48 p ys)) c.copy_at.ensures
    ∙ with_part-with_part c.args.into.now c.args.to (c.args.to + gap) xs (grow 48 p ys) (omega (arith, lx)) (omega (arith, lx, lg, c.requires.room))
