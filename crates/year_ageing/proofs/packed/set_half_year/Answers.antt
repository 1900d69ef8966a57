use Rattle.std.proofs.Common.{List, ℕ, ◌+◌, ◌/◌, ◌%◌, ◌∷◌, [], sym, ap, ◌∙◌, arith}
use Rattle.byte_lists.specs.HalfBytes.{halves, joined}
use Rattle.byte_lists.specs.Part.{with_part}
use Rattle.year_image.proofs.PackedImages.{joined-halves}
use Rattle.year_image.proofs.Lengths.{length-halves}
use Rattle.file_convert.proofs.Parts.{with_part-with_part}
use Rattle.year_ageing.proofs.packed.set_half_year.Goals as goal

pub returns : goal.returns
returns c =
    let hs = halves c.args.bytes.now in
    let tens = c.args.year / 10 in
    let units = c.args.year % 10 in
    sym (joined-halves c.set_half-2.new.bytes)
    ∙ ap joined (c.set_half-2.ensures ∙ ap (λ (l : List ℕ). with_part l (c.args.at + 1) (units ∷ [])) c.set_half.ensures
    ∙ with_part-with_part hs c.args.at (c.args.at + 1) (tens ∷ []) (units ∷ []) (omega arith) (omega (arith, length-halves c.args.bytes.now, c.requires.place)))
