use Rattle.std.proofs.Common.{◌≡◌, ◌+◌, ℕ, List, Option, length, ap, ◌∙◌, arith}
use Rattle.layout_reading.specs.Reading.{externals}
use Rattle.program_meaning.specs.Portfolio.{index_of}
use Rattle.program_channels.specs.Numbers.{number_or, numbers_of_files}
use Rattle.program_channels.proofs.Numbered.{file-number}
use Rattle.program_channels.proofs.numbers.Numbers.of_files.Goals as goal

pub returns-in-Ok : goal.returns-in-Ok
returns-in-Ok c = λ name.
    let count : c.in-Ok.count ≡ 0 + length c.args.files.now = omega (arith, c.in-Ok.ensures) in
    let whole : 0 + index_of name (externals c.args.files.now) ≡ index_of name (externals c.args.files.now) = omega arith in
    ap (λ (f : List ℕ → Option ℕ). number_or c.in-Ok.count (f name)) c.in_ok-table.ensures
    ∙ ap (λ (n : ℕ). number_or n (numbers_of_files 0 c.args.files.now name)) count
    ∙ file-number name 0 c.args.files.now ∙ whole
