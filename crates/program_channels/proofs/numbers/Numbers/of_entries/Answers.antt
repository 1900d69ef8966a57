use Rattle.std.proofs.Common.{◌≡◌, ◌+◌, ℕ, List, Option, length, map, ap, ◌∙◌, arith}
use Rattle.tree_reading.specs.Reading.{read_file}
use Rattle.program_meaning.specs.Portfolio.{index_of, file_names}
use Rattle.program_channels.specs.Numbers.{number_or, numbers_of_entries}
use Rattle.program_channels.proofs.Numbered.{entry-number}
use Rattle.program_channels.proofs.numbers.Numbers.of_entries.Goals as goal

pub returns-in-Ok : goal.returns-in-Ok
returns-in-Ok c = λ name.
    let count : c.in-Ok.count ≡ 0 + length c.args.entries.now = omega (arith, c.in-Ok.ensures) in
    let whole : 0 + index_of name (file_names (map read_file c.args.entries.now)) ≡ index_of name (file_names (map read_file c.args.entries.now)) = omega arith in
    ap (λ (f : List ℕ → Option ℕ). number_or c.in-Ok.count (f name)) c.in_ok-table.ensures
    ∙ ap (λ (n : ℕ). number_or n (numbers_of_entries 0 c.args.entries.now name)) count
    ∙ entry-number name 0 c.args.entries.now ∙ whole
