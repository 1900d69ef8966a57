use Rattle.std.proofs.Common.{List, ◌∙◌, ap, map, ◌≡◌}
use Rattle.cobol_syntax.specs.declared.program.FileEntry.{FileEntry}
use Rattle.cobol_syntax.specs.declared.program.Select.{Select}
use Rattle.tree_reading.specs.Reading.{read_file}
use Rattle.program_meaning.specs.Portfolio.{file_names, index_of}
use Rattle.program_meaning.specs.Tree.{Name}
use Rattle.layout_reading.specs.Reading.{externals}
use Rattle.program_channels.specs.Numbers.{number_in}
use Rattle.program_channels.specs.Tables.{channels_by}
use Rattle.program_channels.proofs.Numbered.{all-numbered}
use Rattle.program_channels.proofs.channels.list_of.Goals as goal

pub returns-clause-read : goal.returns-clause-read
returns-clause-read c =
    let files = number_in c.in_ok-file_numbers.file_numbers in
    let areas = number_in c.in_ok-area_numbers.area_numbers in
    let fds : (n : Name) → areas n ≡ index_of n (file_names (map read_file c.args.program.now.files)) =
    λ n. c.in_ok-area_numbers.ensures n ∙ ap (λ (es : List FileEntry). index_of n (file_names (map read_file es))) c.items.ensures in
    c.in_ok-list.ensures.read
    ∙ ap (λ (ss : List Select). channels_by files areas ss) c.items-2.ensures
    ∙ all-numbered files areas (externals c.args.files.now) (map read_file c.args.program.now.files) c.in_ok-file_numbers.ensures fds c.args.program.now.selects
