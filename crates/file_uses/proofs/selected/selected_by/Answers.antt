use Rattle.std.proofs.Common.{List, map, ap, sym, ◌++◌, ◌∙◌}
use Rattle.cobol_syntax.specs.declared.program.Program.{Program}
use Rattle.cobol_syntax.specs.declared.program.Select.{Select}
use Rattle.name_tables.specs.Names.{Known, named}
use Rattle.file_uses.specs.Names.{with_names, externals, external_of}
use Rattle.file_uses.proofs.Appended.{with_names_append}
use Rattle.file_uses.proofs.selected.selected_by.Goals as goal

pub loop-program-preserved : goal.loop-program-preserved
loop-program-preserved c =
    let more = c.in-Some.more.now in
    ap (λ (names : Known). with_names names (externals more)) c.in_ok-add_selected.ensures
    ∙ sym (with_names_append (named c.loop-program.names) (map external_of c.items.result.now) (externals more))
    ∙ ap (λ (ss : List Select). with_names (named c.loop-program.names) (map external_of ss ++ externals more)) c.items.ensures
    ∙ ap (λ (ps : List Program). with_names (named c.loop-program.names) (externals ps)) (sym c.in-Some.ensures.some)
    ∙ c.loop-program.invariant
