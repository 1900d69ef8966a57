use Rattle.std.proofs.Common.{List, ap, sym, ◌++◌, ◌∙◌}
use Rattle.cobol_syntax.specs.declared.program.Program.{Program}
use Rattle.cobol_syntax.specs.declared.program.Select.{Select}
use Rattle.name_tables.specs.Names.{Known, named, no_names}
use Rattle.file_uses.specs.Names.{known_by, with_names, unknown_in, unknown_selected}
use Rattle.file_uses.proofs.Appended.{with_names_append}
use Rattle.file_uses.proofs.selected.add_all_unknown.Goals as goal

pub loop-program-preserved : goal.loop-program-preserved
loop-program-preserved c =
    let known = known_by c.args.known.now in
    let more = c.in-Some.more.now in
    ap (λ (names : Known). with_names names (unknown_selected known more)) c.in_ok-add_unknown.ensures
    ∙ sym (with_names_append (named c.loop-program.faults) (unknown_in known no_names c.items.result.now) (unknown_selected known more))
    ∙ ap (λ (ss : List Select). with_names (named c.loop-program.faults) (unknown_in known no_names ss ++ unknown_selected known more)) c.items.ensures
    ∙ ap (λ (ps : List Program). with_names (named c.loop-program.faults) (unknown_selected known ps)) (sym c.in-Some.ensures.some)
    ∙ c.loop-program.invariant
