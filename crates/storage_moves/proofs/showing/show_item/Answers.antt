use Rattle.std.proofs.Common.{sym, subst}
use Rattle.std.specs.Prelude.{IfErr}
use Rattle.cobol_syntax.specs.declared.expr.Operand.{Operand}
use Rattle.program_meaning.specs.Moves as meant
use Rattle.place_table.specs.Tables.{layout_of, Failed}
use Rattle.storage_places.specs.Held.{held}
use Rattle.tree_reading.specs.Reading.{read_operand}
use Rattle.storage_moves.proofs.showing.show_item.Goals as goal

pub returns-in-Place-clause-err : goal.returns-in-Place-clause-err
returns-in-Place-clause-err c =
    subst (λ (o : Operand). IfErr c.show_place.result (Failed (layout_of c.args.places.now) (λ l. meant.show l (held c.args.storage.now) (read_operand o)))) (sym c.in-Place.is) c.show_place.ensures.err
