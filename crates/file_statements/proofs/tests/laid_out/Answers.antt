use Rattle.std.specs.Prelude.{Result, Ok, Err, IfOk}
use Rattle.y2k_base.specs.declared.place.AreaId.{AreaId}
use Rattle.cobol_syntax.specs.declared.program.Program.{Program}
use Rattle.data_layout.specs.Sections.{IsLayout}
use Rattle.data_layout.specs.declared.item.Layout.{Layout}
use Rattle.layout_reading.specs.Numbered.{AreNumbered}
use Rattle.layout_reading.specs.Reading.{first_area}
use Rattle.layout_reading.proofs.Numbered.{laid-numbered}
use Rattle.file_statements.proofs.tests.laid_out.Goals as goal

where_laid : {E : Type 0} (first : AreaId) (program : Program) (r : Result Layout E) → IfOk r (IsLayout first program) → IfOk r (λ layout. AreNumbered (first_area layout.areas) layout.areas)
where_laid first program (Ok layout) is = laid-numbered first program layout is
where_laid first program (Err e) is = record {}

pub returns-clause-numbered : goal.returns-clause-numbered
returns-clause-numbered c = where_laid _ _ c.lay_out.result c.lay_out.ensures.layout
