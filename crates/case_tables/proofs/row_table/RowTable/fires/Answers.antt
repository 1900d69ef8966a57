use Rattle.case_tables.proofs.Rows.{flags_by}
use Rattle.case_tables.proofs.row_table.RowTable.fires.Goals as goal

pub returns : goal.returns
returns g c =
    flags_by c.args.self.now.rows c.args.known.now _ c.flags_of.ensures.year c.flags_of.ensures.plain
    c.flags_of-2.ensures.year c.flags_of-2.ensures.plain c.flags_of-3.ensures.year c.flags_of-3.ensures.plain
