use Rattle.std.proofs.Common.{sym, subst, List}
use Rattle.date_types.specs.Laws.{AreTablesAlike, AreFilesAlike, ArePicturesAlike}
use Rattle.date_types.proofs.Among.{tables_alike, files_alike}
use Rattle.date_types.proofs.Longer.{pictures_alike}
use Rattle.date_types.proofs.whole.rules_of.Goals as goal

pub returns-clause-tables : goal.returns-clause-tables
returns-clause-tables c = subst (AreTablesAlike c.args.portfolio.now) (sym c.in_ok-rules.ensures.rules) (tables_alike c.args.portfolio.now)

pub returns-clause-files : goal.returns-clause-files
returns-clause-files c = subst (AreFilesAlike c.args.portfolio.now) (sym c.in_ok-rules.ensures.rules) (files_alike c.args.portfolio.now)

pub returns-clause-pictures : goal.returns-clause-pictures
returns-clause-pictures c = subst (ArePicturesAlike c.args.portfolio.now) (sym c.in_ok-rules.ensures.rules) (pictures_alike c.args.portfolio.now)
