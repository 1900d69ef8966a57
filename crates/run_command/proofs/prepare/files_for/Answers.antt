use Rattle.std.proofs.Common.{rules, ◌≡◌, sym, subst}
use Rattle.job_files.specs.Numbers.{AreApart}
use Rattle.run_command.proofs.ApartLaws.{sound-apart}
use Rattle.run_command.proofs.prepare.files_for.Goals as goal

pub load_files-requires-clause-apart : goal.load_files-requires-clause-apart
load_files-requires-clause-apart g c =
    let same : c.items-files.result.now ≡ c.args.gathered.now.portfolio.files = search rules in
    subst AreApart (sym same) (sound-apart c.args.gathered.now.portfolio c.requires)
