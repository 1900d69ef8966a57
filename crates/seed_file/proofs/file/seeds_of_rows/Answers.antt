use Rattle.std.proofs.Common.{map, sym, subst}
use Rattle.csv.specs.Records.{fields_of}
use Rattle.seed_file.specs.Seeds.{AreSeeds}
use Rattle.seed_file.proofs.Rest.{fault_read, goes_to, seeds_read}
use Rattle.seed_file.proofs.file.seeds_of_rows.Goals as goal

pub loop-first-preserved : goal.loop-first-preserved
loop-first-preserved c = goes_to _ _ _ _ _ _ _ c.in-Some.ensures.some c.in-Ok.ensures.added c.loop-first.invariant

pub returns-in-Err-clause-fault : goal.returns-in-Err-clause-fault
returns-in-Err-clause-fault c = fault_read _ _ _ _ _ _ _ c.in-Some.ensures.some c.loop-first.invariant c.in-Err.ensures.fault

pub returns-clause-seeds : goal.returns-clause-seeds
returns-clause-seeds c =
    subst (AreSeeds c.args.portfolio.now 2 (map fields_of c.args.records.now)) (sym c.into_seeds.ensures)
    (seeds_read _ _ _ _ c.in_default.ensures.none c.loop-first.invariant)
