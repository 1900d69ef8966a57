use Rattle.std.proofs.Common.{List, arith, sym, subst}
use Rattle.std.proofs.lemmas.Option.{slice_get-get_or}
use Rattle.window_modes.specs.declared.index.YearByte.{YearByte}
use Rattle.window_modes.specs.Work.{IsIndexUpTo}
use Rattle.window_modes.proofs.Ranges.{no_years, year_more, index_all}
use Rattle.window_modes.proofs.index.index_years.Goals as goal

pub loop-number-init : goal.loop-number-init
loop-number-init c = subst (λ (ks : List YearByte). IsIndexUpTo c.args.years.now 0 ks) (sym c.new-bytes.ensures.empty) (no_years c.args.years.now)

pub add_bytes-requires : goal.add_bytes-requires
add_bytes-requires c = c.requires c.loop-number.number _ (slice_get-get_or c.args.years.now c.loop-number.number _ (omega arith))

pub loop-number-preserved : goal.loop-number-preserved
loop-number-preserved c =
    year_more c.args.years.now c.loop-number.number _ c.loop-number.bytes.keys _ (slice_get-get_or c.args.years.now c.loop-number.number _ (omega arith)) c.in_ok-add_bytes.ensures c.loop-number.invariant

pub returns : goal.returns
returns c = index_all c.args.years.now c.loop-number.number _ (omega arith) c.loop-number.invariant
