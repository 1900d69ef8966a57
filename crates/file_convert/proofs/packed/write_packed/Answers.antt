use Rattle.std.proofs.Common.{◌/◌, sym, ◌∙◌, arith}
use Rattle.year_image.specs.Packing.{year_at}
use Rattle.file_convert.proofs.PackedLemmas.{write_even, write_odd, write_other}
use Rattle.file_convert.proofs.packed.write_packed.Goals as goal

pub returns-then-year-eq0 : goal.returns-then-year-eq0
returns-then-year-eq0 c =
    write_even c.args.digits c.args.unit c.args.bytes.now c.args.into.now c.copy_at.new.into c.copy_at-then-year-eq0.new.into c.copy_at-then-year-eq0-2.new.into c.args.at (year_at c.args.digits c.args.unit / 2)
    c.requires.fits (sym c.holds_packed.ensures ∙ c.if-holds_packed.true) c.requires.long (omega arith) c.requires.room c.copy_at.ensures c.copy_at-then-year-eq0.ensures c.copy_at-then-year-eq0-2.ensures

pub returns-else-year-eq0 : goal.returns-else-year-eq0
returns-else-year-eq0 c =
    write_odd c.args.digits c.args.unit c.args.bytes.now c.args.into.now c.copy_at.new.into c.copy_at-else-year-eq0.new.into c.copy_at-else-year-eq0-2.new.into c.args.at (year_at c.args.digits c.args.unit / 2)
    c.requires.fits (sym c.holds_packed.ensures ∙ c.if-holds_packed.true) c.requires.long (omega arith) c.requires.room c.copy_at.ensures c.copy_at-else-year-eq0.ensures c.copy_at-else-year-eq0-2.ensures

pub returns-else-holds_packed : goal.returns-else-holds_packed
returns-else-holds_packed c =
    write_other c.args.digits c.args.unit c.args.bytes.now c.args.into.now c.copy_at-else-holds_packed.new.into c.copy_at-else-holds_packed-2.new.into c.args.at
    (sym c.holds_packed.ensures ∙ c.if-holds_packed.false) c.requires.room c.copy_at-else-holds_packed.ensures c.copy_at-else-holds_packed-2.ensures
