use Rattle.std.proofs.Common.{◌∙◌, Option, subst, arith}
use Rattle.shelf.specs.Contents.{Files}
use Rattle.file_convert.proofs.FileLemmas.{IsNextTold, tame-next}
use Rattle.file_convert.proofs.file.check_records.Goals as goal

pub loop-index-preserved : goal.loop-index-preserved
loop-index-preserved g c =
    let cuts = c.args.cuts.now in
    let name = c.args.name.now in
    let k = c.loop-index.index in
    let start = g.S.Shelf.told c.args.shelf.now in
    let img = c.read_next.new.self.image.items in
    let P : Option Files → Type 0 = λ told. IsNextTold cuts name k told img c.in_ok-whole.whole in
    record {
      room = c.read_next.ensures.kept;
      same = c.read_next.ensures.same ∙ c.loop-index.invariant.same;
      later = omega (arith, c.read_next.ensures.later, c.loop-index.invariant.later);
      tame = tame-next cuts name k img c.in_ok-whole.whole start c.if-not-whole.false c.loop-index.invariant.tame (subst P c.loop-index.invariant.same c.in_ok-whole.ensures.ok);
    }
