use Rattle.std.proofs.Common.{◌≡◌, ◌∙◌, ◌*◌, ◌≤◌, List, ℕ, length, arith, sym, subst}
use Rattle.std.specs.Prelude.{IfSome}
use Rattle.std.specs.Option.{option_map}
use Rattle.std.proofs.lemmas.Grind.{div_ceil_times}
use Rattle.shelf.specs.Contents.{bytes_of, appended, MayHaveAppended}
use Rattle.file_convert.specs.Faults.{HasFaultAfter, HasConvertFault, HasLeft}
use Rattle.file_convert.specs.Files.{IsNext}
use Rattle.file_convert.specs.declared.fault.ConvertFault.{ConvertFault}
use Rattle.file_convert.proofs.FileLemmas.{err_carried, tame-next, bytes_told, told_bytes, convert-fault, convert-left, held-next, append-left, held-whole, tame_file, tame_end}
use Rattle.file_convert.proofs.file.convert_records.Goals as goal

pub read_next-requires-clause-size : goal.read_next-requires-clause-size
read_next-requires-clause-size g c =
    told_bytes c.args.cuts.now c.args.name.now c.args.to.now c.requires.apart (λ bs. length bs ≡ c.args.size) c.loop-index.index
    (g.S.Shelf.told c.args.shelf.now) (g.S.Shelf.told c.loop-index.shelf) c.loop-index.invariant.held c.requires.size

pub returns-in_err-whole-clause-cause : goal.returns-in_err-whole-clause-cause
returns-in_err-whole-clause-cause g c =
    let cuts = c.args.cuts.now in
    let name = c.args.name.now in
    let k = c.loop-index.index in
    let start = g.S.Shelf.told c.args.shelf.now in
    let told = g.S.Shelf.told c.loop-index.shelf in
    let fault = c.in_err-whole.field-0.0 in
    err_carried (λ (f : ConvertFault). IfSome start (λ files. HasConvertFault cuts (bytes_of files name) f)) c.from_residual.result fault c.from_residual.ensures.1
    (convert-fault cuts name c.args.to.now c.requires.apart k start fault c.loop-index.invariant.tame
    (bytes_told cuts name c.args.to.now c.requires.apart (λ bs. HasFaultAfter cuts k bs fault) k start told c.loop-index.invariant.held c.in_err-whole.ensures.cause))

pub returns-in_err-whole-clause-left : goal.returns-in_err-whole-clause-left
returns-in_err-whole-clause-left g c =
    let cuts = c.args.cuts.now in
    let name = c.args.name.now in
    let k = c.loop-index.index in
    let start = g.S.Shelf.told c.args.shelf.now in
    let told = g.S.Shelf.told c.loop-index.shelf in
    let fault = c.in_err-whole.field-0.0 in
    err_carried (HasLeft cuts name c.args.to.now start (g.S.Shelf.told c.read_next.new.shelf)) c.from_residual.result fault c.from_residual.ensures.1
    (convert-left cuts name c.args.to.now c.requires.apart k start (g.S.Shelf.told c.read_next.new.shelf) fault c.requires.order.0 (c.in_err-whole.ensures.same ∙ c.loop-index.invariant.held) c.loop-index.invariant.tame
    (bytes_told cuts name c.args.to.now c.requires.apart (λ bs. HasFaultAfter cuts k bs fault) k start told c.loop-index.invariant.held c.in_err-whole.ensures.cause))

pub returns-then-not-whole-clause-ok : goal.returns-then-not-whole-clause-ok
returns-then-not-whole-clause-ok g c =
    let cuts = c.args.cuts.now in
    let name = c.args.name.now in
    let k = c.loop-index.index in
    let start = g.S.Shelf.told c.args.shelf.now in
    let told = g.S.Shelf.told c.loop-index.shelf in
    let img = c.read_next.new.self.image.items in
    let whole = c.in_ok-whole.whole in
    tame_file cuts name k img whole start c.if-not-whole.true c.loop-index.invariant.tame
    (bytes_told cuts name c.args.to.now c.requires.apart (λ bs. IsNext cuts k bs img whole) k start told c.loop-index.invariant.held c.in_ok-whole.ensures.ok)

pub returns-then-not-whole-clause-written : goal.returns-then-not-whole-clause-written
returns-then-not-whole-clause-written g c =
    let cuts = c.args.cuts.now in
    let name = c.args.name.now in
    let k = c.loop-index.index in
    let start = g.S.Shelf.told c.args.shelf.now in
    let told = g.S.Shelf.told c.loop-index.shelf in
    c.in_ok-whole.ensures.same
    ∙ held-whole cuts name c.args.to.now c.requires.apart k start told c.requires.order.0 c.loop-index.invariant.held (returns-then-not-whole-clause-ok g c)

pub returns-in-Err-append-clause-left : goal.returns-in-Err-append-clause-left
returns-in-Err-append-clause-left g c =
    let cuts = c.args.cuts.now in
    let name = c.args.name.now in
    let to = c.args.to.now in
    let k = c.loop-index.index in
    let start = g.S.Shelf.told c.args.shelf.now in
    let told = g.S.Shelf.told c.loop-index.shelf in
    let img = c.read_next.new.self.image.items in
    let whole = c.in_ok-whole.whole in
    let now = g.S.Shelf.told c.append.new.self in
    let before = g.S.Shelf.told c.read_next.new.shelf in
    let P : ConvertFault → Type 0 = λ fault. HasLeft cuts name to start now fault in
    let Q : List ℕ → Type 0 = λ piece. MayHaveAppended to piece before now in
    subst P (sym c.shelf_fault-in-Err-append.ensures)
    (append-left cuts name to c.requires.apart k img whole start before now c.in-Err-append.error c.requires.order.0 c.if-not-whole.false (c.in_ok-whole.ensures.same ∙ c.loop-index.invariant.held) c.loop-index.invariant.tame
    (bytes_told cuts name to c.requires.apart (λ bs. IsNext cuts k bs img whole) k start told c.loop-index.invariant.held c.in_ok-whole.ensures.ok) (subst Q c.image.ensures c.in-Err-append.ensures.err))

pub loop-index-preserved : goal.loop-index-preserved
loop-index-preserved g c =
    let cuts = c.args.cuts.now in
    let name = c.args.name.now in
    let to = c.args.to.now in
    let k = c.loop-index.index in
    let start = g.S.Shelf.told c.args.shelf.now in
    let told = g.S.Shelf.told c.loop-index.shelf in
    let img = c.read_next.new.self.image.items in
    let whole = c.in_ok-whole.whole in
    let now = g.S.Shelf.told c.append.new.self in
    let before = g.S.Shelf.told c.read_next.new.shelf in
    let next = bytes_told cuts name to c.requires.apart (λ bs. IsNext cuts k bs img whole) k start told c.loop-index.invariant.held c.in_ok-whole.ensures.ok in
    let Q : List ℕ → Type 0 = λ piece. now ≡ option_map (appended to piece) before in
    record {
      room = c.in_ok-whole.ensures.kept;
      held = held-next cuts name to c.requires.apart k img whole start before now c.if-not-whole.false (c.in_ok-whole.ensures.same ∙ c.loop-index.invariant.held) next (subst Q c.image.ensures c.in-Ok-append.ensures.ok);
      later = omega (arith, c.loop-index.invariant.later, c.in_ok-whole.ensures.later, c.in-Ok-append.ensures.cause.later);
      tame = tame-next cuts name k img whole start c.if-not-whole.false c.loop-index.invariant.tame next;
    }

pub returns-clause-written : goal.returns-clause-written
returns-clause-written g c =
    let cuts = c.args.cuts.now in
    let name = c.args.name.now in
    let k = c.loop-index.index in
    let start = g.S.Shelf.told c.args.shelf.now in
    let told = g.S.Shelf.told c.loop-index.shelf in
    let P : ℕ → Type 0 = λ rows. c.args.size ≤ rows * cuts.length in
    let bound : c.args.size ≤ c.div_ceil-rows.result * cuts.length = subst P (sym c.div_ceil-rows.ensures) (div_ceil_times c.args.size cuts.length c.requires.order.0).0 in
    held-whole cuts name c.args.to.now c.requires.apart k start told c.requires.order.0 c.loop-index.invariant.held
    (tame_end cuts name k c.args.size c.div_ceil-rows.result start (omega (arith, c.loop-index-test.false)) bound c.requires.size c.loop-index.invariant.tame)
