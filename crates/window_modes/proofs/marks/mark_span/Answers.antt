use Rattle.std.proofs.Common.{◌≡◌, ◌<◌, ℕ, length, arith, Contains, get_or, sym, subst}
use Rattle.std.proofs.lemmas.List.Elements.{Contains-get_or}
use Rattle.window_modes.specs.declared.index.YearByte.{YearByte}
use Rattle.window_modes.specs.Work.{Marks}
use Rattle.window_modes.proofs.Classes.{marked-more, marked-all, marked_span}
use Rattle.window_modes.proofs.marks.mark_span.Goals as goal

pub class_of-requires : goal.class_of-requires
class_of-requires c =
    let byte : YearByte = c.index-byte.result.now in
    let found = c.in_ok-found.found.items in
    let at : Contains found byte = subst (λ (b : YearByte). Contains found b) (sym c.index-byte.ensures) (Contains-get_or found c.loop-i.i byte (omega arith)) in
    c.requires.numbered.0 byte ((c.in_ok-found.ensures byte).0 at).0

pub mark_class-requires : goal.mark_class-requires
mark_class-requires c =
    let byte : YearByte = c.index-byte.result.now in
    let found = c.in_ok-found.found.items in
    let at : Contains found byte = subst (λ (b : YearByte). Contains found b) (sym c.index-byte.ensures) (Contains-get_or found c.loop-i.i byte (omega arith)) in
    let low : byte.year < length c.args.names.now = c.requires.numbered.0 byte ((c.in_ok-found.ensures byte).0 at).0 in
    let within : get_or c.args.names.now byte.year 0 < length c.args.marks.now = c.requires.numbered.1.1 byte.year (omega (arith, low, c.requires.numbered.1.0)) in
    omega (arith, within, c.loop-i.auto.marks, c.class_of.ensures)

pub loop-i-preserved : goal.loop-i-preserved
loop-i-preserved c =
    marked-more (λ (b : YearByte) (k : ℕ). k ≡ get_or c.args.names.now b.year 0) c.in_ok-found.found.items c.args.pivot _ _ _ c.loop-i.i c.index-byte.result.now (omega arith) c.index-byte.ensures c.loop-i.invariant
    (subst (λ (n : ℕ). Marks (λ k. k ≡ n) c.args.pivot c.loop-i.marks c.mark_class.new.marks) c.class_of.ensures c.mark_class.ensures)

pub returns : goal.returns
returns c =
    marked_span c.args.bytes.now.keys c.in_ok-found.found.items c.args.names.now c.args.span c.args.pivot _ _ c.in_ok-found.ensures
    (marked-all (λ (b : YearByte) (k : ℕ). k ≡ get_or c.args.names.now b.year 0) c.in_ok-found.found.items c.args.pivot _ _ c.loop-i.i (omega arith) c.loop-i.invariant)
