use Rattle.std.proofs.Common.{◌≡◌, ◌⊎◌, ◌↔◌, ℕ, arith, subst, Contains}
use Rattle.year_pairs.specs.Years.{place_after}
use Rattle.window_modes.specs.declared.index.YearByte.{YearByte}
use Rattle.window_modes.specs.Work.{HasBytesUpTo, year_width, byte_at}
use Rattle.window_modes.proofs.Ranges.{no_bytes, byte_more}
use Rattle.window_modes.proofs.index.add_bytes.Goals as goal

pub loop-index-init : goal.loop-index-init
loop-index-init c = no_bytes c.args.year c.args.number c.args.bytes.now.keys

pub loop-index-preserved : goal.loop-index-preserved
loop-index-preserved c = byte_more c.args.year c.args.number c.loop-index.index c.args.bytes.now.keys c.loop-index.bytes.keys _
    (subst (λ (n : ℕ). (d : YearByte) → Contains c.insert_byte.new.bytes.keys d ↔ (Contains c.loop-index.bytes.keys d ⊎ (byte_at (place_after c.args.year.place n) c.args.number ≡ d))) c.from.ensures c.in_ok-insert_byte.ensures) c.loop-index.invariant

pub returns : goal.returns
returns c =
    let all : c.loop-index.index ≡ year_width c.args.year = omega arith in
    subst (λ (n : ℕ). HasBytesUpTo c.args.year n c.args.number c.args.bytes.now.keys c.loop-index.bytes.keys) all c.loop-index.invariant
