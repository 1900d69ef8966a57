use Rattle.std.proofs.Common.{◌≡◌, ◌∙◌, ℕ, List, length, arith, sym, subst, None, false, replicate}
use Rattle.std.proofs.lemmas.List.{take_at}
use Rattle.window_modes.specs.declared.marks.Mark.{Mark}
use Rattle.window_modes.specs.Work.{AreMarked, AreWithin}
use Rattle.window_modes.proofs.Found.{numbered}
use Rattle.window_modes.proofs.Classes.{blank_marks}
use Rattle.window_modes.proofs.modes.marked_modes.Goals as goal

pub mark_groups-requires : goal.mark_groups-requires
mark_groups-requires c =
    let count : length c.args.years.now ≡ length c.deref_mut.result.now = omega (arith, c.in_ok-marks.ensures.len) in
    record {
      numbered = (
        λ b at. omega (arith, numbered c.args.years.now c.args.bytes.now.keys c.requires.indexed b at, c.requires.within.0),
        subst (λ (n : ℕ). AreWithin c.args.classes.now n) count c.requires.within,
      );
    }

pub returns : goal.returns
returns c =
    let marks = c.in_ok-marks.marks.items in
    let late = c.mark_groups.new.marks in
    let blank : Mark = record { pivot = None; clash = false } in
    let fill : marks ≡ replicate (length c.args.years.now) blank = c.in_ok-marks.ensures.items_if_clones_equal (λ y e. e) in
    let same : length late ≡ c.in_ok-marks.marks.len = omega arith in
    let value : c.deref.result.now ≡ late = c.deref.ensures.value ∙ take_at late _ _ same in
    let marked : AreMarked c.args.bytes.now.keys c.args.classes.now c.args.groups.now marks c.deref.result.now =
    subst (λ (ms : List Mark). AreMarked c.args.bytes.now.keys c.args.classes.now c.args.groups.now marks ms) (sym value)
    (subst (λ (ms : List Mark). AreMarked c.args.bytes.now.keys c.args.classes.now c.args.groups.now ms late) c.deref_mut.ensures.value c.in_ok-mark_groups.ensures) in
    (marks, c.deref.result.now, omega (arith, c.in_ok-marks.ensures.len), blank_marks marks (length c.args.years.now) fill, marked, c.in_ok-modes.ensures)
