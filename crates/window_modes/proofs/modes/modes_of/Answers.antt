use Rattle.std.proofs.Common.{◌≡◌, ◌<◌, ℕ, length, arith, get_or, List, sym, subst, None, false}
use Rattle.window_modes.specs.declared.marks.Mark.{Mark}
use Rattle.std.proofs.lemmas.List.{get_or_default}
use Rattle.window_modes.specs.declared.modes.YearMode.{YearMode}
use Rattle.window_modes.specs.Work.{AreOfMarks}
use Rattle.window_modes.proofs.Classes.{none_of_marks, of_marks_more}
use Rattle.window_modes.proofs.modes.modes_of.Goals as goal

pub loop-number-init : goal.loop-number-init
loop-number-init c = subst (λ (ms : List YearMode). AreOfMarks c.args.years.now c.args.classes.now c.args.marks.now 0 ms) (sym c.new-modes.ensures) (none_of_marks c.args.years.now c.args.classes.now c.args.marks.now)

pub loop-number-preserved : goal.loop-number-preserved
loop-number-preserved c =
    let number = c.loop-number.number in
    let class : ℕ = get_or c.args.classes.now number 0 in
    let within : class < length c.args.marks.now = omega (arith, c.requires.within.1 number (omega arith), c.requires.long) in
    let mark : Mark = get_or c.args.marks.now class (record { pivot = None; clash = false }) in
    of_marks_more c.args.years.now c.args.classes.now c.args.marks.now number c.loop-number.modes _ _ mark c.in_ok-push.ensures.ok
    (get_or_default c.args.years.now number _ _ (omega arith)) (get_or_default c.args.marks.now class (record { pivot = None; clash = false }) mark within) (omega arith) within c.loop-number.invariant

pub returns : goal.returns
returns c =
    let all : c.loop-number.number ≡ length c.args.years.now = omega arith in
    subst (λ (n : ℕ). AreOfMarks c.args.years.now c.args.classes.now c.args.marks.now n c.loop-number.modes) all c.loop-number.invariant
