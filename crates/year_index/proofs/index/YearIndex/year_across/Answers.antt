use Rattle.std.proofs.Common.{◌≡◌, List, sym, ◌∙◌, subst}
use Rattle.window_modes.specs.declared.modes.YearMode.{YearMode}
use Rattle.year_index.specs.Years.{goes_across, ArePlaced}
use Rattle.year_index.proofs.Order.{across_not_ended, across_not_later}
use Rattle.year_index.proofs.Found.{found, other, past}
use Rattle.year_index.proofs.index.YearIndex.year_across.Goals as goal
use Rattle.year_index.proofs.index.YearIndex.year_across.Goals.{else-count-modes-via-then-count-modes+else-goes_across, else-count-modes-via-else-count-modes}

pub returns-then-goes_across : goal.returns-then-goes_across
returns-then-goes_across c =
    let place = c.args.place in
    let list = c.items-modes.result.now in
    let ms = c.args.self.now in
    let same : list ≡ ms = cc in
    let inside : c.self.inside.modes ≡ ms = cc in
    let placed : ArePlaced ms = subst (λ (l : List YearMode). ArePlaced l) inside c.self.invariant in
    found list ms same placed place.area.0 place.offset c.from.result c.ended_by-count.result (goes_across place) (across_not_ended place) (across_not_later place) c.from.ensures c.ended_by-count.ensures.point _ c.if-count-modes.true (sym c.goes_across.ensures ∙ c.if-goes_across.true)

pub returns-else-count-modes : goal.returns-else-count-modes
returns-else-count-modes c =
    let place = c.args.place in
    let list = c.items-modes.result.now in
    let ms = c.args.self.now in
    let same : list ≡ ms = cc in
    let inside : c.self.inside.modes ≡ ms = cc in
    let placed : ArePlaced ms = subst (λ (l : List YearMode). ArePlaced l) inside c.self.invariant in
    elim c.else-count-modes.branch [
      | else-count-modes-via-then-count-modes+else-goes_across w ↦
          other list ms same placed place.area.0 place.offset c.from.result c.ended_by-count.result (goes_across place) (across_not_ended place) (across_not_later place) c.from.ensures c.ended_by-count.ensures.point _ w.if-count-modes.true (sym w.goes_across.ensures ∙ w.if-goes_across.false)
      | else-count-modes-via-else-count-modes w ↦
          past list ms same placed place.area.0 place.offset c.from.result c.ended_by-count.result (goes_across place) (across_not_ended place) (across_not_later place) c.from.ensures c.ended_by-count.ensures.point w.if-count-modes.false
    ]
