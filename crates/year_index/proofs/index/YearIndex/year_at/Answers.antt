use Rattle.std.proofs.Common.{◌≡◌, List, sym, ◌∙◌, subst}
use Rattle.window_modes.specs.declared.modes.YearMode.{YearMode}
use Rattle.year_index.specs.Years.{covers, ArePlaced}
use Rattle.year_index.proofs.Order.{covers_not_ended, covers_not_later}
use Rattle.year_index.proofs.Found.{found, other, past}
use Rattle.year_index.proofs.index.YearIndex.year_at.Goals as goal
use Rattle.year_index.proofs.index.YearIndex.year_at.Goals.{else-count-modes-via-then-count-modes+else-covers, else-count-modes-via-else-count-modes}

pub returns-then-covers : goal.returns-then-covers
returns-then-covers c =
    let place = c.args.place in
    let list = c.items-modes.result.now in
    let ms = c.args.self.now in
    let same : list ≡ ms = cc in
    let inside : c.self.inside.modes ≡ ms = cc in
    let placed : ArePlaced ms = subst (λ (l : List YearMode). ArePlaced l) inside c.self.invariant in
    found list ms same placed place.area.0 place.offset c.from.result c.ended_by-count.result (covers place) (covers_not_ended place) (covers_not_later place) c.from.ensures c.ended_by-count.ensures.point _ c.if-count-modes.true (sym c.covers.ensures ∙ c.if-covers.true)

pub returns-else-count-modes : goal.returns-else-count-modes
returns-else-count-modes c =
    let place = c.args.place in
    let list = c.items-modes.result.now in
    let ms = c.args.self.now in
    let same : list ≡ ms = cc in
    let inside : c.self.inside.modes ≡ ms = cc in
    let placed : ArePlaced ms = subst (λ (l : List YearMode). ArePlaced l) inside c.self.invariant in
    elim c.else-count-modes.branch [
      | else-count-modes-via-then-count-modes+else-covers w ↦
          other list ms same placed place.area.0 place.offset c.from.result c.ended_by-count.result (covers place) (covers_not_ended place) (covers_not_later place) c.from.ensures c.ended_by-count.ensures.point _ w.if-count-modes.true (sym w.covers.ensures ∙ w.if-covers.false)
      | else-count-modes-via-else-count-modes w ↦
          past list ms same placed place.area.0 place.offset c.from.result c.ended_by-count.result (covers place) (covers_not_ended place) (covers_not_later place) c.from.ensures c.ended_by-count.ensures.point w.if-count-modes.false
    ]
