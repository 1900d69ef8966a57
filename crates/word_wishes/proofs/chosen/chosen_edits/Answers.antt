use Rattle.std.proofs.Common.{◌≡◌, List, [], subst}
use Rattle.y2k_base.specs.declared.edit.Edit.{Edit}
use Rattle.word_wishes.specs.Walk.{edits_from}
use Rattle.word_wishes.proofs.WalkLaws.{chosen-are}
use Rattle.word_wishes.proofs.chosen.chosen_edits.Goals as goal

pub returns : goal.returns
returns c =
    chosen-are c.args.programs.now c.args.wishes _ _ _ c.in_ok-ordered.ensures
    (subst (λ (xs : List Edit). c.in_ok-edits.edits ≡ edits_from c.args.programs.now [] xs) c.items.ensures c.in_ok-edits.ensures)
    c.in_ok-edits-2.ensures
