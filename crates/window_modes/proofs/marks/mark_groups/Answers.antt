use Rattle.std.proofs.Common.{◌≡◌, ◌+◌, ◌++◌, ◌∷◌, [], ◌∙◌, ap, take, ℕ, arith, List, sym, subst}
use Rattle.std.proofs.lemmas.List.{take_more, take_all}
use Rattle.window_modes.specs.declared.modes.WindowGroup.{WindowGroup}
use Rattle.window_modes.specs.Work.{AreMarked, AreNumbered}
use Rattle.window_modes.proofs.Classes.{marked_group}
use Rattle.window_modes.proofs.marks.mark_groups.Goals as goal

pub mark_group-requires : goal.mark_group-requires
mark_group-requires c = record { numbered = subst (λ (n : ℕ). AreNumbered c.args.bytes.now.keys c.args.names.now n) (sym c.loop-group.auto.marks) c.requires.numbered }

pub loop-group-preserved : goal.loop-group-preserved
loop-group-preserved c =
    let groups = c.args.groups.now in
    let group : WindowGroup = c.group-item.result in
    let more : take (c.loop-group.group-index + 1) groups ≡ take c.loop-group.group-index groups ++ group ∷ [] =
    take_more groups c.loop-group.group-index group (omega arith) ∙ ap (λ (g : WindowGroup). take c.loop-group.group-index groups ++ g ∷ []) (sym c.group-item.is) in
    subst (λ (gs : List WindowGroup). AreMarked c.args.bytes.now.keys c.args.names.now gs c.args.marks.now c.mark_group.new.marks) (sym more)
    (marked_group c.args.bytes.now.keys c.args.names.now (take c.loop-group.group-index groups) group _ _ _ c.loop-group.invariant c.in_ok-mark_group.ensures)

pub returns : goal.returns
returns c = subst (λ (gs : List WindowGroup). AreMarked c.args.bytes.now.keys c.args.names.now gs c.args.marks.now c.loop-group.marks) (take_all c.loop-group.group-index c.args.groups.now (omega arith)) c.loop-group.invariant
