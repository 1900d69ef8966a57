use Rattle.std.proofs.Common.{ℕ, arith, List, sym, subst}
use Rattle.std.proofs.lemmas.List.{get_or_default}
use Rattle.y2k_base.specs.declared.place.Span.{Span}
use Rattle.window_modes.specs.Work.{Marks, HasClassIn, AreNumbered}
use Rattle.window_modes.proofs.Classes.{Some_one, marked-more, marked-all}
use Rattle.window_modes.proofs.marks.mark_group.Goals as goal

pub mark_span-requires : goal.mark_span-requires
mark_span-requires c = record { numbered = subst (λ (n : ℕ). AreNumbered c.args.bytes.now.keys c.args.names.now n) (sym c.loop-i.auto.marks) c.requires.numbered }

pub loop-i-preserved : goal.loop-i-preserved
loop-i-preserved c =
    marked-more (HasClassIn c.args.bytes.now.keys c.args.names.now) c.items-spans.result.now c.args.group.now.pivot _ _ _ c.loop-i.i _ (omega arith) (get_or_default c.items-spans.result.now c.loop-i.i _ _ (omega arith)) c.loop-i.invariant c.in_ok-mark_span.ensures

pub returns : goal.returns
returns c =
    subst (λ (spans : List Span). Marks (Some_one (HasClassIn c.args.bytes.now.keys c.args.names.now) spans c.args.group.now.pivot) c.args.group.now.pivot c.args.marks.now c.loop-i.marks) c.items-spans.ensures
    (marked-all (HasClassIn c.args.bytes.now.keys c.args.names.now) c.items-spans.result.now c.args.group.now.pivot _ _ c.loop-i.i (omega arith) c.loop-i.invariant)
