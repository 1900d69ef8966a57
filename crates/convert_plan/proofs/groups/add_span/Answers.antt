use Rattle.std.proofs.Common.{◌≤◌, List, Option, length, refl, subst}
use Rattle.data_layout.specs.declared.item.Item.{Item}
use Rattle.data_layout.specs.declared.item.Layout.{Layout}
use Rattle.convert_plan.specs.Groups.{span_if, span_in}
use Rattle.convert_plan.proofs.Found.{adds_found, adds_none}
use Rattle.convert_plan.proofs.groups.add_span.Goals as goal

pub returns-in-None : goal.returns-in-None
returns-in-None c =
    adds_none (λ (found : Option Layout). span_in found c.args.item.item)
    c.args.layouts.now c.args.item.program c.args.spans.now c.in-None.ensures.lookup.3 refl

pub returns-in-None-get : goal.returns-in-None-get
returns-in-None-get c =
    adds_found (λ (found : Option Layout). span_in found c.args.item.item)
    c.args.layouts.now c.args.item.program c.in-Some.layout.now c.args.spans.now c.args.spans.now
    c.in-Some.ensures.lookup.3.0 c.in-Some.ensures.lookup.1
    (adds_none span_if c.in-Some.layout.now.items c.args.item.item c.args.spans.now
    (subst (λ (items : List Item). length items ≤ c.args.item.item) c.items.ensures c.in-None-get.ensures.lookup.3) refl)
