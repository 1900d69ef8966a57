use Rattle.std.proofs.Common.{◌≡◌, List, [], ◌∷◌, length, Some, option_map, refl, ap, sym, ◌∙◌, suc, rules}
use Rattle.toml.specs.Data.{as_array}
use Rattle.toml.specs.View.{view, array_view, items_view}
use Rattle.toml.specs.declared.value.Value.{Value}
use Rattle.portfolio.specs.Values.{texts}
use Rattle.portfolio.proofs.shape.item_count.Goals as goal

length-texts : (vs : List Value) → length (texts (items_view vs)) ≡ length vs
length-texts [] = refl
length-texts (v ∷ vs) = ap suc (length-texts vs)

pub returns-in-Some : goal.returns-in-Some
returns-in-Some c =
    let found : as_array (view c.args.value.now) ≡ Some (array_view c.in-Some.items.now) = sym c.as_array.ensures ∙ ap (option_map (λ v. array_view v.now)) c.in-Some.is in
    let count : c.len.result ≡ length c.in-Some.items.now.items = search rules in
    rw found (count ∙ sym (length-texts c.in-Some.items.now.items))
