use Rattle.std.proofs.Common.{◌≡◌, ℕ, ◌+◌, ◌++◌, ◌∷◌, [], List, Bor, take, sym, ◌∙◌, ap, subst, arith}
use Rattle.std.proofs.lemmas.List.{take_more}
use Rattle.std.specs.Ordering.{nat_cmp}
use Rattle.std.specs.Cmp.Lexicographic.{slice_cmp}
use Rattle.std.specs.BTreeSet.{insert_key}
use Rattle.cond_reader.specs.Kinds.{IsIndexOf}
use Rattle.cond_reader.proofs.IndexLaws.{index-more}
use Rattle.cond_reader.proofs.kind.index_of.Goals as goal

pub loop-name-preserved : goal.loop-name-preserved
loop-name-preserved c =
    let names = c.items-name-items.result.now in
    let i = c.loop-name.name-index in
    let taken : take (i + 1) names ≡ take i names ++ c.items.result.now ∷ [] =
    take_more names i c.name-item.result (omega arith) ∙ ap (λ (n : List ℕ). take i names ++ n ∷ []) (sym c.name-item.is ∙ sym c.items.ensures) in
    subst (λ (keys : List (Bor (List ℕ))). IsIndexOf keys (λ key. key.now) (take (i + 1) names)) (sym c.in_ok-insert.ensures.keys)
    (subst (λ (ns : List (List ℕ)). IsIndexOf (insert_key (λ (x y : Bor (List ℕ)). slice_cmp nat_cmp x.now y.now) c.loop-name.index.keys c.items.result) (λ key. key.now) ns) (sym taken) (index-more (λ (key : Bor (List ℕ)). key.now) c.loop-name.index.keys (take i names) c.items.result c.loop-name.invariant))
