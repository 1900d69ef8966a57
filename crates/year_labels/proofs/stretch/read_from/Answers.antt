use Rattle.std.proofs.Common.{◌≡◌, ◌<◌, ◌+◌, arith, length, List, ◌++◌, ◌∷◌, [], take, get_or, sym, ap, ◌∙◌, subst}
use Rattle.std.proofs.lemmas.List.{take_more, take_all, get_or_default}
use Rattle.std.proofs.lemmas.Option.{slice_get_within, get_or_from_slice_get}
use Rattle.year_labels.specs.declared.label.Fact.{Fact}
use Rattle.year_labels.specs.declared.stretch.Stretch.{Stretch}
use Rattle.year_labels.specs.Stretches.{AreStretchesOf, AreRead}
use Rattle.year_labels.proofs.Stretches.{read_first, front_less}
use Rattle.year_labels.proofs.stretch.read_from.Goals as goal

pub loop-i-init : goal.loop-i-init
loop-i-init c =
    let facts = c.args.facts.now in
    let first = c.args.first in
    let low : 0 < length facts = slice_get_within facts 0 first c.requires.first in
    let one : take 1 facts ≡ first ∷ [] = take_more facts 0 first low ∙ ap (λ (f : Fact). f ∷ []) (get_or_from_slice_get facts 0 first first c.requires.first) in
    subst (λ (xs : List Fact). AreRead xs c.new-stretches.result.items c.in_ok-byte.byte) (sym one)
    (subst (λ (ss : List Stretch). AreRead (first ∷ []) ss c.in_ok-byte.byte) (sym c.new-stretches.ensures.items)
    (subst (λ (s : Stretch). AreRead (first ∷ []) [] s) (sym c.in_ok-byte.ensures) (read_first first)))

pub loop-i-preserved : goal.loop-i-preserved
loop-i-preserved c =
    let facts = c.args.facts.now in
    let i = c.loop-i.i in
    let fact : Fact = get_or facts i c.args.first in
    let more : take (i + 1) facts ≡ take i facts ++ fact ∷ [] = take_more facts i c.args.first (omega arith) in
    subst (λ (xs : List Fact). AreRead xs c.read_fact.new.stretches.items c.in_ok-byte-2.byte)
    (sym (more ∙ ap (λ (f : Fact). take i facts ++ f ∷ []) (get_or_default facts i c.args.first _ (omega arith))))
    (c.in_ok-byte-2.ensures (take i facts) c.loop-i.invariant
    (front_less facts i _ c.requires.ordered (omega arith) (get_or_default facts i _ _ (omega arith))))

pub returns : goal.returns
returns c =
    let facts = c.args.facts.now in
    subst (λ (xs : List Fact). AreStretchesOf xs c.add_byte.new.stretches.items) (take_all c.loop-i.i facts (omega arith))
    (c.in_ok-add_byte.ensures (take c.loop-i.i facts) c.loop-i.invariant)
