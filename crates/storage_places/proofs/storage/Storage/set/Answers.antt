use Rattle.std.proofs.Common.{◌≡◌, ℕ, ◌+◌, ◌-◌, ◌<◌, ◌≤◌, List, [], length, map, slice_index_or, subst, sym, ap, ◌∙◌, Vec, Global}
use Rattle.std.specs.Vec.{with_items}
use Rattle.std.proofs.lemmas.List.{with_items_is}
use Rattle.byte_lists.specs.Part.{with_part}
use Rattle.storage_places.specs.Held.{held, first, lengths}
use Rattle.storage_places.proofs.HeldLaws.{in-area, inside-area, area-set, lengths-set, there-before, area-there}
use Rattle.storage_places.proofs.storage.Storage.set.Goals as goal

pub set_part-requires : goal.set_part-requires
set_part-requires c =
    let areas : List (Vec ℕ Global) = c.args.self.now.areas.items in
    let k : ℕ = c.args.span.area.0 - c.args.self.now.first.0 in
    let there : k < length (map (λ (v : Vec ℕ Global). v.items) areas) = in-area (held c.args.self.now) (first c.args.self.now) c.args.span c.requires.within in
    let now : c.as_mut_slice.result.now ≡ slice_index_or (held c.args.self.now) k [] =
    c.as_mut_slice.ensures.value ∙ area-there (λ (v : Vec ℕ Global). v.items) areas k c.index_mut-area.result.now c.index_mut-area.ensures.value (there-before (λ (v : Vec ℕ Global). v.items) areas k there) in
    let inside : c.args.span.offset + c.args.span.length ≤ length c.as_mut_slice.result.now =
    subst (λ (bs : List ℕ). c.args.span.offset + c.args.span.length ≤ length bs) (sym now) (inside-area (held c.args.self.now) (first c.args.self.now) c.args.span c.requires.within) in
    record { room = subst (λ (n : ℕ). c.args.span.offset + n ≤ length c.as_mut_slice.result.now) (sym c.requires.length) inside }

pub returns-clause-held : goal.returns-clause-held
returns-clause-held c =
    let areas : List (Vec ℕ Global) = c.args.self.now.areas.items in
    let k : ℕ = c.args.span.area.0 - c.args.self.now.first.0 in
    let there : k < length (map (λ (v : Vec ℕ Global). v.items) areas) = in-area (held c.args.self.now) (first c.args.self.now) c.args.span c.requires.within in
    area-set (λ (v : Vec ℕ Global). v.items) areas k c.index_mut-area.result.now (with_items c.index_mut-area.result.now c.set_part.new.into) (λ (bs : List ℕ). with_part bs c.args.span.offset c.args.bytes.now) c.index_mut-area.ensures.value
    (there-before (λ (v : Vec ℕ Global). v.items) areas k there)
    (with_items_is c.index_mut-area.result.now c.set_part.new.into (c.set_part.ensures.length ∙ c.as_mut_slice.ensures.len) ∙ c.set_part.ensures.part ∙ ap (λ (bs : List ℕ). with_part bs c.args.span.offset c.args.bytes.now) c.as_mut_slice.ensures.value)

pub returns-clause-lengths : goal.returns-clause-lengths
returns-clause-lengths c =
    let areas : List (Vec ℕ Global) = c.args.self.now.areas.items in
    let k : ℕ = c.args.span.area.0 - c.args.self.now.first.0 in
    let there : k < length (map (λ (v : Vec ℕ Global). v.items) areas) = in-area (held c.args.self.now) (first c.args.self.now) c.args.span c.requires.within in
    let now : c.as_mut_slice.result.now ≡ slice_index_or (held c.args.self.now) k [] =
    c.as_mut_slice.ensures.value ∙ area-there (λ (v : Vec ℕ Global). v.items) areas k c.index_mut-area.result.now c.index_mut-area.ensures.value (there-before (λ (v : Vec ℕ Global). v.items) areas k there) in
    ap lengths (area-set (λ (v : Vec ℕ Global). v.items) areas k c.index_mut-area.result.now (with_items c.index_mut-area.result.now c.set_part.new.into) (λ (bs : List ℕ). c.set_part.new.into) c.index_mut-area.ensures.value
    (there-before (λ (v : Vec ℕ Global). v.items) areas k there) (with_items_is c.index_mut-area.result.now c.set_part.new.into (c.set_part.ensures.length ∙ c.as_mut_slice.ensures.len)))
    ∙ lengths-set (held c.args.self.now) k c.set_part.new.into there (c.set_part.ensures.length ∙ ap length now)
