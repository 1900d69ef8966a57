-- Where an occurrence of an item stands: the i-th of an OCCURS lies i - 1 times the bytes of one behind the first.
use Rattle.std.specs.Prelude.{ℕ, ◌+◌, ◌-◌, ◌*◌, ◌&&◌, nat_le, List, [], ◌∷◌, Option, Some, None, if◌then◌else◌}
use Rattle.std.specs.Option.{option_map}
use Rattle.y2k_base.specs.declared.place.Span.{Span}
use Rattle.data_layout.specs.declared.item.Item.{Item}
use Rattle.data_layout.specs.declared.item.Step.{Step}

-- how far behind the first occurrence these subscripts lead, if there is one for each OCCURS and each names an
-- occurrence
abbrev pub offset_by : List Step → List ℕ → Option ℕ
offset_by [] [] = Some 0
offset_by [] (i ∷ subscripts) = None
offset_by (step ∷ steps) [] = None
offset_by (step ∷ steps) (i ∷ subscripts) =
    if nat_le 1 i && nat_le i step.count
    then option_map (λ (n : ℕ). (i - 1) * step.size + n) (offset_by steps subscripts)
    else None

-- the bytes of an occurrence
abbrev pub occurrence : Item → List ℕ → Option Span
occurrence item subscripts = option_map
    (λ (n : ℕ). record { area = item.span.area; offset = item.span.offset + n; length = item.span.length })
    (offset_by item.steps subscripts)
