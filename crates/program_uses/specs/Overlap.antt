-- Whether two identifiers can have a byte in common. A number as subscript means one occurrence, and a data name
-- stands for each. A reference isn't cut out: with one an identifier is a text, which arithmetic refuses by itself.
use Rattle.std.specs.Prelude.{ℕ, ◌+◌, ◌-◌, ◌*◌, ◌^◌, ◌==◌, nat_lt, zero, suc, Bool, false, not, ◌||◌, ◌&&◌, List, [], ◌∷◌, Option, Some, None, if◌then◌else◌, slice_get}
use Rattle.cobol_syntax.specs.declared.place.Place.{Place}
use Rattle.cobol_syntax.specs.declared.place.Sub.{Sub}
use Rattle.cobol_syntax.specs.declared.place.Sub.TheVariants as sub
use Rattle.cobol_syntax.specs.declared.expr.Operand.{Operand}
use Rattle.cobol_syntax.specs.declared.expr.Operand.TheVariants as operand
use Rattle.cobol_syntax.specs.declared.expr.Expr.{Expr, Expr-F, fold-Expr}
use Rattle.cobol_syntax.specs.declared.expr.Expr.TheOpen as e
use Rattle.data_layout.specs.declared.item.Item.{Item}
use Rattle.data_layout.specs.declared.item.Step.{Step}
use Rattle.data_layout.specs.declared.item.Layout.{Layout}
use Rattle.data_layout.specs.declared.found.Found.{Found}
use Rattle.data_layout.specs.declared.found.Found.TheVariants as found
use Rattle.data_layout.specs.Find.{meaning}
use Rattle.program_uses.specs.declared.beside.Beside.{Beside}
use Rattle.program_uses.specs.declared.overlap.Stretch.{Stretch}

-- whether P holds of some number below the count
abbrev pub some_below : ℕ → (ℕ → Bool) → Bool
some_below zero P = false
some_below (suc n) P = some_below n P || P n

-- a place in an area has 32 bits
abbrev pub small : ℕ → Option ℕ
small n = if nat_lt n (2 ^ 32) then Some n else None

abbrev pub holds_at : (ℕ → Bool) → Option ℕ → Bool
holds_at P None = false
holds_at P (Some n) = P n

-- whether P holds of where some occurrence begins that the subscripts can mean, the first one beginning at `start`
abbrev pub some_occurrence : (ℕ → Bool) → List Step → List Sub → ℕ → Bool
some_occurrence P [] [] start = P start
some_occurrence P [] (one ∷ subs) start = false
some_occurrence P (step ∷ steps) [] start = false
some_occurrence P (step ∷ steps) (sub.Number value at ∷ subs) start =
    holds_at (some_occurrence P steps subs) (small (start + (value - 1) * step.size))
some_occurrence P (step ∷ steps) (sub.Name names ∷ subs) start =
    some_below step.count (λ (k : ℕ). holds_at (some_occurrence P steps subs) (small (start + k * step.size)))

-- so many bytes from a place on have one in common with the stretch
abbrev pub meet : Stretch → ℕ → ℕ → Bool
meet one start length = nat_lt one.start (start + length) && nat_lt start (one.start + one.length)

-- some occurrence of the item has a byte of the stretch
abbrev pub occurrence_meets : Stretch → Item → List Sub → Bool
occurrence_meets one item subs =
    some_occurrence (λ (start : ℕ). meet one start item.span.length) item.steps subs item.span.offset

abbrev pub stretch : ℕ → ℕ → Stretch
stretch length start = record { start = start; length = length }

-- some occurrence of the one has a byte of some occurrence of the other
abbrev pub items_meet : Item → List Sub → Item → List Sub → Bool
items_meet one subs other others =
    one.span.area.0 == other.span.area.0
    && some_occurrence (λ (start : ℕ). occurrence_meets (stretch one.span.length start) other others) one.steps subs one.span.offset

abbrev pub found_item : Layout → Found → Option Item
found_item layout (found.Item number) = slice_get layout.items number
found_item layout (found.Named number) = None
found_item layout found.Unknown = None
found_item layout found.Twice = None

abbrev pub item_of : Layout → Place → Option Item
item_of layout place = found_item layout (meaning layout place.names)

abbrev pub both_meet : Option Item → List Sub → Option Item → List Sub → Bool
both_meet None subs other others = false
both_meet (Some one) subs None others = false
both_meet (Some one) subs (Some other) others = items_meet one subs other others

-- two identifiers of items that have a byte in common
abbrev pub places_meet : Layout → Place → Place → Bool
places_meet layout one other = both_meet (item_of layout one) one.subs (item_of layout other) other.subs

-- an operand is written apart from the receiver where it stands at another word
abbrev pub operand_meets : Layout → Operand → Place → Bool
operand_meets layout (operand.Place place) to = not (place.at == to.at) && places_meet layout to place
operand_meets layout (operand.Number value digits at) to = false
operand_meets layout (operand.Text bytes at) to = false
operand_meets layout (operand.Figure byte at) to = false

abbrev pub meets_layer : Layout → Expr-F (Place → Bool) → Place → Bool
meets_layer layout (e.One x) to = operand_meets layout x to
meets_layer layout (e.Minus x) to = x to
meets_layer layout (e.Add x y) to = x to || y to
meets_layer layout (e.Sub x y) to = x to || y to
meets_layer layout (e.Mul x y) to = x to || y to
meets_layer layout (e.Div x y) to = x to || y to

-- an operand of an expression overlaps the receiver
abbrev pub meets : Layout → Expr → Place → Bool
meets layout = fold-Expr (Place → Bool) (meets_layer layout)

-- one of several receivers overlaps no operand
abbrev pub beside_apart : Layout → ℕ → Place → Expr → Beside
beside_apart layout owner to value = record { at = owner; right = not (meets layout value to) }

-- how many occurrences a subscript leads past the first at most
abbrev pub most_past : Step → Sub → ℕ
most_past step (sub.Number value at) = value - 1
most_past step (sub.Name names) = step.count - 1

-- how far behind the first occurrence the last one lies
abbrev pub reach : List Step → List Sub → ℕ
reach [] subs = 0
reach (step ∷ steps) [] = 0
reach (step ∷ steps) (one ∷ subs) = reach steps subs + most_past step one * step.size
