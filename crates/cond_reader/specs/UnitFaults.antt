-- The faults of what has no reading.
use Rattle.std.specs.Prelude.{ℕ, ◌+◌, ◌-◌, Bool, nat_lt, if◌then◌else◌, List, [], ◌∷◌, length, drop, Option, Some, None, slice_get}
use Rattle.std.specs.List.{list_any}
use Rattle.y2k_base.specs.declared.word.Word.{Word}
use Rattle.y2k_base.specs.declared.word.Origin.{Origin}
use Rattle.cond_reader.specs.declared.symbol.Symbol.{Symbol}
use Rattle.cond_reader.specs.declared.symbol.Symbol.TheVariants as s
use Rattle.cond_reader.specs.declared.kind.Kind.{Kind}
use Rattle.cond_reader.specs.declared.fault.UnitFault.{UnitFault}
use Rattle.cond_reader.specs.declared.fault.UnitFault.TheVariants as fault
use Rattle.cond_reader.specs.Symbols.{same_symbol}
use Rattle.cond_reader.specs.Text.{Text}

abbrev pub is_period : Kind → Bool
is_period k = same_symbol k.symbol s.Period

-- how many levels a word may open: one if it is a parenthesis, IF, EVALUATE, PERFORM, READ or ERROR
abbrev pub opening_of : Symbol → ℕ
opening_of s.Open = 1
opening_of s.Nest = 1
opening_of _ = 0

abbrev pub opening : Kind → ℕ
opening k = opening_of k.symbol

-- how many levels the words up to the first period mark may open
abbrev pub openings : List Kind → ℕ
openings [] = 0
openings (k ∷ ks) = if is_period k then 0 else opening k + openings ks

unfoldable pub has_period : List Kind → Bool
has_period ks = list_any is_period ks

abbrev pub origin_of : Option Word → Origin
origin_of (Some word) = word.origin
origin_of None = record { file = record { 0 = 0 }; line = 1; column = 1 }

-- where the word at a position begins
unfoldable pub origin : List Word → ℕ → Origin
origin words i = origin_of (slice_get words i)

-- the fault at a place, where this many words of the unit may open a level
abbrev pub shape_or_depth : ℕ → Origin → UnitFault
shape_or_depth count at = if nat_lt 64 count then fault.NestDeep at else fault.UnitShape at

-- the fault at the word at a position, by the words from there to the next period mark, or to the end
unfoldable pub fault_at : Text → ℕ → UnitFault
fault_at t i = shape_or_depth (openings (drop i t.kinds)) (origin t.words i)

-- the fault of the unit that begins at a position; where no period mark is left, no unit begins there, and the last word is named
unfoldable pub unit_fault : Text → ℕ → UnitFault
unit_fault t i = if has_period (drop i t.kinds) then fault_at t i else fault.UnitShape (origin t.words (length t.words - 1))
