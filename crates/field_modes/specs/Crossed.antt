-- The words of a MOVE that crosses: its sender goes to a short area, and that area, or a long one with the century, to its
-- receiver.
use Rattle.std.specs.Prelude.{ℕ, ◌+◌, ◌-◌, ◌/◌, ◌%◌, List, [], ◌∷◌, ◌++◌, false, replicate, codes, if◌then◌else◌}
use Rattle.y2k_base.specs.declared.edit.Edit.{Edit}
use Rattle.y2k_base.specs.declared.word.Origin.{Origin}
use Rattle.y2k_base.specs.declared.word.Word.{Word}
use Rattle.y2k_base.specs.declared.word.WordKind.TheVariants as kinds
use Rattle.cobol_syntax.specs.declared.place.Place.{Place}
use Rattle.generated_areas.specs.declared.area.GeneratedArea.{GeneratedArea}
use Rattle.generated_areas.specs.declared.area.GeneratedArea.TheVariants as areas
use Rattle.generated_areas.specs.Areas.{area_name}
use Rattle.statement_places.specs.Parts.{Seen}
use Rattle.statement_words.specs.NewWords.{made, text_words}
use Rattle.statement_words.specs.Groups.{head, receiver}
use Rattle.field_modes.specs.declared.crossing.Crossing.{Crossing}

abbrev pub area_word : Origin → GeneratedArea → List Word
area_word at area = made at kinds.Name (area_name area) ∷ []

abbrev pub digit_of : ℕ → ℕ
digit_of value = 48 + value % 10

-- two digits, and so many zeros behind them
abbrev pub filled : ℕ → ℕ → List ℕ
filled value zeros = digit_of (value / 10) ∷ (digit_of value ∷ replicate zeros 48)

abbrev pub filled_word : Origin → ℕ → ℕ → List Word
filled_word at value zeros = made at kinds.Number (filled value zeros) ∷ []

-- COMPUTE long = short + the first year of the century, at the place of the year
abbrev pub century : Origin → ℕ → ℕ → List Word
century at digits hundreds =
    text_words at (codes "COMPUTE")
    ++ (area_word at (areas.Long digits)
    ++ (text_words at (codes "=")
    ++ (area_word at (areas.Short digits)
    ++ (text_words at (codes "+") ++ filled_word at hundreds digits))))

-- IF short < pivot, the one century ELSE the other END-IF MOVE long
abbrev pub choice : Origin → Crossing → List Word
choice at c =
    text_words at (codes "IF")
    ++ (area_word at (areas.Short c.digits)
    ++ (text_words at (codes "<")
    ++ (filled_word at c.pivot (c.digits - 2)
    ++ (century at c.digits 20
    ++ (text_words at (codes "ELSE")
    ++ (century at c.digits 19 ++ (text_words at (codes "END-IF MOVE") ++ area_word at (areas.Long c.digits))))))))

abbrev pub short_move : Origin → ℕ → List Word
short_move at digits = text_words at (codes "MOVE") ++ area_word at (areas.Short digits)

abbrev pub second : Origin → Crossing → List Word
second at c = if c.windowed then choice at c else short_move at c.digits

-- MOVE sender TO short, and then short, or where the sender is windowed long, TO receiver
abbrev pub crossed : ℕ → List Word → List Edit → List Seen → Place → Crossing → Origin → List Word
crossed program words edits group to c at =
    head program words edits group
    ++ (area_word at (areas.Short c.digits)
    ++ (second at c ++ (text_words at (codes "TO") ++ receiver program words edits to false)))
