-- The rows of items whose PICTURE changes, and their order.
use Rattle.std.specs.Prelude.{ℕ, ◌+◌, Bool, true, false, List, [], ◌∷◌, ◌++◌, drop, codes, slice_get, Option, Some, None, is_some, if◌then◌else◌}
use Rattle.std.specs.declared.cmp.Ordering.{Ordering}
use Rattle.std.specs.Ordering.{nat_cmp, ordering_then}
use Rattle.y2k_base.specs.declared.text.Text.{Text}
use Rattle.y2k_base.specs.declared.word.Word.{Word}
use Rattle.y2k_base.specs.declared.word.WordKind.{WordKind}
use Rattle.y2k_base.specs.declared.word.WordKind.TheVariants as word
use Rattle.cobol_syntax.specs.declared.program.Program.{Program}
use Rattle.data_layout.specs.declared.item.Item.{Item}
use Rattle.data_layout.specs.declared.item.Layout.{Layout}
use Rattle.reports.specs.declared.items.ItemStart.{ItemStart}
use Rattle.reports.specs.Names.{name_text}
use Rattle.reports.specs.Places.{place_text}

abbrev pub is_picture : WordKind → Bool
is_picture word.Name = false
is_picture word.Number = false
is_picture word.Literal = false
is_picture word.Picture = true
is_picture word.Mark = false

-- the first PICTURE word of these words
abbrev pub first_picture : List Word → List ℕ
first_picture [] = []
first_picture (w ∷ words) = if is_picture w.kind then w.text else first_picture words

-- where a word stands; one that isn't there stands nowhere
abbrev pub word_place : List Text → Option Word → List ℕ
word_place texts None = []
word_place texts (Some w) = place_text texts w.origin

abbrev pub item_header : List (List ℕ)
item_header = codes "program" ∷ codes "item" ∷ codes "at" ∷ codes "mode" ∷ codes "old" ∷ codes "new" ∷ []

-- the program, the item, the place of its level number, its mode, its PICTURE word, which is the first after the level
-- number, and the one that stands there after conversion
abbrev pub item_row : List Text → Program → Item → List ℕ → List ℕ → List (List ℕ)
item_row texts program item mode new =
    program.id ∷ name_text item.name ∷ word_place texts (slice_get program.words item.entry_at) ∷ mode
    ∷ first_picture (drop item.entry_at program.words) ∷ new ∷ []

-- by the first byte, and then by the entry
abbrev pub start_cmp : ItemStart → ItemStart → Ordering
start_cmp a b =
    ordering_then (nat_cmp a.area b.area) (ordering_then (nat_cmp a.offset b.offset) (ordering_then (nat_cmp a.program b.program) (nat_cmp a.item b.item)))

abbrev pub start_of : ℕ → ℕ → Item → ItemStart
start_of program number item = record { area = item.span.area.0; offset = item.span.offset; program = program; item = number }

-- the elementary items of a program, the first of which has this number
abbrev pub starts_from : ℕ → ℕ → List Item → List ItemStart
starts_from program number [] = []
starts_from program number (item ∷ items) =
    (if is_some item.picture then start_of program number item ∷ [] else []) ++ starts_from program (number + 1) items

-- those of all programs, the first of which has this number
abbrev pub starts_in : ℕ → List Layout → List ItemStart
starts_in program [] = []
starts_in program (layout ∷ layouts) = starts_from program 0 layout.items ++ starts_in (program + 1) layouts
