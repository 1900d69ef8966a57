-- New words, and words that are looked for.
use Rattle.std.specs.Prelude.{ℕ, suc, ◌==◌, ◌&&◌, ◌||◌, Bool, true, false, leb, List, [], ◌∷◌, map, filter, Option, Some, None, option_map, codes, bytes_eq, if◌then◌else◌}
use Rattle.std.specs.List.{list_all, list_any, slice_split}
use Rattle.y2k_base.specs.declared.word.Origin.{Origin}
use Rattle.y2k_base.specs.declared.word.Word.{Word}
use Rattle.y2k_base.specs.declared.word.WordKind.{WordKind}
use Rattle.y2k_base.specs.declared.word.WordKind.TheVariants as kinds

-- a word that stands for what was at that origin
abbrev pub made : Origin → WordKind → List ℕ → Word
made origin kind text = record { text = text; kind = kind; origin = origin }

abbrev pub is_digit : ℕ → Bool
is_digit byte = leb 48 byte && leb byte 57

abbrev pub is_letter : ℕ → Bool
is_letter byte = leb 65 byte && leb byte 90

abbrev pub begins_name : List ℕ → Bool
begins_name [] = false
begins_name (byte ∷ bytes) = is_letter byte || is_digit byte

-- digits alone are a number, what begins with a letter or a digit is a name, and all else a mark
abbrev pub kind_of : List ℕ → WordKind
kind_of text = if list_all is_digit text then kinds.Number else (if begins_name text then kinds.Name else kinds.Mark)

abbrev pub word_of : Origin → List ℕ → Word
word_of origin text = made origin (kind_of text) text

abbrev pub is_blank : ℕ → Bool
is_blank byte = byte == 32

abbrev pub is_some_text : List ℕ → Bool
is_some_text [] = false
is_some_text (byte ∷ bytes) = true

-- a word that ends, if it has begun
abbrev pub ended : Origin → List ℕ → List Word
ended origin [] = []
ended origin (byte ∷ bytes) = word_of origin (byte ∷ bytes) ∷ []

-- what stands between blanks
abbrev pub spelled : List ℕ → List (List ℕ)
spelled text = filter is_some_text (slice_split is_blank text)

abbrev pub text_words : Origin → List ℕ → List Word
text_words origin text = map (word_of origin) (spelled text)

abbrev pub is_name_kind : WordKind → Bool
is_name_kind kinds.Name = true
is_name_kind kinds.Number = false
is_name_kind kinds.Literal = false
is_name_kind kinds.Picture = false
is_name_kind kinds.Mark = false

abbrev pub is_name : List ℕ → Word → Bool
is_name name word = is_name_kind word.kind && bytes_eq word.text name

-- the position of the first word that is the name
abbrev pub name_at : List ℕ → List Word → Option ℕ
name_at name [] = None
name_at name (word ∷ words) = if is_name name word then Some 0 else option_map suc (name_at name words)

-- a position that 32 bits can say
abbrev pub narrow : ℕ → Option ℕ
narrow position = if leb position 4294967295 then Some position else None

abbrev pub narrowed : Option ℕ → Option ℕ
narrowed None = None
narrowed (Some position) = narrow position

abbrev pub procedure_at : List Word → Option ℕ
procedure_at words = narrowed (name_at (codes "PROCEDURE") words)

abbrev pub has_storage : List Word → Bool
has_storage words = list_any (is_name (codes "WORKING-STORAGE")) words
