-- Where words stand among the words of a program.
use Rattle.std.specs.Prelude.{ℕ, ◌+◌, ◌-◌, Bool, true, false, ◌&&◌, ◌==◌, List, [], ◌∷◌, drop, codes, slice_get, Option, Some, None, if◌then◌else◌}
use Rattle.std.specs.Str.{bytes_eq}
use Rattle.y2k_base.specs.declared.word.Word.{Word}
use Rattle.y2k_base.specs.declared.word.WordKind.{WordKind}
use Rattle.y2k_base.specs.declared.word.WordKind.TheVariants as kinds
use Rattle.word_wishes.specs.declared.positions.Sought.{Sought}
use Rattle.word_wishes.specs.declared.positions.Sought.TheVariants as sought

abbrev pub is_mark : WordKind → Bool
is_mark kinds.Name = false
is_mark kinds.Number = false
is_mark kinds.Literal = false
is_mark kinds.Picture = false
is_mark kinds.Mark = true

abbrev pub is_picture : WordKind → Bool
is_picture kinds.Name = false
is_picture kinds.Number = false
is_picture kinds.Literal = false
is_picture kinds.Picture = true
is_picture kinds.Mark = false

-- that mark
abbrev pub is_the_mark : List ℕ → Word → Bool
is_the_mark text word = is_mark word.kind && bytes_eq word.text text

abbrev pub is_sought : Sought → Word → Bool
is_sought sought.Picture word = is_picture word.kind
is_sought sought.Colon word = is_the_mark (codes ":") word

-- the number of the first such word, where the first of the words has that number
abbrev pub first_from : (Word → Bool) → ℕ → List Word → Option ℕ
first_from holds n [] = None
first_from holds n (word ∷ words) = if holds word then Some n else first_from holds (n + 1) words

abbrev pub position_from : Sought → List Word → ℕ → Option ℕ
position_from what words at = first_from (is_sought what) at (drop at words)

-- the start of a reference is one word, and its colon stands right behind it
abbrev pub start_before : ℕ → Option ℕ
start_before colon = if colon == 0 then None else Some (colon - 1)

abbrev pub length_at : ℕ → Option Word → Option ℕ
length_at position None = None
length_at position (Some word) = if is_the_mark (codes ")") word then None else Some position

-- the length, if it is written
abbrev pub length_behind : List Word → ℕ → Option ℕ
length_behind words colon = length_at (colon + 1) (slice_get words (colon + 1))
