-- What programs read as before and after their texts are edited, and where that is not what their edits ask for.
use Rattle.std.specs.Prelude.{◌≡◌, ℕ, ◌+◌, List, [], ◌∷◌, ◌++◌, map, Option, Some, None, slice_get, if◌then◌else◌}
use Rattle.y2k_base.specs.declared.edit.WordPlace.{WordPlace}
use Rattle.y2k_base.specs.declared.text.Text.{Text}
use Rattle.y2k_base.specs.declared.text.TextRole.{TextRole}
use Rattle.y2k_base.specs.declared.text.TextRole.TheVariants as role
use Rattle.y2k_base.specs.declared.word.FileId.{FileId}
use Rattle.y2k_base.specs.declared.word.Origin.{Origin}
use Rattle.y2k_base.specs.declared.word.Word.{Word}
use Rattle.copy_origins.specs.Expansion.{IsExpansion}
use Rattle.copy_origins.specs.declared.books.Book.{Book}
use Rattle.fixed_format.specs.Columns.{lines}
use Rattle.fixed_format.specs.Joined.{words_in, faults_in}
use Rattle.fixed_format.specs.declared.fault.Fault.{Fault}
use Rattle.plan_limits.specs.declared.limit.Limit.{Limit}
use Rattle.source_edit.specs.declared.expansion.Source.{Source}
use Rattle.source_edit.specs.declared.expansion.Sources.{Sources}
use Rattle.source_edit.specs.Rows.{last_of}
use Rattle.source_edit.specs.Clashes.{same_count, are_alike, clash, first_difference, text_at}

abbrev pub if_whole : List Fault → List Word → Option (List Word)
if_whole [] words = Some words
if_whole (f ∷ fs) words = None

-- the words of a text without a fault
abbrev pub words_read : FileId → List ℕ → Option (List Word)
words_read file text = if_whole (faults_in (lines text)) (words_in file (lines text))

abbrev pub with_book : Sources → List ℕ → Option (List Word) → Sources
with_book sources key None = sources
with_book sources key (Some words) =
    record { books = record { list = sources.books.list ++ record { key = key; words = words } ∷ [] }; programs = sources.programs }

abbrev pub with_words : TextRole → Sources → FileId → List ℕ → Option (List Word) → Sources
with_words role.Book sources file key words = with_book sources key words
with_words role.Program sources file key words =
    record { books = sources.books; programs = sources.programs ++ record { file = file; words = words } ∷ [] }

abbrev pub with_text : Sources → FileId → Text → Sources
with_text sources file text = with_words text.role sources file text.key (words_read file text.bytes)

abbrev pub with_texts : Sources → ℕ → List Text → Sources
with_texts sources n [] = sources
with_texts sources n (text ∷ texts) = with_texts (with_text sources (record { 0 = n }) text) (n + 1) texts

-- The words of texts: the copybooks without a fault in their lines, and the programs. A text is the file of its number.
abbrev pub sources_of : List Text → Sources
sources_of texts = with_texts (record { books = record { list = [] }; programs = [] }) 0 texts

-- the words expand to these, or have no expansion
abbrev pub Expands : List Word → List Book → Option (List Word) → Type 0
Expands words books (Some expanded) = IsExpansion words books expanded × ((other : List Word) → IsExpansion words books other → other ≡ expanded)
Expands words books None = (other : List Word) → IsExpansion words books other → ⊥

-- a text with these words, or with a fault, reads as these words with its copybooks, or as none
abbrev pub ReadsWith : Option (List Word) → List Book → Option (List Word) → Type 0
ReadsWith None books read = read ≡ None
ReadsWith (Some words) books read = Expands words books read

-- words at the origin of the word that they stand for
abbrev pub standing : Origin → List Word → List Word
standing origin words = map (λ w. record { text = w.text; kind = w.kind; origin = origin }) words

-- what stands for a word
abbrev pub stands : Word → Option (List Word) → List Word
stands word None = word ∷ []
stands word (Some words) = standing word.origin words

-- what a program is to read as, from a position on: each new word is at the origin of the word that it stands for
abbrev pub edited : (WordPlace → Option (List Word)) → ℕ → ℕ → List Word → List Word
edited replacement program n [] = []
edited replacement program n (w ∷ ws) =
    stands w (replacement (record { program = program; position = n })) ++ edited replacement program (n + 1) ws

abbrev pub origin_of : Option Word → Origin → Origin
origin_of None other = other
origin_of (Some word) other = word.origin

-- the origin of the last word, or the begin of a text without words
abbrev pub last_origin : List Word → FileId → Origin
last_origin words file = origin_of (last_of words) (record { file = file; line = 1; column = 1 })

-- the origin of the original word in whose place a word stands, or of the original's last word
abbrev pub origin_at : List Word → ℕ → List Word → FileId → Origin
origin_at words i original file = origin_of (slice_get words i) (last_origin original file)

abbrev pub difference : FileId → List Word → List Word → List Word → List Limit
difference file original wanted read =
    if are_alike wanted read then [] else first_difference (origin_at wanted (same_count wanted read) original file) wanted read ∷ []

-- a program clashes where it reads as other words than it is to read as, or as none
abbrev pub clash_between : FileId → List Word → List Word → Option (List Word) → List Limit
clash_between file original wanted None = clash (origin_at wanted 0 original file) (text_at wanted 0) [] ∷ []
clash_between file original wanted (Some read) = difference file original wanted read

-- what a program reads as before and after, and the clash that it has or not
pub record HasClashes (replacement : WordPlace → Option (List Word)) (program : ℕ) (old : Source) (old_books : List Book) (new : Source) (new_books : List Book) (clashes : List Limit) : Type 0 where
  pub original : List Word
  pub read : Option (List Word)
  pub before : ReadsWith old.words old_books (Some original)
  pub after : ReadsWith new.words new_books read
  pub gives : clashes ≡ clash_between old.file original (edited replacement program 0 original) read

abbrev pub AddsClash : (WordPlace → Option (List Word)) → ℕ → Source → List Book → Source → List Book → List Limit → List Limit → Type 0
AddsClash replacement program old old_books new new_books before after =
    (clashes : List Limit) × HasClashes replacement program old old_books new new_books clashes × (after ≡ before ++ clashes)

-- the clashes of programs, from one of this number on
abbrev pub AreProgramClashes : (WordPlace → Option (List Word)) → List Book → List Book → ℕ → List Source → List Source → List Limit → Type 0
AreProgramClashes replacement old_books new_books n [] news clashes = clashes ≡ []
AreProgramClashes replacement old_books new_books n (s ∷ ss) [] clashes = ⊥
AreProgramClashes replacement old_books new_books n (s ∷ ss) (t ∷ ts) clashes =
    (first : List Limit) × (others : List Limit) × HasClashes replacement n s old_books t new_books first
    × AreProgramClashes replacement old_books new_books (n + 1) ss ts others × (clashes ≡ first ++ others)
