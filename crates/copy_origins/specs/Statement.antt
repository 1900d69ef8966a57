-- The form of a COPY statement:
--   COPY (name|literal) ((OF|IN) name)? (REPLACING (old BY new)+)? .
-- A part is a tree of its words, `.._then part more` are its words and then more, and `Is..` says of which sort each word is.
use Rattle.std.specs.Prelude.{◌≡◌, ℕ, ◌≢◌, ◌||◌, Bool, true, false, List, [], ◌∷◌, ◌++◌}
use Rattle.std.specs.List.{AllByRecursion}
use Rattle.y2k_base.specs.declared.word.Word.{Word}
use Rattle.copy_origins.specs.declared.pairs.Pair.{Pair}
use Rattle.copy_origins.specs.declared.sign.Sign.TheVariants as s
use Rattle.copy_origins.specs.Signs.{is}

-- old, or new: one name, or pseudo-text between marks
pub data Side : Type 0 where
  One : Word → Side
  Between : Word → List Word → Word → Side

abbrev pub side_then : Side → List Word → List Word
side_then (One name) more = name ∷ more
side_then (Between mark text close) more = mark ∷ (text ++ close ∷ more)

abbrev pub side_text : Side → List Word
side_text (One name) = name ∷ []
side_text (Between mark text close) = text

abbrev pub IsInner : Word → Type 0
IsInner word = is s.Double word ≡ false

abbrev pub IsSide : Side → Type 0
IsSide (One name) = is s.Name name ≡ true
IsSide (Between mark text close) = (is s.Double mark ≡ true) × AllByRecursion IsInner text × (is s.Double close ≡ true)

-- old BY new
pub record Exchange : Type 0 where
  pub old : Side
  pub by : Word
  pub new : Side

abbrev pub exchange_then : Exchange → List Word → List Word
exchange_then x more = side_then x.old (x.by ∷ side_then x.new more)

abbrev pub IsExchange : Exchange → Type 0
IsExchange x = IsSide x.old × (is s.By x.by ≡ true) × IsSide x.new × (side_text x.old ≢ [])

abbrev pub pair_of : Exchange → Pair
pair_of x = record { old = side_text x.old; new = side_text x.new }

abbrev pub exchanges_then : List Exchange → List Word → List Word
exchanges_then [] more = more
exchanges_then (x ∷ xs) more = exchange_then x (exchanges_then xs more)

-- ((OF|IN) name)?
pub data Library : Type 0 where
  NoLibrary : Library
  In : Word → Word → Library

abbrev pub library_then : Library → List Word → List Word
library_then NoLibrary more = more
library_then (In of name) more = of ∷ (name ∷ more)

abbrev pub IsLibrary : Library → Type 0
IsLibrary NoLibrary = Unit {0}
IsLibrary (In of name) = (is s.Of of ≡ true) × (is s.Name name ≡ true)

-- (REPLACING (old BY new)+)?
pub data Replacing : Type 0 where
  NoReplacing : Replacing
  By : Word → Exchange → List Exchange → Replacing

abbrev pub replacing_then : Replacing → List Word → List Word
replacing_then NoReplacing more = more
replacing_then (By replacing x xs) more = replacing ∷ exchanges_then (x ∷ xs) more

abbrev pub exchanges : Replacing → List Exchange
exchanges NoReplacing = []
exchanges (By replacing x xs) = x ∷ xs

abbrev pub IsReplacing : Replacing → Type 0
IsReplacing NoReplacing = Unit {0}
IsReplacing (By replacing x xs) = (is s.Replacing replacing ≡ true) × AllByRecursion IsExchange (x ∷ xs)

pub record Statement : Type 0 where
  pub copy : Word
  pub book : Word
  pub library : Library
  pub replacing : Replacing
  pub period : Word

abbrev pub statement_then : Statement → List Word → List Word
statement_then t more = t.copy ∷ (t.book ∷ library_then t.library (replacing_then t.replacing (t.period ∷ more)))

-- name|literal
unfoldable pub names_book : Word → Bool
names_book word = is s.Name word || is s.Literal word

pub record IsStatement (t : Statement) : Type 0 where
  pub copy : is s.Copy t.copy ≡ true
  pub book : names_book t.book ≡ true
  pub library : IsLibrary t.library
  pub replacing : IsReplacing t.replacing
  pub period : is s.Period t.period ≡ true

-- NAME, or LIBRARY/NAME
abbrev pub key_in : Word → Library → List ℕ
key_in book NoLibrary = book.text
key_in book (In of name) = name.text ++ (47 ∷ book.text)

abbrev pub key : Statement → List ℕ
key t = key_in t.book t.library

abbrev pub pairs_of : List Exchange → List Pair
pairs_of [] = []
pairs_of (x ∷ xs) = pair_of x ∷ pairs_of xs

abbrev pub pairs : Statement → List Pair
pairs t = pairs_of (exchanges t.replacing)
