-- The expansion of words, cut into COPY statements and the words that stand outside them.
use Rattle.std.specs.Prelude.{◌≡◌, ℕ, Bool, true, false, List, [], ◌∷◌, ◌++◌, Option, Some, None, if◌then◌else◌}
use Rattle.std.specs.List.{AllByRecursion}
use Rattle.copy_origins.specs.Keys as keys
use Rattle.y2k_base.specs.declared.word.Word.{Word}
use Rattle.y2k_base.specs.declared.word.Origin.{Origin}
use Rattle.copy_origins.specs.declared.books.Book.{Book}
use Rattle.copy_origins.specs.declared.books.CopyFault.{CopyFault}
use Rattle.copy_origins.specs.declared.books.CopyFault.TheVariants.{CopyShape, CopyMissing, NestedCopy, Memory}
use Rattle.copy_origins.specs.declared.sign.Sign.TheVariants as s
use Rattle.copy_origins.specs.Signs.{is}
use Rattle.copy_origins.specs.Statement.{Statement, IsStatement, statement_then, key, pairs}
use Rattle.copy_origins.specs.Reads.{HasNoStatement}
use Rattle.copy_origins.specs.Replacing.{replaced}

abbrev pub key_of : Book → List ℕ
key_of book = book.key

-- the first book with the key
abbrev pub book_with : List ℕ → List Book → Option Book
book_with key books = keys.first_with key_of key books

-- whether no book stands before one of a lesser key
abbrev pub are_in_order : List Book → Bool
are_in_order books = keys.are_in_order key_of books

abbrev pub holds_copy : List Word → Bool
holds_copy [] = false
holds_copy (w ∷ ws) = if is s.Copy w then true else holds_copy ws

pub data Piece : Type 0 where
  Plain : Word → Piece
  Copied : Statement → Book → Piece

abbrev pub piece_then : Piece → List Word → List Word
piece_then (Plain w) more = w ∷ more
piece_then (Copied t book) more = statement_then t more

abbrev pub pieces_then : List Piece → List Word → List Word
pieces_then [] more = more
pieces_then (p ∷ ps) more = piece_then p (pieces_then ps more)

-- a word other than COPY, or a statement with its book, in which no COPY stands
abbrev pub IsPiece : List Book → Piece → Type 0
IsPiece books (Plain w) = is s.Copy w ≡ false
IsPiece books (Copied t book) = IsStatement t × (book_with (key t) books ≡ Some book) × (holds_copy book.words ≡ false)

abbrev pub piece_gives : Piece → List Word
piece_gives (Plain w) = w ∷ []
piece_gives (Copied t book) = replaced (pairs t) 0 book.words

abbrev pub pieces_give : List Piece → List Word
pieces_give [] = []
pieces_give (p ∷ ps) = piece_gives p ++ pieces_give ps

pub record IsExpansion (words : List Word) (books : List Book) (result : List Word) : Type 0 where
  pub pieces : List Piece
  pub formed : AllByRecursion (IsPiece books) pieces
  pub cut : words ≡ pieces_then pieces []
  pub gives : result ≡ pieces_give pieces

-- One piece is taken from the front of the words, and what it gives goes to the end of what was there.
pub record IsStep (words : List Word) (books : List Book) (old new rest : List Word) : Type 0 where
  pub piece : Piece
  pub formed : IsPiece books piece
  pub cut : words ≡ piece_then piece rest
  pub gives : new ≡ old ++ piece_gives piece

-- What was read so far is pieces, and what they give is there.
pub record IsDone (words : List Word) (books : List Book) (out rest : List Word) : Type 0 where
  pub pieces : List Piece
  pub formed : AllByRecursion (IsPiece books) pieces
  pub cut : words ≡ pieces_then pieces rest
  pub gives : out ≡ pieces_give pieces

abbrev pub IsUsable : List ℕ → List Book → Book → Type 0
IsUsable key books book = (book_with key books ≡ Some book) × (holds_copy book.words ≡ false)

abbrev pub IsUnusable : List ℕ → List Book → Origin → CopyFault → Type 0
IsUnusable key books at (CopyShape o) = ⊥
IsUnusable key books at (CopyMissing o) = (o ≡ at) × (book_with key books ≡ None)
IsUnusable key books at (NestedCopy o) = (o ≡ at) × ((book : Book) × (book_with key books ≡ Some book) × (holds_copy book.words ≡ true))
IsUnusable key books at Memory = ⊥

-- Pieces without fault stand before the words.
pub record IsAfterPieces (words : List Word) (books : List Book) (rest : List Word) : Type 0 where
  pub pieces : List Piece
  pub formed : AllByRecursion (IsPiece books) pieces
  pub cut : words ≡ pieces_then pieces rest

-- A word COPY begins no statement.
pub record HasCopyShape (words : List Word) (books : List Book) (at : Origin) : Type 0 where
  pub copy : Word
  pub rest : List Word
  pub before : IsAfterPieces words books (copy ∷ rest)
  pub is_copy : is s.Copy copy ≡ true
  pub at_copy : at ≡ copy.origin
  pub none : HasNoStatement (copy ∷ rest)

-- A statement stands after pieces without fault.
pub record HasStatement (words : List Word) (books : List Book) (t : Statement) (at : Origin) : Type 0 where
  pub rest : List Word
  pub before : IsAfterPieces words books (statement_then t rest)
  pub formed : IsStatement t
  pub at_copy : at ≡ t.copy.origin

pub record HasNestedCopy (words : List Word) (books : List Book) (at : Origin) : Type 0 where
  pub statement : Statement
  pub stands : HasStatement words books statement at
  pub book : Book
  pub found : book_with (key statement) books ≡ Some book
  pub nested : holds_copy book.words ≡ true

abbrev pub HasCopyFault : List Word → List Book → CopyFault → Type 0
HasCopyFault words books (CopyShape at) = HasCopyShape words books at
HasCopyFault words books (CopyMissing at) = (t : Statement) × HasStatement words books t at × (book_with (key t) books ≡ None)
HasCopyFault words books (NestedCopy at) = HasNestedCopy words books at
HasCopyFault words books Memory = Unit {0}

-- Words have no other expansion.
abbrev pub IsOnly : List Word → List Book → List Word → Type 0
IsOnly words books result = (other : List Word) → IsExpansion words books other → other ≡ result

-- where a fault other than want of memory is named, there is no expansion
abbrev pub HasNoExpansion : List Word → List Book → CopyFault → Type 0
HasNoExpansion words books (CopyShape at) = (other : List Word) → IsExpansion words books other → ⊥
HasNoExpansion words books (CopyMissing at) = (other : List Word) → IsExpansion words books other → ⊥
HasNoExpansion words books (NestedCopy at) = (other : List Word) → IsExpansion words books other → ⊥
HasNoExpansion words books Memory = Unit {0}
