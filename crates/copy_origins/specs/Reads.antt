-- What stands at the front of words, and the words after it.
use Rattle.std.specs.Prelude.{◌≡◌, ℕ, true, List, [], ◌∷◌, ◌++◌, Option, Some, None, option_map, option_and_then, if◌then◌else◌}
use Rattle.std.specs.List.{AllByRecursion}
use Rattle.y2k_base.specs.declared.word.Word.{Word}
use Rattle.copy_origins.specs.declared.pairs.Pair.{Pair}
use Rattle.copy_origins.specs.declared.pairs.Order.{Order}
use Rattle.copy_origins.specs.declared.sign.Sign.TheVariants as s
use Rattle.copy_origins.specs.Signs.{is}
use Rattle.copy_origins.specs.Statement.{Exchange, IsExchange, exchanges_then, exchanges, pairs_of, Replacing, IsReplacing, replacing_then, Statement, IsStatement, statement_then, key, pairs}

-- the words before the first == and those after it
abbrev pub until : List Word → Option (List Word × List Word)
until [] = None
until (w ∷ ws) = if is s.Double w then Some ([], ws) else option_map (λ r. (w ∷ r.0, r.1)) (until ws)

-- the text of a side of a pair, and the words after it
abbrev pub side_at : List Word → Option (List Word × List Word)
side_at [] = None
side_at (w ∷ ws) = if is s.Double w then until ws else (if is s.Name w then Some (w ∷ [], ws) else None)

abbrev pub after_old : List Word → List Word → Option (List Word × List Word × List Word)
after_old [] more = None
after_old (o ∷ os) [] = None
after_old (o ∷ os) (w ∷ ws) = if is s.By w then option_map (λ r. (o ∷ os, r.0, r.1)) (side_at ws) else None

-- old, new, and the words after them
abbrev pub pair_at : List Word → Option (List Word × List Word × List Word)
pair_at ws = option_and_then (λ r. after_old r.0 r.1) (side_at ws)

abbrev pub library_at : List Word → Option (Option Word × List Word)
library_at [] = Some (None, [])
library_at (w ∷ []) = if is s.Of w then None else Some (None, w ∷ [])
library_at (w ∷ (n ∷ ws)) =
    if is s.Of w then (if is s.Name n then Some (Some n, ws) else None) else Some (None, w ∷ (n ∷ ws))

abbrev pub ending_at : List Word → Option (List Word)
ending_at [] = None
ending_at (w ∷ ws) = if is s.Period w then Some ws else None

abbrev pub key_by : List ℕ → Option Word → List ℕ
key_by book None = book
key_by book (Some name) = name.text ++ (47 ∷ book)

-- pairs that stand at the front of words
pub record IsFront (words : List Word) (list : List Pair) (rest : List Word) : Type 0 where
  pub trees : List Exchange
  pub formed : AllByRecursion IsExchange trees
  pub spelled : words ≡ exchanges_then trees rest
  pub told : list ≡ pairs_of trees

-- the pairs that stand at the front of words, as far as there are any
pub record IsRun (words : List Word) (list : List Pair) (rest : List Word) : Type 0 where
  pub front : IsFront words list rest
  pub last : pair_at rest ≡ None

-- old BY new, at least once, and the period
pub record IsPairs (words : List Word) (list : List Pair) (rest : List Word) : Type 0 where
  pub first : Exchange
  pub others : List Exchange
  pub period : Word
  pub formed : AllByRecursion IsExchange (first ∷ others)
  pub closed : is s.Period period ≡ true
  pub spelled : words ≡ exchanges_then (first ∷ others) (period ∷ rest)
  pub told : list ≡ pairs_of (first ∷ others)

abbrev pub HasNoPairs : List Word → Type 0
HasNoPairs words = (x : Exchange) (xs : List Exchange) (period : Word) (more : List Word) → AllByRecursion IsExchange (x ∷ xs) → is s.Period period ≡ true
    → words ≡ exchanges_then (x ∷ xs) (period ∷ more) → ⊥

-- what stands after the names of the book and the library
pub record IsTail (words : List Word) (list : List Pair) (rest : List Word) : Type 0 where
  pub tree : Replacing
  pub period : Word
  pub formed : IsReplacing tree
  pub closed : is s.Period period ≡ true
  pub spelled : words ≡ replacing_then tree (period ∷ rest)
  pub told : list ≡ pairs_of (exchanges tree)

abbrev pub HasNoTail : List Word → Type 0
HasNoTail words = (t : Replacing) (period : Word) (more : List Word) → IsReplacing t → is s.Period period ≡ true
    → words ≡ replacing_then t (period ∷ more) → ⊥

-- the statement that stands at the front of words
pub record IsOrder (words : List Word) (order : Order) (rest : List Word) : Type 0 where
  pub tree : Statement
  pub formed : IsStatement tree
  pub spelled : words ≡ statement_then tree rest
  pub key_is : order.key ≡ key tree
  pub pairs_are : order.pairs ≡ pairs tree

-- no statement stands at the front of words
abbrev pub HasNoStatement : List Word → Type 0
HasNoStatement words = (t : Statement) (more : List Word) → IsStatement t → words ≡ statement_then t more → ⊥
