-- Words have at most one expansion or one fault, so the clauses of `expand` say exactly which.
use Rattle.std.proofs.Common.{◌≡◌, ℕ, true, false, Some, None, List, [], ◌∷◌, ◌++◌, refl, ap, sym, ◌∙◌}
use Rattle.std.specs.List.{AllByRecursion}
use Rattle.y2k_base.specs.declared.word.Word.{Word}
use Rattle.y2k_base.specs.declared.word.Origin.{Origin}
use Rattle.copy_origins.specs.declared.sign.Sign.TheVariants as s
use Rattle.copy_origins.specs.Signs.{is}
use Rattle.copy_origins.specs.declared.pairs.Pair.{Pair}
use Rattle.copy_origins.specs.declared.books.Book.{Book}
use Rattle.copy_origins.specs.declared.books.CopyFault.{CopyFault}
use Rattle.copy_origins.specs.declared.books.CopyFault.TheVariants.{CopyShape, CopyMissing, NestedCopy, Memory}
use Rattle.copy_origins.specs.Statement.{exchanges, pairs_of, library_then, Replacing, NoReplacing, By, replacing_then, IsReplacing, Statement, IsStatement, statement_then, key, pairs}
use Rattle.copy_origins.specs.Reads.{library_at, key_by, HasNoStatement}
use Rattle.copy_origins.specs.Replacing.{replaced}
use Rattle.copy_origins.specs.Expansion.{Piece, Plain, Copied, piece_then, pieces_then, IsPiece, piece_gives, pieces_give, IsExpansion, IsAfterPieces, HasCopyFault, HasNoExpansion, IsOnly, book_with, holds_copy}
use Rattle.copy_origins.proofs.Signs.{is-other, period-replacing, some-eq, head-eq, tail-eq, both_ways}
use Rattle.copy_origins.proofs.Sides.{period-no-pair}
use Rattle.copy_origins.proofs.Runs.{not-both, exchanges-unique}
use Rattle.copy_origins.proofs.Orders.{library-takes, library_name, key-is}

not-first : (p r : Word) → is s.Period p ≡ true → is s.Replacing r ≡ true → p ≡ r → ⊥
not-first p r closed e same = both_ways (ap (is s.Replacing) same ∙ e) (is-other s.Period s.Replacing p closed period-replacing)

replacing-unique : (t u : Replacing) (p q : Word) (a b : List Word) → IsReplacing t → IsReplacing u → is s.Period p ≡ true → is s.Period q ≡ true
    → replacing_then t (p ∷ a) ≡ replacing_then u (q ∷ b) → (pairs_of (exchanges t) ≡ pairs_of (exchanges u)) × (a ≡ b)
replacing-unique NoReplacing NoReplacing p q a b f g m n h = (refl, tail-eq h)
replacing-unique NoReplacing (By r y ys) p q a b f g m n h = absurd (not-first p r m g.0 (head-eq h))
replacing-unique (By r x xs) NoReplacing p q a b f g m n h = absurd (not-first q r n f.0 (sym (head-eq h)))
replacing-unique (By r x xs) (By o y ys) p q a b f g m n h =
    let same = exchanges-unique (x ∷ xs) (y ∷ ys) (p ∷ a) (q ∷ b) f.1 g.1 (period-no-pair p a m) (period-no-pair q b n) (tail-eq h) in
    (same.0, tail-eq same.1)

pub record SameStatement (t u : Statement) (a b : List Word) : Type 0 where
  pub copies : t.copy ≡ u.copy
  pub keys : key t ≡ key u
  pub exchanged : pairs t ≡ pairs u
  pub after : a ≡ b

pub statement-unique : (t u : Statement) (a b : List Word) → IsStatement t → IsStatement u → statement_then t a ≡ statement_then u b → SameStatement t u a b
statement-unique t u a b f g h =
    let rest : library_then t.library (replacing_then t.replacing (t.period ∷ a)) ≡ library_then u.library (replacing_then u.replacing (u.period ∷ b)) = tail-eq (tail-eq h) in
    let book : t.book ≡ u.book = head-eq (tail-eq h) in
    let both = some-eq (sym (library-takes t.library t.replacing t.period a f.library f.replacing f.period) ∙ ap library_at rest
    ∙ library-takes u.library u.replacing u.period b g.library g.replacing g.period)
    in
    let name : library_name t.library ≡ library_name u.library = ap (λ r. r.0) both in
    let tail : replacing_then t.replacing (t.period ∷ a) ≡ replacing_then u.replacing (u.period ∷ b) = ap (λ r. r.1) both in
    let same = replacing-unique t.replacing u.replacing t.period u.period a b f.replacing g.replacing f.period g.period tail in
    record {
      copies = head-eq h;
      keys =
          sym (key-is t.book t.library) ∙ ap (λ (w : Word). key_by w.text (library_name t.library)) book ∙ ap (key_by u.book.text) name
          ∙ key-is u.book u.library;
      exchanged = same.0;
      after = same.1;
    }

pub same-book : (t u : Statement) (books : List Book) (b c : Book) → key t ≡ key u → book_with (key t) books ≡ Some b → book_with (key u) books ≡ Some c → b ≡ c
same-book t u books b c e f g = some-eq (sym f ∙ ap (λ (k : List ℕ). book_with k books) e ∙ g)

plain-copy : (w c : Word) → is s.Copy w ≡ false → is s.Copy c ≡ true → w ≡ c → ⊥
plain-copy w c e f same = both_ways (ap (is s.Copy) same ∙ f) e

empty-not : {A : Type 0} {x : A} {xs : List A} → [] ≡ x ∷ xs → ⊥
empty-not e = cc

-- two pieces at the front of the same words give the same, and leave the same
pub piece-unique : (books : List Book) (p q : Piece) (a b : List Word) → IsPiece books p → IsPiece books q → piece_then p a ≡ piece_then q b
    → (piece_gives p ≡ piece_gives q) × (a ≡ b)
piece-unique books (Plain w) (Plain v) a b f g h = (ap (λ (x : Word). x ∷ []) (head-eq h), tail-eq h)
piece-unique books (Plain w) (Copied u c) a b f g h = absurd (plain-copy w u.copy f g.0.copy (head-eq h))
piece-unique books (Copied t d) (Plain v) a b f g h = absurd (plain-copy v t.copy g f.0.copy (sym (head-eq h)))
piece-unique books (Copied t d) (Copied u c) a b f g h =
    let same = statement-unique t u a b f.0 g.0 h in
    let book = same-book t u books d c same.keys f.1 g.1 in
    (ap (λ (ps : List Pair). replaced ps 0 d.words) same.exchanged ∙ ap (λ (x : Book). replaced (pairs u) 0 x.words) book, same.after)

-- nothing stands at the front of words as a piece
abbrev pub IsStop : List Book → List Word → Type 0
IsStop books ws = (p : Piece) (more : List Word) → IsPiece books p → ws ≡ piece_then p more → ⊥

empty-stops : (books : List Book) → IsStop books []
empty-stops books (Plain w) more f h = empty-not h
empty-stops books (Copied t b) more f h = empty-not h

-- cut as far as pieces go, words are cut in one way
pub cut-unique : (books : List Book) (ps qs : List Piece) (a b : List Word) → AllByRecursion (IsPiece books) ps → AllByRecursion (IsPiece books) qs → IsStop books a
    → IsStop books b → pieces_then ps a ≡ pieces_then qs b → (pieces_give ps ≡ pieces_give qs) × (a ≡ b)
cut-unique books [] [] a b f g m n h = (refl, h)
cut-unique books [] (q ∷ qs) a b f g m n h = absurd (m q (pieces_then qs b) g.0 h)
cut-unique books (p ∷ ps) [] a b f g m n h = absurd (n p (pieces_then ps a) f.0 (sym h))
cut-unique books (p ∷ ps) (q ∷ qs) a b f g m n h =
    let one = piece-unique books p q (pieces_then ps a) (pieces_then qs b) f.0 g.0 h in
    let rest = cut-unique books ps qs a b f.1 g.1 m n one.1 in
    (ap (λ (ws : List Word). ws ++ pieces_give ps) one.0 ∙ ap (λ (ws : List Word). piece_gives q ++ ws) rest.0, rest.1)

-- there is at most one expansion
pub expansion-unique : (words : List Word) (books : List Book) (a b : List Word) → IsExpansion words books a → IsExpansion words books b → a ≡ b
expansion-unique words books a b f g =
    f.gives
    ∙ (cut-unique books f.pieces g.pieces [] [] f.formed g.formed (empty-stops books) (empty-stops books) (sym f.cut ∙ g.cut)).0
    ∙ sym g.gives

shape-stops : (books : List Book) (copy : Word) (rest : List Word) → is s.Copy copy ≡ true → HasNoStatement (copy ∷ rest) → IsStop books (copy ∷ rest)
shape-stops books copy rest e none (Plain w) more f h = plain-copy w copy f e (sym (head-eq h))
shape-stops books copy rest e none (Copied t b) more f h = none t more f.0 h

missing-stops : (books : List Book) (t : Statement) (rest : List Word) → IsStatement t → book_with (key t) books ≡ None → IsStop books (statement_then t rest)
missing-stops books t rest g none (Plain w) more f h = plain-copy w t.copy f g.copy (sym (head-eq h))
missing-stops books t rest g none (Copied u b) more f h =
    let same = statement-unique t u rest more g f.0 h in
    not-both none (ap (λ (k : List ℕ). book_with k books) same.keys ∙ f.1)

nested-stops : (books : List Book) (t : Statement) (rest : List Word) (book : Book) → IsStatement t → book_with (key t) books ≡ Some book
    → holds_copy book.words ≡ true → IsStop books (statement_then t rest)
nested-stops books t rest book g found nested (Plain w) more f h = plain-copy w t.copy f g.copy (sym (head-eq h))
nested-stops books t rest book g found nested (Copied u b) more f h =
    let same = statement-unique t u rest more g f.0 h in
    let equal = same-book t u books book b same.keys found f.1 in
    both_ways (ap (λ (x : Book). holds_copy x.words) (sym equal) ∙ nested) f.2

abbrev pub IsNamed : CopyFault → Type 0
IsNamed (CopyShape at) = Unit {0}
IsNamed (CopyMissing at) = Unit {0}
IsNamed (NestedCopy at) = Unit {0}
IsNamed Memory = ⊥

-- where a fault but want of memory stands, the words after the pieces, which no piece begins, begin with the word of its place
pub record Halt (words : List Word) (books : List Book) (at : Origin) : Type 0 where
  pub copy : Word
  pub rest : List Word
  pub before : IsAfterPieces words books (copy ∷ rest)
  pub stops : IsStop books (copy ∷ rest)
  pub at_copy : at ≡ copy.origin

abbrev pub place_of : CopyFault → Origin → Origin
place_of (CopyShape at) other = at
place_of (CopyMissing at) other = at
place_of (NestedCopy at) other = at
place_of Memory other = other

pub halts : (words : List Word) (books : List Book) (fault : CopyFault) (other : Origin) → IsNamed fault → HasCopyFault words books fault
    → Halt words books (place_of fault other)
halts words books (CopyShape at) other n has =
    record {
      copy = has.copy;
      rest = has.rest;
      before = has.before;
      stops = shape-stops books has.copy has.rest has.is_copy has.none;
      at_copy = has.at_copy;
    }
halts words books (CopyMissing at) other n has =
    record {
      copy = has.0.copy;
      rest = _;
      before = has.1.before;
      stops = missing-stops books has.0 has.1.rest has.1.formed has.2;
      at_copy = has.1.at_copy;
    }
halts words books (NestedCopy at) other n has =
    record {
      copy = has.statement.copy;
      rest = _;
      before = has.stands.before;
      stops = nested-stops books has.statement has.stands.rest has.book has.stands.formed has.found has.nested;
      at_copy = has.stands.at_copy;
    }
halts words books Memory other n has = absurd n

-- words with an expansion have no fault but want of memory
pub expansion-no-fault : (words : List Word) (books : List Book) (a : List Word) (fault : CopyFault) (other : Origin) → IsExpansion words books a → IsNamed fault
    → HasCopyFault words books fault → ⊥
expansion-no-fault words books a fault other f n has =
    let halt = halts words books fault other n has in
    empty-not (cut-unique books f.pieces halt.before.pieces [] (halt.copy ∷ halt.rest) f.formed halt.before.formed (empty-stops books) halt.stops
    (sym f.cut ∙ halt.before.cut)).1

-- two faults but want of memory stand at one place
pub fault-place : (words : List Word) (books : List Book) (one two : CopyFault) (other : Origin) → IsNamed one → IsNamed two → HasCopyFault words books one
    → HasCopyFault words books two → place_of one other ≡ place_of two other
fault-place words books one two other m n f g =
    let x = halts words books one other m f in
    let y = halts words books two other n g in
    x.at_copy
    ∙ ap (λ (w : Word). w.origin) (head-eq (cut-unique books x.before.pieces y.before.pieces (x.copy ∷ x.rest) (y.copy ∷ y.rest) x.before.formed y.before.formed x.stops y.stops (sym x.before.cut ∙ y.before.cut)).1)
    ∙ sym y.at_copy

pub no-expansion : (words : List Word) (books : List Book) (fault : CopyFault) → HasCopyFault words books fault → HasNoExpansion words books fault
no-expansion words books (CopyShape at) has = λ other f. expansion-no-fault words books other (CopyShape at) at f tt has
no-expansion words books (CopyMissing at) has = λ other f. expansion-no-fault words books other (CopyMissing at) at f tt has
no-expansion words books (NestedCopy at) has = λ other f. expansion-no-fault words books other (NestedCopy at) at f tt has
no-expansion words books Memory has = tt

pub only-one : (words : List Word) (books : List Book) (result : List Word) → IsExpansion words books result → IsOnly words books result
only-one words books result f = λ other g. expansion-unique words books other result g f
