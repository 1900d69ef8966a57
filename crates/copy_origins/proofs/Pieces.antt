-- Pieces one after the other.
use Rattle.std.proofs.Common.{◌≡◌, ℕ, ◌+◌, ◌<◌, ◌≤◌, true, false, List, [], ◌∷◌, ◌++◌, length, drop, refl, ap, sym, ◌∙◌, subst, arith}
use Rattle.std.proofs.lemmas.List.{append_assoc, append-nil, drop-drop}
use Rattle.y2k_base.specs.declared.word.Origin.{Origin}
use Rattle.y2k_base.specs.declared.word.Word.{Word}
use Rattle.copy_origins.specs.declared.sign.Sign.TheVariants as s
use Rattle.copy_origins.specs.Signs.{is}
use Rattle.copy_origins.specs.declared.pairs.Pair.{Pair}
use Rattle.copy_origins.specs.declared.pairs.Order.{Order}
use Rattle.copy_origins.specs.declared.books.Book.{Book}
use Rattle.copy_origins.specs.declared.books.CopyFault.{CopyFault}
use Rattle.copy_origins.specs.declared.books.CopyFault.TheVariants.{CopyShape, CopyMissing, NestedCopy, Memory}
use Rattle.copy_origins.specs.Statement.{Exchange, exchanges_then, exchange_then, Library, NoLibrary, In, library_then, Replacing, NoReplacing, By, replacing_then, Statement, pairs}
use Rattle.copy_origins.specs.Reads.{IsOrder, HasNoStatement}
use Rattle.copy_origins.specs.Replacing.{replaced}
use Rattle.copy_origins.specs.Expansion.{Piece, Plain, Copied, piece_then, pieces_then, IsPiece, piece_gives, pieces_give, IsExpansion, IsStep, IsDone, IsUsable, IsUnusable, IsAfterPieces, HasCopyShape, HasStatement, HasCopyFault, book_with}
use Rattle.copy_origins.proofs.Signs.{head-eq}
use Rattle.copy_origins.proofs.Sides.{exchange-longer}
use Rattle.y2k_base.proofs.Each.{each-append, each-more}

pub step-copied : (ws : List Word) (books : List Book) (order : Order) (book : Book) (old new rest : List Word) (k : List ℕ) (ps : List Pair) (text : List Word)
    → IsOrder ws order rest → k ≡ order.key → IsUsable k books book → ps ≡ order.pairs → text ≡ book.words → new ≡ old ++ replaced ps 0 text
    → IsStep ws books old new rest
step-copied ws books order book old new rest k ps text read key_at fit pairs_at words_at e =
    record {
      piece = Copied read.tree book;
      formed = (read.formed, ap (λ (l : List ℕ). book_with l books) (sym (key_at ∙ read.key_is)) ∙ fit.0, fit.1);
      cut = read.spelled;
      gives =
          e ∙ ap (λ (qs : List Pair). old ++ replaced qs 0 text) (pairs_at ∙ read.pairs_are)
          ∙ ap (λ (ws : List Word). old ++ replaced (pairs read.tree) 0 ws) words_at;
    }

pub step-at : (ws : List Word) (books : List Book) (old new rest ws' : List Word) (books' : List Book) → ws ≡ ws' → books' ≡ books
    → IsStep ws' books' old new rest → IsStep ws books old new rest
step-at ws books old new rest ws' books' e same step =
    let moved : IsStep ws' books old new rest = subst (λ (bs : List Book). IsStep ws' bs old new rest) same step in
    record { piece = moved.piece; formed = moved.formed; cut = e ∙ moved.cut; gives = moved.gives }

pub fault-at : (ws : List Word) (books : List Book) (ws' : List Word) (books' : List Book) (fault : CopyFault) → ws ≡ ws' → books' ≡ books
    → HasCopyFault ws' books' fault → HasCopyFault ws books fault
fault-at ws books ws' books' fault e same has =
    subst (λ (xs : List Word). HasCopyFault xs books fault) (sym e) (subst (λ (bs : List Book). HasCopyFault ws' bs fault) same has)

pub step-plain : (word : Word) (words : List Word) (books : List Book) (old new rest : List Word) → is s.Copy word ≡ false → rest ≡ words
    → new ≡ old ++ word ∷ [] → IsStep (word ∷ words) books old new rest
step-plain word words books old new rest e same gives =
    record { piece = Plain word; formed = e; cut = ap (λ (ws : List Word). word ∷ ws) (sym same); gives = gives }

pub after-none : (words : List Word) (books : List Book) → IsAfterPieces words books words
after-none words books = record { pieces = []; formed = tt; cut = refl }

pub shape-fault : (copy : Word) (words : List Word) (books : List Book) → is s.Copy copy ≡ true → HasNoStatement (copy ∷ words)
    → HasCopyShape (copy ∷ words) books copy.origin
shape-fault copy words books e none =
    record { copy = copy; rest = words; before = after-none _ books; is_copy = e; at_copy = refl; none = none }

stands : (copy : Word) (words : List Word) (books : List Book) (order : Order) (rest : List Word) (at : Origin) (read : IsOrder (copy ∷ words) order rest)
    → at ≡ copy.origin → HasStatement (copy ∷ words) books read.tree at
stands copy words books order rest at read e =
    record {
      rest = rest;
      before = record { pieces = []; formed = tt; cut = read.spelled };
      formed = read.formed;
      at_copy = e ∙ ap (λ (w : Word). w.origin) (head-eq read.spelled);
    }

pub unusable-fault : (copy : Word) (words : List Word) (books : List Book) (order : Order) (rest : List Word) (k : List ℕ) (fault : CopyFault)
    → IsOrder (copy ∷ words) order rest → k ≡ order.key → IsUnusable k books copy.origin fault → HasCopyFault (copy ∷ words) books fault
unusable-fault copy words books order rest k (CopyShape at) read e un = absurd un
unusable-fault copy words books order rest k (CopyMissing at) read e un =
    (read.tree, stands copy words books order rest at read un.0, ap (λ (l : List ℕ). book_with l books) (sym (e ∙ read.key_is)) ∙ un.1)
unusable-fault copy words books order rest k (NestedCopy at) read e un =
    record {
      statement = read.tree;
      stands = stands copy words books order rest at read un.0;
      book = un.1.0;
      found = ap (λ (l : List ℕ). book_with l books) (sym (e ∙ read.key_is)) ∙ un.1.1;
      nested = un.1.2;
    }
unusable-fault copy words books order rest k Memory read e un = tt

pub done-none : (words : List Word) (books : List Book) → IsDone words books [] words
done-none words books = record { pieces = []; formed = tt; cut = refl; gives = refl }

pieces-then-more : (ps : List Piece) (p : Piece) (more : List Word) → pieces_then (ps ++ p ∷ []) more ≡ pieces_then ps (piece_then p more)
pieces-then-more [] p more = refl
pieces-then-more (q ∷ qs) p more = ap (piece_then q) (pieces-then-more qs p more)

pieces-give-more : (ps : List Piece) (p : Piece) → pieces_give (ps ++ p ∷ []) ≡ pieces_give ps ++ piece_gives p
pieces-give-more [] p = append-nil (piece_gives p)
pieces-give-more (q ∷ qs) p =
    ap (λ (ws : List Word). piece_gives q ++ ws) (pieces-give-more qs p) ∙ sym (append_assoc (piece_gives q) (pieces_give qs) (piece_gives p))

pub done-more : (words : List Word) (books : List Book) (out rest new more : List Word) → IsDone words books out rest → IsStep rest books out new more
    → IsDone words books new more
done-more words books out rest new more done step =
    record {
      pieces = done.pieces ++ step.piece ∷ [];
      formed = each-more (IsPiece books) done.pieces step.piece done.formed step.formed;
      cut = done.cut ∙ ap (pieces_then done.pieces) step.cut ∙ sym (pieces-then-more done.pieces step.piece more);
      gives =
          step.gives ∙ ap (λ (ws : List Word). ws ++ piece_gives step.piece) done.gives ∙ sym (pieces-give-more done.pieces step.piece);
    }

pub done-all : (words : List Word) (books : List Book) (out rest : List Word) → IsDone words books out rest → rest ≡ [] → IsExpansion words books out
done-all words books out rest done e =
    record { pieces = done.pieces; formed = done.formed; cut = done.cut ∙ ap (pieces_then done.pieces) e; gives = done.gives }

pieces-then-both : (ps qs : List Piece) (more : List Word) → pieces_then (ps ++ qs) more ≡ pieces_then ps (pieces_then qs more)
pieces-then-both [] qs more = refl
pieces-then-both (p ∷ ps) qs more = ap (piece_then p) (pieces-then-both ps qs more)

after-later : (words : List Word) (books : List Book) (out rest more : List Word) → IsDone words books out rest → IsAfterPieces rest books more
    → IsAfterPieces words books more
after-later words books out rest more done after =
    record {
      pieces = done.pieces ++ after.pieces;
      formed = each-append (IsPiece books) done.pieces after.pieces done.formed after.formed;
      cut = done.cut ∙ ap (pieces_then done.pieces) after.cut ∙ sym (pieces-then-both done.pieces after.pieces more);
    }

statement-later : (words : List Word) (books : List Book) (out rest : List Word) (t : Statement) (at : Origin) → IsDone words books out rest
    → HasStatement rest books t at → HasStatement words books t at
statement-later words books out rest t at done has =
    record { rest = has.rest; before = after-later words books out rest _ done has.before; formed = has.formed; at_copy = has.at_copy }

pub fault-later : (words : List Word) (books : List Book) (out rest : List Word) (fault : CopyFault) → IsDone words books out rest
    → HasCopyFault rest books fault → HasCopyFault words books fault
fault-later words books out rest (CopyShape at) done has =
    record {
      copy = has.copy;
      rest = has.rest;
      before = after-later words books out rest _ done has.before;
      is_copy = has.is_copy;
      at_copy = has.at_copy;
      none = has.none;
    }
fault-later words books out rest (CopyMissing at) done has = (has.0, statement-later words books out rest has.0 at done has.1, has.2)
fault-later words books out rest (NestedCopy at) done has =
    record {
      statement = has.statement;
      stands = statement-later words books out rest has.statement at done has.stands;
      book = has.book;
      found = has.found;
      nested = has.nested;
    }
fault-later words books out rest Memory done has = tt

exchanges-longer : (xs : List Exchange) (more : List Word) → length more ≤ length (exchanges_then xs more)
exchanges-longer [] more = omega arith
exchanges-longer (x ∷ xs) more =
    let a : length more ≤ length (exchanges_then xs more) = exchanges-longer xs more in
    let b : length (exchanges_then xs more) < length (exchange_then x (exchanges_then xs more)) = exchange-longer x (exchanges_then xs more) in
    omega arith

replacing-longer : (t : Replacing) (more : List Word) → length more ≤ length (replacing_then t more)
replacing-longer NoReplacing more = omega arith
replacing-longer (By replacing x xs) more =
    let a : length more ≤ length (exchanges_then (x ∷ xs) more) = exchanges-longer (x ∷ xs) more in omega arith

library-longer : (l : Library) (more : List Word) → length more ≤ length (library_then l more)
library-longer NoLibrary more = omega arith
library-longer (In of name) more = omega arith

piece-longer : (p : Piece) (more : List Word) → length more < length (piece_then p more)
piece-longer (Plain w) more = omega arith
piece-longer (Copied t book) more =
    let a : length (t.period ∷ more) ≤ length (replacing_then t.replacing (t.period ∷ more)) = replacing-longer t.replacing (t.period ∷ more) in
    let b : length (replacing_then t.replacing (t.period ∷ more)) ≤ length (library_then t.library (replacing_then t.replacing (t.period ∷ more)))
    = library-longer t.library (replacing_then t.replacing (t.period ∷ more))
    in
    omega arith

pub step-shorter : (ws : List Word) (books : List Book) (old new more : List Word) → IsStep ws books old new more → length more < length ws
step-shorter ws books old new more step =
    let a : length more < length (piece_then step.piece more) = piece-longer step.piece more in
    let b : length ws ≡ length (piece_then step.piece more) = ap length step.cut in
    omega arith

pub turn-on : (ps : List Pair) (words : List Word) (i k after : ℕ) (old new first part : List Word) → part ≡ drop i words
    → old ++ replaced ps k part ≡ new ++ replaced ps after (drop 1 part)
    → old ++ replaced ps k (drop i words) ≡ first ++ replaced ps 0 words
    → new ++ replaced ps after (drop (i + 1) words) ≡ first ++ replaced ps 0 words
turn-on ps words i k after old new first part e turn inv =
    ap (λ (ws : List Word). new ++ replaced ps after ws) (sym (drop-drop 1 i words) ∙ ap (drop 1) (sym e)) ∙ sym turn
    ∙ ap (λ (ws : List Word). old ++ replaced ps k ws) e ∙ inv
