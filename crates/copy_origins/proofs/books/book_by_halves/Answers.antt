use Rattle.std.proofs.Common.{◌≡◌, ℕ, ◌<◌, List, length, get_or, Some, sym, ap, ◌∙◌, arith}
use Rattle.std.specs.Str.{bytes_eq}
use Rattle.std.proofs.lemmas.List.{get_or_default}
use Rattle.copy_origins.specs.declared.books.Book.{Book}
use Rattle.copy_origins.specs.Expansion.{key_of}
use Rattle.copy_origins.proofs.Search.{found-at, missing-at, missing-past}
use Rattle.copy_origins.proofs.books.book_by_halves.Goals as goal

-- the test of a book's key is one of the book at its place
tested : (books : List Book) (key items : List ℕ) (i : ℕ) (book d : Book) → i < length books → items ≡ (get_or books i book).key
    → bytes_eq (key_of (get_or books i d)) key ≡ bytes_eq items key
tested books key items i book d within same =
    ap (λ (b : Book). bytes_eq (key_of b) key) (get_or_default books i d book within) ∙ ap (λ (t : List ℕ). bytes_eq t key) (sym same)

pub returns-then-place-books : goal.returns-then-place-books
returns-then-place-books c =
    let place = c.if-place-books.true in
    missing-past key_of c.args.books.now c.args.key.now c.first_not_before-place.result c.first_not_before-place.ensures.place (omega arith)

pub returns-then-eq : goal.returns-then-eq
returns-then-eq c =
    let books = c.args.books.now in
    let place = c.first_not_before-place.result in
    let bound = c.first_not_before-place.ensures.bound in
    let inside = c.if-place-books.false in
    let within : place < length books = omega arith in
    let book = c.index-books-place-then-eq.result in
    let same = tested books c.args.key.now _ place c.index-books-place.result book within c.items.ensures in
    found-at key_of books c.args.key.now place book c.first_not_before-place.ensures.place within (same ∙ sym c.eq.ensures ∙ c.if-eq.true)
    ∙ ap (λ (b : Book). Some b) (sym c.index-books-place-then-eq.is)

pub returns-else-eq : goal.returns-else-eq
returns-else-eq c =
    let books = c.args.books.now in
    let place = c.first_not_before-place.result in
    let bound = c.first_not_before-place.ensures.bound in
    let inside = c.if-place-books.false in
    let within : place < length books = omega arith in
    let book = c.index-books-place.result in
    let same = tested books c.args.key.now _ place book book within c.items.ensures in
    missing-at key_of books c.args.key.now place book c.requires c.first_not_before-place.ensures.place within (same ∙ sym c.eq.ensures ∙ c.if-eq.false)
