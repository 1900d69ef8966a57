use Rattle.std.proofs.Common.{◌≡◌, ℕ, ◌+◌, ◌-◌, ◌/◌, ◌<◌, true, false, length, get_or, sym, ap, ◌∙◌, arith}
use Rattle.std.proofs.lemmas.List.{get_or_default}
use Rattle.copy_origins.specs.declared.books.Book.{Book}
use Rattle.copy_origins.specs.Keys.{is_before}
use Rattle.copy_origins.specs.Expansion.{key_of}
use Rattle.copy_origins.proofs.Search.{all-before, none-before}
use Rattle.copy_origins.proofs.books.first_not_before.Goals as goal

pub loop-low-preserved-then-is_before : goal.loop-low-preserved-then-is_before
loop-low-preserved-then-is_before c =
    let books = c.args.books.now in
    let key = c.args.key.now in
    let test = c.loop-low-test.true in
    let invariant = c.loop-low.invariant in
    let middle : ℕ = c.loop-low.low + (c.loop-low.high - c.loop-low.low) / 2 in
    let within : middle < length books = omega arith in
    let here : (d : Book) → is_before key_of key (get_or books middle d) ≡ true = λ d.
    ap (is_before key_of key) (get_or_default books middle d c.index-books-middle.result within ∙ sym c.index-books-middle.is) ∙ sym c.is_before.ensures ∙ c.if-is_before.true in
    (omega arith, invariant.1, all-before key_of books key middle c.requires within here, invariant.3)

pub loop-low-preserved : goal.loop-low-preserved
loop-low-preserved c =
    let books = c.args.books.now in
    let key = c.args.key.now in
    let test = c.loop-low-test.true in
    let invariant = c.loop-low.invariant in
    let middle : ℕ = c.loop-low.low + (c.loop-low.high - c.loop-low.low) / 2 in
    let within : middle < length books = omega arith in
    let here : (d : Book) → is_before key_of key (get_or books middle d) ≡ false = λ d.
    ap (is_before key_of key) (get_or_default books middle d c.index-books-middle.result within ∙ sym c.index-books-middle.is) ∙ sym c.is_before.ensures ∙ c.if-is_before.false in
    (omega arith, omega arith, invariant.2, none-before key_of books key middle c.requires here)
