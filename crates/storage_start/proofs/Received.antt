-- A VALUE as its item receives it, at each occurrence.
use Rattle.std.proofs.Common.{◌≡◌, ℕ, zero, suc, ◌+◌, ◌<◌, arith, length, get_or, List, [], ◌∷◌, drop, Option, refl, sym, ap, ap₂, ◌∙◌, subst, Err}
use Rattle.std.specs.Prelude.{slice_get}
use Rattle.std.proofs.lemmas.List.{drop_more}
use Rattle.data_layout.specs.declared.item.Item.{Item}
use Rattle.data_layout.specs.declared.item.Layout.{Layout}
use Rattle.layout_reading.specs.Reading.{read_item, read_items}
use Rattle.layout_reading.specs.Values.{first_value, other_values}
use Rattle.program_meaning.specs.Answer.{Answer, Gives, Fails, Fault, Data}
use Rattle.program_meaning.specs.Layout as meant
use Rattle.program_meaning.specs.Moves.{Sent, received}
use Rattle.program_meaning.specs.Start.{with_sent, with_value, with_values, span_at}
use Rattle.program_meaning.specs.Storage.{Storage, write}
use Rattle.program_meaning.specs.Tree.{Operand}
use Rattle.value_moves.specs.Given.{Answers}
use Rattle.value_moves.specs.declared.sent.MoveFault.{MoveFault}
use Rattle.value_moves.specs.declared.sent.MoveFault.TheVariants as fault
use Rattle.storage_start.specs.Literals.{value_in}
use Rattle.storage_start.specs.Writes.{writes}

pub with-sent : (i : meant.Item) (s : Sent) (store : Storage) (os : List ℕ) → with_sent i store os (Gives s) ≡ writes i.span.area i.span.count store os (received i.kind i.span.count s)
with-sent i s store [] = refl
with-sent i s store (o ∷ os) = with-sent i s (write store (span_at i o) (received i.kind i.span.count s)) os

-- where nothing is given, nothing changes
pub with-none : (i : meant.Item) (store : Storage) (os : List ℕ) (s : Answer Sent) (e : Fault) → s ≡ Fails e → store ≡ with_sent i store os s
with-none i store [] s e fails = refl
with-none i store (o ∷ os) s e fails = sym (ap (with_sent i store (o ∷ os)) fails)

pub no-data : (f : MoveFault) (a : Answer Sent) → f ≡ fault.Data → Answers (Err f) a → a ≡ Fails Data
no-data f a is given = subst (λ (g : MoveFault). Answers (Err g) a) is given

pub first-at : (vs : List (Option Operand)) (i : ℕ) → value_in (slice_get vs i) ≡ first_value (drop i vs)
first-at [] zero = refl
first-at [] (suc i) = refl
first-at (v ∷ vs) zero = refl
first-at (v ∷ vs) (suc i) = first-at vs i

pub others-at : (vs : List (Option Operand)) (i : ℕ) → other_values (drop i vs) ≡ drop (suc i) vs
others-at [] zero = refl
others-at [] (suc i) = refl
others-at (v ∷ vs) zero = refl
others-at (v ∷ vs) (suc i) = others-at vs i

-- one item more has its VALUE
pub one-value : (l : Layout) (m : meant.Layout) (items : List Item) (i : ℕ) (item : Item) (vs : List (Option Operand)) (v : Option Operand) (store new : Storage)
    → i < length items → item ≡ get_or items i item → v ≡ value_in (slice_get vs i) → new ≡ with_value m (read_item l item v) v store
    → with_values m (read_items l (drop (i + 1) items) (drop (i + 1) vs)) new ≡ with_values m (read_items l (drop i items) (drop i vs)) store
one-value l m items i item vs v store new inside this first put =
    let next : suc i ≡ i + 1 = omega arith in
    let value : v ≡ first_value (drop i vs) = first ∙ first-at vs i in
    let others : drop (i + 1) vs ≡ other_values (drop i vs) = sym (others-at vs i ∙ ap (λ (n : ℕ). drop n vs) next) in
    let whole : item ∷ drop (i + 1) items ≡ drop i items = ap (λ (x : Item). x ∷ drop (i + 1) items) this ∙ sym (drop_more items i item inside) in
    ap₂ (λ (ws : List (Option Operand)) (s : Storage). with_values m (read_items l (drop (i + 1) items) ws) s) others put
    ∙ ap (λ (w : Option Operand). with_values m (read_items l (drop (i + 1) items) (other_values (drop i vs))) (with_value m (read_item l item w) w store)) value
    ∙ ap (λ (xs : List Item). with_values m (read_items l xs (drop i vs)) store) whole
