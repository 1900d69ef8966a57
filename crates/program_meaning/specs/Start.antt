-- The storage with which a program starts.
use Rattle.std.specs.Prelude.{ℕ, zero, suc, ◌+◌, List, [], ◌∷◌, ◌++◌, replicate, map, Option, Some, None}
use Rattle.program_meaning.specs.Answer.{Answer, Gives, Fails}
use Rattle.program_meaning.specs.Tree.{Operand}
use Rattle.program_meaning.specs.Layout.{Layout, Item, Occurs, Span}
use Rattle.program_meaning.specs.Storage.{Storage, write}
use Rattle.program_meaning.specs.Moves.{Sent, sent, received}

-- what a function gives at n places, each so many bytes after the one before
abbrev pub spread : (ℕ → List ℕ) → ℕ → ℕ → ℕ → List ℕ
spread f size zero o = []
spread f size (suc n) o = f o ++ spread f size n (o + size)

-- where the occurrences of an item begin
abbrev pub occurrences : List Occurs → ℕ → List ℕ
occurrences [] o = o ∷ []
occurrences (t ∷ ts) o = spread (occurrences ts) t.size t.count o

-- the bytes of an item at an offset
abbrev pub span_at : Item → ℕ → Span
span_at i o = record { area = i.span.area; start = o; count = i.span.count }

-- what is sent goes to each of these offsets
abbrev pub with_sent : Item → Storage → List ℕ → Answer Sent → Storage
with_sent i store [] s = store
with_sent i store (o ∷ os) (Fails e) = store
with_sent i store (o ∷ os) (Gives s) = with_sent i (write store (span_at i o) (received i.kind i.span.count s)) os (Gives s)

-- the VALUE of an item, moved to each occurrence
abbrev pub with_value : Layout → Item → Option Operand → Storage → Storage
with_value layout i None store = store
with_value layout i (Some v) store = with_sent i store (occurrences i.occurs i.span.start) (sent layout store v i.kind)

abbrev pub with_values : Layout → List Item → Storage → Storage
with_values layout [] store = store
with_values layout (i ∷ is) store = with_values layout is (with_value layout i i.value store)

-- all bytes are spaces, those of record areas too, and then each VALUE is moved in
abbrev pub start : Layout → Storage
start layout = with_values layout layout.items (map (λ n. replicate n 32) layout.areas)
