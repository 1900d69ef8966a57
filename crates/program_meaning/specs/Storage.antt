-- The bytes of the running program, and the bytes that a place means.
use Rattle.std.specs.Prelude.{ℕ, ◌+◌, ◌-◌, ◌*◌, cond, ◌&&◌, nat_le, nat_lt, List, [], ◌∷◌, slice_index_or, slice_set, ℤ, pos, negsuc, Option, Some, None}
use Rattle.byte_lists.specs.Part.{part, with_part}
use Rattle.program_meaning.specs.Answer.{or_fault, Answer, Gives, Fails, Data, Range, and_then}
use Rattle.program_meaning.specs.Tree.{Name, Subscript, Literal, Named, Part, Place}
use Rattle.program_meaning.specs.Number.{Decimal, number_in, value_of}
use Rattle.program_meaning.specs.Kind.{Kind, Group, Text, Edited, Number}
use Rattle.program_meaning.specs.Layout.{Layout, Item, Occurs, Span, item_of}

-- the bytes of each area of the program
abbrev pub Storage : Type 0
Storage = List (List ℕ)

abbrev pub read : Storage → Span → List ℕ
read store s = part (slice_index_or store s.area []) s.start s.count

abbrev pub write : Storage → Span → List ℕ → Storage
write store s new = slice_set store s.area (with_part (slice_index_or store s.area []) s.start new)

-- a place at run time: what it is taken as, and where its bytes are
pub record View : Type 0 where
  pub kind : Kind
  pub span : Span

-- the number that bytes of a kind hold; a numeric use of a text or group has none
abbrev pub decimal_in : Kind → List ℕ → Answer Decimal
decimal_in Group bs = Fails Data
decimal_in Text bs = Fails Data
decimal_in (Edited picture) bs = Fails Data
decimal_in (Number usage form) bs = or_fault Data (number_in usage form bs)

-- the item that a name means; a sound program has it
abbrev pub item_meant : Layout → List Name → Answer Item
item_meant layout ns = or_fault Range (item_of layout ns)

-- a number from 1 to a bound, else the place leaves its item
abbrev pub within : ℤ → ℕ → Answer ℕ
within (negsuc n) bound = Fails Range
within (pos n) bound = cond (nat_lt 0 n && nat_le n bound) (Gives n) (Fails Range)

module _ (layout : Layout) (store : Storage) where
  -- a subscript is a number, or an integer item
  abbrev pub subscript : Subscript → Answer ℤ
  subscript (Literal n) = Gives (pos n)
  subscript (Named ns) =
      and_then (item_meant layout ns) (λ i. and_then (decimal_in i.kind (read store i.span)) (λ d. Gives (value_of d)))

  -- occurrence i begins i - 1 elements further; the subscripts are read and checked one by one
  abbrev pub occurrence : List Occurs → List Subscript → ℕ → Answer ℕ
  occurrence [] ss o = Gives o
  occurrence (t ∷ ts) [] o = Gives o
  occurrence (t ∷ ts) (s ∷ ss) o =
      and_then (subscript s) (λ k. and_then (within k t.count) (λ i. occurrence ts ss (o + (i - 1) * t.size)))

  -- how far a reference begins behind the start of its item, and how many bytes it has; start and length are both
  -- read before they are checked
  abbrev pub reference_from : ℕ → ℤ → Option Subscript → Answer (ℕ × ℕ)
  reference_from size start None = and_then (within start size) (λ s. Gives (s - 1, size - (s - 1)))
  reference_from size start (Some l) =
      and_then (subscript l) (λ n. and_then (within start size) (λ s. and_then (within n (size - (s - 1))) (λ count. Gives (s - 1, count))))

  -- an occurrence of an item, or the text that a reference takes of it
  abbrev pub cut_view : Item → ℕ → Option Part → Answer View
  cut_view i o None = Gives (record { kind = i.kind; span = record { area = i.span.area; start = o; count = i.span.count } })
  cut_view i o (Some p) =
      and_then (subscript p.start) (λ start. and_then (reference_from i.span.count start p.length)
      (λ r. Gives (record { kind = Text; span = record { area = i.span.area; start = o + r.0; count = r.1 } })))

  -- where a place is: its subscripts first, then its reference
  abbrev pub view_of : Item → Place → Answer View
  view_of i p = and_then (occurrence i.occurs p.subs i.span.start) (λ o. cut_view i o p.cut)

  abbrev pub view : Place → Answer View
  view p = and_then (item_meant layout p.names) (λ i. view_of i p)

  abbrev pub bytes_at : View → List ℕ
  bytes_at v = read store v.span

-- what a place is taken as, before it is read: with a reference it is a text
abbrev pub cut_kind : Option Part → Kind → Kind
cut_kind None k = k
cut_kind (Some p) k = Text

abbrev pub kind_meant : Option Item → Option Part → Kind
kind_meant None cut = Text
kind_meant (Some i) cut = cut_kind cut i.kind

abbrev pub kind_of : Layout → Place → Kind
kind_of layout p = kind_meant (item_of layout p.names) p.cut
