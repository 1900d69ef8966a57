-- Where a resolved place is: its subscripts are read and checked one by one, then its reference.
use Rattle.std.specs.Prelude.{ℕ, ◌+◌, ◌-◌, ◌*◌, List, [], ◌∷◌, ℤ, pos, Option, Some, None}
use Rattle.y2k_base.specs.declared.place.Span.{Span}
use Rattle.y2k_base.specs.declared.picture.Picture.{Picture}
use Rattle.data_layout.specs.declared.item.Step.{Step}
use Rattle.operand_kinds.specs.declared.kind.Kind as operand
use Rattle.operand_kinds.specs.declared.kind.Kind.TheVariants as kinds
use Rattle.program_meaning.specs.Answer.{Answer, Gives, and_then}
use Rattle.program_meaning.specs.Number.{value_of}
use Rattle.program_meaning.specs.Kind.{Kind, Group, Text, Edited, Number}
use Rattle.program_meaning.specs.Storage.{Storage, read, decimal_in, within}
use Rattle.tree_reading.specs.Reading.{read_usage}
use Rattle.layout_reading.specs.Kinds.{read_form, symbols}
use Rattle.layout_reading.specs.Reading.{read_span}
use Rattle.storage_places.specs.declared.access.Bound.{Bound}
use Rattle.storage_places.specs.declared.access.Bound.TheVariants as bound
use Rattle.storage_places.specs.declared.access.Cut.{Cut}
use Rattle.storage_places.specs.declared.access.Access.{Access}

-- what a resolved place is taken as
abbrev pub kind_with : operand.Kind → Option Picture → Kind
kind_with kinds.Group picture = Group
kind_with kinds.Text picture = Text
kind_with (kinds.Edited form) picture = Edited (symbols picture)
kind_with (kinds.Number usage form) picture = Number (read_usage usage) (read_form form)

abbrev pub access_kind : Access → Kind
access_kind a = kind_with a.kind a.picture

-- so many bytes from an offset on
abbrev pub span_from : Span → ℕ → ℕ → Span
span_from span offset length = record { area = span.area; offset = offset; length = length }

module _ (first : ℕ) (store : Storage) where
  abbrev pub bound_value : Bound → Answer ℤ
  bound_value (bound.Literal n) = Gives (pos n)
  bound_value (bound.Number x) =
      and_then (decimal_in (Number (read_usage x.usage) (read_form x.form)) (read store (read_span first x.span))) (λ d. Gives (value_of d))

  -- where the occurrence begins
  abbrev pub occurrence_at : List Step → List Bound → ℕ → Answer ℕ
  occurrence_at [] bs o = Gives o
  occurrence_at (s ∷ ss) [] o = Gives o
  occurrence_at (s ∷ ss) (b ∷ bs) o = and_then (bound_value b) (λ k. and_then (within k s.count) (λ i. occurrence_at ss bs (o + (i - 1) * s.size)))

  -- the bytes of a reference, of so many from an offset on
  abbrev pub reference_at : Span → ℕ → ℕ → ℤ → Option Bound → Answer Span
  reference_at span o size start None = and_then (within start size) (λ s. Gives (span_from span (o + (s - 1)) (size - (s - 1))))
  reference_at span o size start (Some l) =
      and_then (bound_value l) (λ n. and_then (within start size) (λ s. and_then (within n (size - (s - 1))) (λ count. Gives (span_from span (o + (s - 1)) count))))

  abbrev pub cut_at : Span → ℕ → Option Cut → Answer Span
  cut_at span o None = Gives (span_from span o span.length)
  cut_at span o (Some c) = and_then (bound_value c.start) (λ start. reference_at span o span.length start c.length)

  abbrev pub span_at : Access → Answer Span
  span_at a = and_then (occurrence_at a.steps a.subs a.span.offset) (λ o. cut_at a.span o a.cut)
