-- Labels whose areas are told by their names.
use Rattle.std.specs.Prelude.{◌↔◌, ℕ, List, Contains, map}
use Rattle.std.specs.List.Sorted.{IsStrictlySortedBy}
use Rattle.std.specs.declared.cmp.Ordering.{Ordering}
use Rattle.std.specs.Ordering.{nat_cmp, ordering_then}
use Rattle.std.specs.Cmp.Lexicographic.{slice_cmp}
use Rattle.data_layout.specs.declared.portfolio.Portfolio.{Portfolio}
use Rattle.year_labels.specs.declared.label.Fact.{Fact}
use Rattle.year_labels.specs.Order.{label_cmp}
use Rattle.label_update.specs.Names.{name_at, names_of}
use Rattle.label_update.specs.declared.named.NamedFact.{NamedFact}
use Rattle.label_update.specs.declared.names.AreaName.{AreaName}

-- the fact with the name of its area
abbrev pub named_fact : List AreaName → Fact → NamedFact
named_fact names f = record { area = name_at names f.place.area; offset = f.place.offset; label = f.label }

-- by program and name in byte order, then by turn, offset and label
abbrev pub named_cmp : NamedFact → NamedFact → Ordering
named_cmp f g =
    ordering_then (slice_cmp nat_cmp f.area.program g.area.program)
    (ordering_then (slice_cmp nat_cmp f.area.name g.area.name)
    (ordering_then (nat_cmp f.area.turn g.area.turn) (ordering_then (nat_cmp f.offset g.offset) (label_cmp f.label g.label))))

-- each stands before those behind it
abbrev pub IsAscending : List NamedFact → Type 0
IsAscending = IsStrictlySortedBy named_cmp

-- the facts of the portfolio with the names of their areas, each once and in order
pub record AreNamed (portfolio : Portfolio) (facts : List Fact) (named : List NamedFact) : Type 0 where
  pub ordered : IsAscending named
  pub same : (f : NamedFact) → Contains named f ↔ Contains (map (named_fact (names_of portfolio)) facts) f
