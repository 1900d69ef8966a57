-- What names stand for.
use Rattle.std.specs.Prelude.{ℕ, List, Option, Some, None, if◌then◌else◌}
use Rattle.std.specs.Str.{bytes_eq}
use Rattle.std.specs.Ordering.{nat_cmp}
use Rattle.std.specs.Cmp.Lexicographic.{slice_cmp}
use Rattle.std.specs.BTreeMap.{get_by}
use Rattle.name_tables.specs.declared.table.NameTable.{NameTable}

abbrev pub held : {V : Type 0} → NameTable V → List ℕ → Option V
held table name = get_by (λ k. slice_cmp nat_cmp name k.now) table.index

abbrev pub holds_nothing : {V : Type 0} → List ℕ → Option V
holds_nothing = λ _. None

-- with one name that stands for the value
abbrev pub with_value : {V : Type 0} → (List ℕ → Option V) → List ℕ → V → List ℕ → Option V
with_value before name value = λ other. if bytes_eq name other then Some value else before other
