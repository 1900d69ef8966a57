-- Items and condition-names, where their bytes are, and what a name means.
use Rattle.std.specs.Prelude.{ℕ, Bool, true, false, cond, ◌&&◌, ◌==◌, List, [], ◌∷◌, Option, Some, None}
use Rattle.program_meaning.specs.Tree.{Name, Operand}
use Rattle.program_meaning.specs.Kind.{Kind}

-- bytes of an area of the program
pub record Span : Type 0 where
  pub area : ℕ
  pub start : ℕ
  pub count : ℕ

-- an OCCURS round an item: the size of its elements, and how many they are
pub record Occurs : Type 0 where
  pub size : ℕ
  pub count : ℕ

-- an item, with the names of the groups that hold it, from the innermost on, and at the end that of its file.
-- The span is that of its first occurrence; each OCCURS round it, the outermost first; the value is that of VALUE
pub record Item : Type 0 where
  pub name : Name
  pub above : List Name
  pub span : Span
  pub kind : Kind
  pub occurs : List Occurs
  pub value : Option Operand

-- a value of a condition-name, or a range from one to another
pub record Values : Type 0 where
  pub low : Operand
  pub high : Option Operand

-- a condition-name with its item and its values
pub record CondName : Type 0 where
  pub name : Name
  pub above : List Name
  pub item : Item
  pub values : List Values

-- how many bytes each area has, the items in text order, and the condition-names
pub record Layout : Type 0 where
  pub areas : List ℕ
  pub items : List Item
  pub conds : List CondName

abbrev pub same_name : Name → Name → Bool
same_name [] [] = true
same_name [] (d ∷ ds) = false
same_name (c ∷ cs) [] = false
same_name (c ∷ cs) (d ∷ ds) = c == d && same_name cs ds

-- each qualifier is a name above, from the inside to the outside
abbrev pub qualifies : List Name → List Name → Bool
qualifies [] above = true
qualifies (q ∷ qs) [] = false
qualifies (q ∷ qs) (a ∷ above) = cond (same_name q a) (qualifies qs above) (qualifies (q ∷ qs) above)

-- a name with qualifiers means what has the name and stands under them
abbrev pub means : List Name → Name → List Name → Bool
means [] name above = false
means (n ∷ qs) name above = same_name n name && qualifies qs above

abbrev pub only_one : {A : Type 0} → List A → Option A
only_one [] = None
only_one (a ∷ []) = Some a
only_one (a ∷ b ∷ bs) = None

abbrev pub items_meant : List Name → List Item → List Item
items_meant ns [] = []
items_meant ns (i ∷ is) = cond (means ns i.name i.above) (i ∷ items_meant ns is) (items_meant ns is)

abbrev pub conds_meant : List Name → List CondName → List CondName
conds_meant ns [] = []
conds_meant ns (c ∷ cs) = cond (means ns c.name c.above) (c ∷ conds_meant ns cs) (conds_meant ns cs)

-- the item, or the condition-name, that a name means: exactly one has it
abbrev pub item_of : Layout → List Name → Option Item
item_of layout ns = only_one (items_meant ns layout.items)

abbrev pub cond_of : Layout → List Name → Option CondName
cond_of layout ns = only_one (conds_meant ns layout.conds)
