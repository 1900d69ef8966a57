-- The items that the entries of a DATA DIVISION make, and where they stand.
use Rattle.std.specs.Prelude.{◌/◌, ℕ, ◌+◌, ◌*◌, max, Bool, true, false, cond, ◌&&◌, ◌==◌, nat_lt, List, [], ◌∷◌, ◌++◌, length, map, Option, Some, None}
use Rattle.program_meaning.specs.Tree.{Name, Operand}
use Rattle.program_meaning.specs.Number.{Usage, Display, Packed, Binary, SignPlace, Trailing, Leading, TrailingSeparate, LeadingSeparate, NumForm, binary_size}
use Rattle.program_meaning.specs.Kind.{Kind, Group, Text, Edited, Number, symbol_of}
use Rattle.program_meaning.specs.Layout.{Layout, Item, Occurs, CondName, Values}

-- a picture, written out: of a text, of edited digits, or of a number
pub data Picture : Type 0 where
  TextPicture : (symbols : List ℕ) → Picture
  EditedPicture : (symbols : List ℕ) → Picture
  NumberPicture : (symbols : List ℕ) → Picture

-- an entry. One without a name, as FILLER, has an empty name; level 88 has values
pub record Entry : Type 0 where
  pub level : ℕ
  pub name : Name
  pub redefines : Bool
  pub occurs : Option ℕ
  pub picture : Option Picture
  pub usage : Usage
  pub sign : SignPlace
  pub value : Option Operand
  pub values : List Values

-- an entry with those under it, and entries side by side
mutual
  pub data Node : Type 0 where
    Under : (entry : Entry) (parts : Nodes) → Node

  pub data Nodes : Type 0 where
    NoNodes : Nodes
    More : (first : Node) (rest : Nodes) → Nodes

-- a 77 stands at the top as an 01 does
abbrev pub depth : Entry → ℕ
depth e = cond (e.level == 77) 1 e.level

abbrev pub node_depth : Node → ℕ
node_depth (Under e ps) = depth e

-- the first nodes that stand deeper, and those from the first on that doesn't
abbrev pub deeper : ℕ → Nodes → Nodes
deeper d NoNodes = NoNodes
deeper d (More n ns) = cond (nat_lt d (node_depth n)) (More n (deeper d ns)) NoNodes

abbrev pub beyond : ℕ → Nodes → Nodes
beyond d NoNodes = NoNodes
beyond d (More n ns) = cond (nat_lt d (node_depth n)) (beyond d ns) (More n ns)

-- an entry holds those after it that stand deeper, a condition-name none
abbrev pub forest : List Entry → Nodes
forest [] = NoNodes
forest (e ∷ es) = More (Under e (deeper (depth e) (forest es))) (beyond (depth e) (forest es))

-- how often a symbol stands in a picture
abbrev pub count_of : ℕ → List ℕ → ℕ
count_of c [] = 0
count_of c (s ∷ ss) = cond (s == c) 1 0 + count_of c ss

-- the digits after V
abbrev pub after_point : List ℕ → ℕ
after_point [] = 0
after_point (s ∷ ss) = cond (s == 86) (count_of 57 ss) (after_point ss)

-- 9 is a digit, V the point, S the sign
abbrev pub number_form : SignPlace → List ℕ → NumForm
number_form place ss = record { digits = count_of 57 ss; scale = after_point ss; signed = nat_lt 0 (count_of 83 ss); sign = place }

abbrev pub is_separate : SignPlace → Bool
is_separate Trailing = false
is_separate Leading = false
is_separate TrailingSeparate = true
is_separate LeadingSeparate = true

-- how many bytes a number has
abbrev pub number_size : Usage → NumForm → ℕ
number_size Display form = form.digits + cond (form.signed && is_separate form.sign) 1 0
number_size Packed form = form.digits / 2 + 1
number_size Binary form = binary_size form.digits

abbrev pub picture_size : Usage → SignPlace → Picture → ℕ
picture_size usage place (TextPicture ss) = length ss
picture_size usage place (EditedPicture ss) = length ss
picture_size usage place (NumberPicture ss) = number_size usage (number_form place ss)

abbrev pub times : Option ℕ → ℕ → ℕ
times None n = n
times (Some k) n = k * n

-- one occurrence of an entry, and all its parts that redefine nothing
abbrev pub one_size : Entry → Option Picture → ℕ → ℕ
one_size e None inside = inside
one_size e (Some p) inside = picture_size e.usage e.sign p

abbrev mutual
  pub element_size : Node → ℕ
  element_size (Under e ps) = one_size e e.picture (parts_size ps)

  pub parts_size : Nodes → ℕ
  parts_size NoNodes = 0
  parts_size (More n ns) = whole_size n (element_size n) + parts_size ns

  -- all occurrences; a redefinition takes no bytes of its own
  pub whole_size : Node → ℕ → ℕ
  whole_size (Under e ps) size = cond e.redefines 0 (times e.occurs size)

-- what an entry makes: a group where it has no picture
abbrev pub kind_by : Usage → SignPlace → Option Picture → Kind
kind_by usage place None = Group
kind_by usage place (Some (TextPicture ss)) = Text
kind_by usage place (Some (EditedPicture ss)) = Edited (map symbol_of ss)
kind_by usage place (Some (NumberPicture ss)) = Number usage (number_form place ss)

-- where entries stand: the names above, the area, and the occurrences round them
pub record Context : Type 0 where
  pub above : List Name
  pub area : ℕ
  pub occurs : List Occurs

abbrev pub own_occurs : Option ℕ → ℕ → List Occurs
own_occurs None size = []
own_occurs (Some k) size = record { size = size; count = k } ∷ []

abbrev pub item_at : Context → Entry → ℕ → ℕ → Item
item_at c e start size =
    record { name = e.name; above = c.above; span = record { area = c.area; start = start; count = size }; kind = kind_by e.usage e.sign e.picture; occurs = c.occurs ++ own_occurs e.occurs size; value = e.value }

-- only a group is a qualifier
abbrev pub names_with : Option Picture → Name → List Name → List Name
names_with None n above = n ∷ above
names_with (Some p) n above = above

abbrev pub inside : Context → Entry → ℕ → Context
inside c e size = record { above = names_with e.picture e.name c.above; area = c.area; occurs = c.occurs ++ own_occurs e.occurs size }

abbrev pub is_named_value : Entry → Bool
is_named_value e = e.level == 88

-- the items of nodes. A part starts after the earlier ones that redefine nothing; a redefinition where the last of them starts
abbrev mutual
  pub items_in : Context → ℕ → Node → List Item
  items_in c start (Under e ps) = cond (is_named_value e) [] (item_at c e start (one_size e e.picture (parts_size ps)) ∷ items_all (inside c e (one_size e e.picture (parts_size ps))) start start ps)

  pub items_all : Context → ℕ → ℕ → Nodes → List Item
  items_all c last next NoNodes = []
  items_all c last next (More n ns) =
      cond (redefines n) (items_in c last n ++ items_all c last next ns) (items_in c next n ++ items_all c next (next + whole_size n (element_size n)) ns)

  pub redefines : Node → Bool
  redefines (Under e ps) = e.redefines

-- the condition-names of nodes, each with the item that it follows
abbrev mutual
  pub conds_in : Context → ℕ → Node → List CondName
  conds_in c start (Under e ps) = conds_all (inside c e (one_size e e.picture (parts_size ps))) (item_at c e start (one_size e e.picture (parts_size ps))) start start ps

  pub conds_all : Context → Item → ℕ → ℕ → Nodes → List CondName
  conds_all c of last next NoNodes = []
  conds_all c of last next (More n ns) =
      cond (redefines n) (own_cond c of n ++ (conds_in c last n ++ conds_all c of last next ns))
      (own_cond c of n ++ (conds_in c next n ++ conds_all c of next (next + whole_size n (element_size n)) ns))

  pub own_cond : Context → Item → Node → List CondName
  own_cond c of (Under e ps) = cond (is_named_value e) (record { name = e.name; above = c.above; item = of; values = e.values } ∷ []) []

-- an FD with the entries of its records
pub record FileEntry : Type 0 where
  pub name : Name
  pub entries : List Entry

abbrev pub top : List Name → ℕ → Context
top above area = record { above = above; area = area; occurs = [] }

-- the records of a file all begin where its area does
abbrev pub record_items : Context → Nodes → List Item
record_items c NoNodes = []
record_items c (More n ns) = items_in c 0 n ++ record_items c ns

abbrev pub record_conds : Context → Nodes → List CondName
record_conds c NoNodes = []
record_conds c (More n ns) = conds_in c 0 n ++ record_conds c ns

-- as long as the longest record
abbrev pub record_length : Nodes → ℕ
record_length NoNodes = 0
record_length (More n ns) = max (element_size n) (record_length ns)

-- the areas of the last 01 and of the last 77 that redefine nothing, and the number of the next area
pub record Owners : Type 0 where
  pub last : ℕ
  pub last_single : ℕ
  pub next : ℕ

abbrev pub is_single : Node → Bool
is_single (Under e ps) = e.level == 77

-- each 01 or 77 that redefines nothing is an area, and a redefinition stands in that of the last of its level
abbrev pub area_of : Owners → Node → ℕ
area_of o n = cond (redefines n) (cond (is_single n) o.last_single o.last) o.next

abbrev pub owners_after : Owners → Node → Owners
owners_after o n =
    cond (redefines n) o (record { last = cond (is_single n) o.last o.next; last_single = cond (is_single n) o.next o.last_single; next = o.next + 1 })

abbrev pub storage_items : Owners → Nodes → List Item
storage_items o NoNodes = []
storage_items o (More n ns) = items_in (top [] (area_of o n)) 0 n ++ storage_items (owners_after o n) ns

abbrev pub storage_conds : Owners → Nodes → List CondName
storage_conds o NoNodes = []
storage_conds o (More n ns) = conds_in (top [] (area_of o n)) 0 n ++ storage_conds (owners_after o n) ns

abbrev pub storage_areas : Nodes → List ℕ
storage_areas NoNodes = []
storage_areas (More n ns) = cond (redefines n) (storage_areas ns) (element_size n ∷ storage_areas ns)

abbrev pub file_areas : List FileEntry → List ℕ
file_areas [] = []
file_areas (f ∷ fs) = record_length (forest f.entries) ∷ file_areas fs

abbrev pub file_items : ℕ → List FileEntry → List Item
file_items k [] = []
file_items k (f ∷ fs) = record_items (top (f.name ∷ []) k) (forest f.entries) ++ file_items (k + 1) fs

abbrev pub file_conds : ℕ → List FileEntry → List CondName
file_conds k [] = []
file_conds k (f ∷ fs) = record_conds (top (f.name ∷ []) k) (forest f.entries) ++ file_conds (k + 1) fs

abbrev pub owners_from : ℕ → Owners
owners_from n = record { last = n; last_single = n; next = n }

-- the areas of files first, then those of working storage
abbrev pub layout_of : List FileEntry → List Entry → Layout
layout_of fs es =
    record {
      areas = file_areas fs ++ storage_areas (forest es);
      items = file_items 0 fs ++ storage_items (owners_from (length fs)) (forest es);
      conds = file_conds 0 fs ++ storage_conds (owners_from (length fs)) (forest es);
    }
