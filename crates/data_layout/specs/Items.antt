-- Which items and condition-names entries make, and where the items stand.
use Rattle.std.specs.Prelude.{ℕ, ◌+◌, false, ◌||◌, List, [], ◌∷◌, ◌++◌, Option, Some, None, if◌then◌else◌, is_some}
use Rattle.y2k_base.specs.declared.picture.Picture.{Picture}
use Rattle.y2k_base.specs.declared.picture.PicClass.{PicClass}
use Rattle.y2k_base.specs.declared.picture.PicClass.TheVariants as picture
use Rattle.cobol_syntax.specs.declared.program.Entry.{Entry}
use Rattle.data_layout.specs.declared.item.Item.{Item}
use Rattle.data_layout.specs.declared.item.Step.{Step}
use Rattle.data_layout.specs.declared.item.CondItem.{CondItem}
use Rattle.data_layout.specs.declared.item.Class.{Class}
use Rattle.data_layout.specs.declared.item.Class.TheVariants as class
use Rattle.data_layout.specs.declared.lay.Around.{Around}
use Rattle.data_layout.specs.Tree.{Forest, nothing, node}
use Rattle.data_layout.specs.Number.{form_of}
use Rattle.data_layout.specs.Sizes.{is_named, total, size, adds}

abbrev pub picture_class : PicClass → Class
picture_class picture.Text = class.Text
picture_class picture.Number = class.Number
picture_class picture.Edited = class.Edited

abbrev pub class_of : Option Picture → Class
class_of None = class.Group
class_of (Some p) = picture_class p.class

-- each OCCURS round an item, its own last
abbrev pub steps_of : List Step → Option ℕ → ℕ → List Step
steps_of steps None bytes = steps
steps_of steps (Some count) bytes = steps ++ record { size = bytes; count = count } ∷ []

-- an item of so many bytes at an offset
abbrev pub item_of : Around → ℕ → Entry → ℕ → Item
item_of around start e bytes = record {
  name = e.name;
  level = e.level;
  parent = around.parent;
  span = record { area = around.area; offset = start; length = bytes };
  class = class_of e.picture;
  usage = e.usage;
  form = form_of e.picture e.sign;
  picture = e.picture;
  steps = steps_of around.steps e.occurs bytes;
  entry_at = e.at;
}

-- what lies round the parts of an item
abbrev pub inside : Around → ℕ → Entry → ℕ → Around
inside around number e bytes = record {
  area = around.area;
  parent = Some number;
  steps = steps_of around.steps e.occurs bytes;
  alike = false;
}

-- how many items the entries make
abbrev pub item_count : Forest → ℕ
item_count nothing = 0
item_count (node e parts next) = (if is_named e then 0 else 1 + item_count parts) + item_count next

-- where an item starts: a redefinition where its object does, which is the last item before it, side by side,
-- that redefines nothing; records of one file all start alike; any other after the last
abbrev pub start_of : Around → Entry → ℕ → ℕ → ℕ
start_of around e next object = if around.alike || is_some e.redefines then object else next

-- the items of entries side by side: the first with this number, what redefines nothing at next, and the last
-- that redefines nothing at object
abbrev pub items : Around → ℕ → ℕ → ℕ → Forest → List Item
items around number next object nothing = []
items around number next object (node e parts others) =
    if is_named e then items around number next object others
    else item_of around (start_of around e next object) e (size e parts) ∷
    (items (inside around number e (size e parts)) (number + 1) (start_of around e next object) (start_of around e next object) parts
    ++ items around (number + (1 + item_count parts)) (next + adds e (total parts)) (start_of around e next object) others)

abbrev pub name_or_none : Option (List ℕ) → List ℕ
name_or_none None = []
name_or_none (Some name) = name

abbrev pub number_or_first : Option ℕ → ℕ
number_or_first None = 0
number_or_first (Some number) = number

abbrev pub cond_of : Option ℕ → Entry → CondItem
cond_of parent e = record {
  name = name_or_none e.name;
  item = number_or_first parent;
  ranges = e.ranges;
  entry_at = e.at;
}

-- the condition-names of entries side by side, each of the item that it follows
abbrev pub conds : Option ℕ → ℕ → Forest → List CondItem
conds parent number nothing = []
conds parent number (node e parts others) =
    if is_named e then cond_of parent e ∷ conds parent number others
    else conds (Some number) (number + 1) parts ++ conds parent (number + (1 + item_count parts)) others
