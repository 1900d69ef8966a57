-- What the meaning of a name tells: the item or the condition-name that it gives by its number, of lists of them.
use Rattle.std.specs.Prelude.{List, Option, None, slice_get}
use Rattle.data_layout.specs.declared.found.Found.{Found}
use Rattle.data_layout.specs.declared.found.Found.TheVariants as found

abbrev pub item_told : {A : Type 0} → List A → Found → Option A
item_told items (found.Item k) = slice_get items k
item_told items (found.Named k) = None
item_told items found.Unknown = None
item_told items found.Twice = None

abbrev pub cond_told : {A : Type 0} → List A → Found → Option A
cond_told conds (found.Item k) = None
cond_told conds (found.Named k) = slice_get conds k
cond_told conds found.Unknown = None
cond_told conds found.Twice = None
