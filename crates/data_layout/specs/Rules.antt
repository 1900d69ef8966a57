-- What an entry has to keep, rule by rule.
use Rattle.std.specs.Prelude.{ℕ, ℤ, pos, unsigned_abs, int_lt, ◌+◌, Bool, true, false, not, ◌||◌, ◌&&◌, ◌==◌, nat_le, bytes_eq, List, length, Option, Some, None, is_some, if◌then◌else◌}
use Rattle.y2k_base.specs.declared.picture.Picture.{Picture}
use Rattle.y2k_base.specs.declared.picture.PicClass.{PicClass}
use Rattle.y2k_base.specs.declared.picture.PicClass.TheVariants as picture
use Rattle.decimal_bytes.specs.declared.form.SignPlace.{SignPlace}
use Rattle.decimal_bytes.specs.declared.form.SignPlace.TheVariants as sign
use Rattle.cobol_syntax.specs.declared.expr.Operand.{Operand}
use Rattle.cobol_syntax.specs.declared.expr.Operand.TheVariants as operand
use Rattle.cobol_syntax.specs.declared.program.Entry.{Entry}
use Rattle.cobol_syntax.specs.declared.program.Usage.{Usage}
use Rattle.cobol_syntax.specs.declared.program.Usage.TheVariants as usage
use Rattle.data_layout.specs.declared.rules.Setting.{Setting}
use Rattle.data_layout.specs.declared.rules.Object.{Object}
use Rattle.data_layout.specs.declared.rules.Objects.{Objects}
use Rattle.data_layout.specs.Tree.{Forest, nothing, node}
use Rattle.data_layout.specs.Number.{is_signed, runs_of}
use Rattle.data_layout.specs.Sizes.{is_named}
use Rattle.data_layout.specs.Values.{keeps}

-- 01 to 49 and 77
abbrev pub is_level : ℕ → Bool
is_level level = (nat_le 1 level && nat_le level 49) || level == 77

-- an entry that lies in no other is an 01, or in working storage a 77; no other is
abbrev pub stands_right : Setting → ℕ → Bool
stands_right setting level =
    if setting.top then level == 1 || (level == 77 && not setting.file) else not (level == 1 || level == 77)

-- an entry that lies in no other is one of the first entries, so this says that the first is an 01 or 77; the
-- levels 02 to 49 don't stand right after a 77
abbrev pub has_level : Setting → Entry → Bool
has_level setting e = is_level e.level && (stands_right setting e.level && not setting.single)

-- whether one of these is an item
abbrev pub holds_items : Forest → Bool
holds_items nothing = false
holds_items (node e parts others) = not (is_named e) || holds_items others

abbrev pub same : Bool → Bool → Bool
same true b = b
same false b = not b

-- a group has no PICTURE, and an elementary item has one; a 77 is elementary
abbrev pub has_picture : Entry → Bool → Bool
has_picture e items = same (is_some e.picture) (e.level == 77 || not items)

abbrev pub same_name : Option (List ℕ) → List ℕ → Bool
same_name None name = false
same_name (Some own) name = bytes_eq own name

-- whether the last item that redefines nothing has this level and this name
abbrev pub is_object : Option Object → ℕ → List ℕ → Bool
is_object None level name = false
is_object (Some o) level name = o.level == level && same_name o.name name

-- the last item side by side with this level that redefines nothing. Levels fall where entries stand side by
-- side, so but for the 77 that is the last of all
abbrev pub object_of : Objects → ℕ → Option Object
object_of objects level = if level == 77 then objects.single else objects.common

-- REDEFINES names the last item side by side that has the same level and redefines nothing, and at 01 it stands
-- in working storage
abbrev pub redefines_right : Setting → Objects → ℕ → Option (List ℕ) → Bool
redefines_right setting objects level None = true
redefines_right setting objects level (Some name) =
    is_object (object_of objects level) level name && not (setting.file && level == 1)

-- OCCURS isn't at 01 or 77, its number is 1 to 65,535, and it is at most the third
abbrev pub occurs_right : Setting → ℕ → Option ℕ → Bool
occurs_right setting level None = true
occurs_right setting level (Some n) =
    not (level == 1 || level == 77) && ((nat_le 1 n && nat_le n 65535) && nat_le setting.repeats 2)

abbrev pub is_class_number : PicClass → Bool
is_class_number picture.Text = false
is_class_number picture.Number = true
is_class_number picture.Edited = false

abbrev pub is_class_text : PicClass → Bool
is_class_text picture.Text = true
is_class_text picture.Number = false
is_class_text picture.Edited = false

abbrev pub is_number : Option Picture → Bool
is_number None = false
is_number (Some p) = is_class_number p.class

-- a text or a group
abbrev pub is_text : Option Picture → Bool
is_text None = true
is_text (Some p) = is_class_text p.class

-- a text or a group has a text or a figure; a number or an edited item a number that it keeps, or ZERO
abbrev pub is_value_of : Option Picture → Operand → Bool
is_value_of p (operand.Place place) = false
is_value_of p (operand.Number value digits at) = not (is_text p) && keeps (runs_of p) value
is_value_of p (operand.Text bytes at) = is_text p
is_value_of p (operand.Figure byte at) = is_text p || byte == 48

-- VALUE stands neither in the file section, nor in a redefinition, nor inside an item with a VALUE
abbrev pub may_have_value : Setting → Entry → Bool
may_have_value setting e = not (setting.file || (setting.redefined || (is_some e.redefines || setting.valued)))

abbrev pub value_right : Setting → Entry → Option Operand → Bool
value_right setting e None = true
value_right setting e (Some value) = may_have_value setting e && is_value_of e.picture value

abbrev pub is_display : Usage → Bool
is_display usage.Display = true
is_display usage.Packed = false
is_display usage.Binary = false

-- PACKED and BINARY items have number pictures
abbrev pub usage_right : Entry → Bool
usage_right e = is_display e.usage || is_number e.picture

abbrev pub is_trailing : SignPlace → Bool
is_trailing sign.Trailing = true
is_trailing sign.Leading = false
is_trailing sign.TrailingSeparate = false
is_trailing sign.LeadingSeparate = false

-- an item with SIGN is a signed DISPLAY number. A sign over the last digit is what stands without SIGN
abbrev pub sign_right : Entry → Bool
sign_right e =
    is_trailing e.sign || (is_display e.usage && (is_number e.picture && is_signed (runs_of e.picture)))

-- the rules that rest on no length
abbrev pub keeps_rules : Setting → Objects → Entry → Bool → Bool
keeps_rules setting objects e items =
    has_level setting e
    && (has_picture e items
    && (redefines_right setting objects e.level e.redefines
    && (occurs_right setting e.level e.occurs
    && (value_right setting e e.value
    && (usage_right e && sign_right e)))))

abbrev pub fits_object : Option Object → ℕ → Bool
fits_object None bytes = true
fits_object (Some o) bytes = nat_le bytes o.bytes

-- a redefinition is no longer than its object
abbrev pub redefinition_fits : Objects → Entry → ℕ → Bool
redefinition_fits objects e bytes = not (is_some e.redefines) || fits_object (object_of objects e.level) bytes

-- a text is no longer than its item
abbrev pub operand_fits : Operand → ℕ → Bool
operand_fits (operand.Place place) bytes = true
operand_fits (operand.Number value digits at) bytes = true
operand_fits (operand.Text text at) bytes = nat_le (length text) bytes
operand_fits (operand.Figure byte at) bytes = true

abbrev pub value_fits : Option Operand → ℕ → Bool
value_fits None bytes = true
value_fits (Some value) bytes = operand_fits value bytes

-- the rules that rest on the bytes of one occurrence, and of all
abbrev pub keeps_lengths : Objects → Entry → ℕ → ℕ → Bool
keeps_lengths objects e one all = redefinition_fits objects e all && value_fits e.value one

-- an item in no other has at most 65,535 bytes
abbrev pub fits_area : Setting → ℕ → Bool
fits_area setting all = not setting.top || nat_le all 65535

abbrev pub repeats_with : ℕ → Bool → ℕ
repeats_with repeats again = if again then repeats + 1 else repeats

-- what lies round the parts of an item
abbrev pub setting_in : Setting → Entry → Setting
setting_in setting e = record {
  top = false;
  single = e.level == 77;
  file = setting.file;
  redefined = setting.redefined || is_some e.redefines;
  valued = setting.valued || is_some e.value;
  repeats = repeats_with setting.repeats (is_some e.occurs);
}

abbrev pub section : Bool → Setting
section file = record { top = true; single = false; file = file; redefined = false; valued = false; repeats = 0 }

abbrev pub no_objects : Objects
no_objects = record { common = None; single = None }

abbrev pub object : Entry → ℕ → Object
object e bytes = record { level = e.level; name = e.name; bytes = bytes }

abbrev pub with_object : Objects → Object → Objects
with_object objects o =
    if o.level == 77 then record { common = objects.common; single = Some o }
    else record { common = Some o; single = objects.single }

-- the objects with an item more, which is one unless it redefines another
abbrev pub objects_after : Objects → Entry → ℕ → Objects
objects_after objects e bytes = if is_some e.redefines then objects else with_object objects (object e bytes)

-- the integer is this number
abbrev pub is_number_of : ℤ → ℕ → Bool
is_number_of z n = not (int_lt z (pos 0)) && unsigned_abs z == n

-- RECORD CONTAINS has the greatest length
abbrev pub is_length : Operand → ℕ → Bool
is_length (operand.Place place) most = false
is_length (operand.Number value digits at) most = value.scale == 0 && is_number_of value.number most
is_length (operand.Text bytes at) most = false
is_length (operand.Figure byte at) most = false

abbrev pub contains_right : Option Operand → ℕ → Bool
contains_right None most = true
contains_right (Some contains) most = is_length contains most
