-- The rules of items whose pictures are one text: one PICTURE word of one copybook.
use Rattle.std.specs.Prelude.{ℕ, Bool, true, false, nat_lt, min, List, [], ◌∷◌, ◌++◌, drop, Option, Some, None, is_some, if◌then◌else◌}
use Rattle.std.specs.declared.cmp.Ordering.{Ordering}
use Rattle.std.specs.Ordering.{nat_cmp, ordering_then, is_eq}
use Rattle.std.specs.BTreeMap.{get}
use Rattle.y2k_base.specs.declared.place.Span.{Span}
use Rattle.y2k_base.specs.declared.word.Origin.{Origin}
use Rattle.y2k_base.specs.declared.word.Word.{Word}
use Rattle.y2k_base.specs.declared.word.WordKind.{WordKind}
use Rattle.y2k_base.specs.declared.word.WordKind.TheVariants as word
use Rattle.cobol_syntax.specs.declared.program.Program.{Program}
use Rattle.data_layout.specs.declared.item.Item.{Item}
use Rattle.data_layout.specs.declared.item.Layout.{Layout}
use Rattle.year_labels.specs.declared.rule.Rule.TheVariants as rules
use Rattle.year_labels.specs.declared.rule.RuleForm.TheVariants as forms
use Rattle.year_labels.specs.declared.rule.RuleInst.{RuleInst}
use Rattle.date_views.specs.Uses.{inst, front}
use Rattle.statement_rules.specs.Statements.{origin_at}
use Rattle.date_types.specs.declared.pictures.Pictured.{Pictured}
use Rattle.date_types.specs.declared.pictures.Longest.{Longest}

abbrev pub is_picture : WordKind → Bool
is_picture word.Name = false
is_picture word.Number = false
is_picture word.Literal = false
is_picture word.Picture = true
is_picture word.Mark = false

-- where the first PICTURE word of these words stands
abbrev pub first_picture : List Word → Option Origin
first_picture [] = None
first_picture (w ∷ words) = if is_picture w.kind then Some w.origin else first_picture words

abbrev pub pictured_if : Span → Origin → Option Origin → List Pictured
pictured_if span at None = []
pictured_if span at (Some origin) = record { origin = origin; span = span; at = at } ∷ []

-- an item with its PICTURE word, which is the first after the level number of its entry
abbrev pub pictured_item : List Word → Item → List Pictured
pictured_item words item =
    if is_some item.picture then pictured_if item.span (origin_at words item.entry_at) (first_picture (drop item.entry_at words)) else []

abbrev pub pictured_items : List Word → List Item → List Pictured
pictured_items words [] = []
pictured_items words (item ∷ items) = pictured_item words item ++ pictured_items words items

abbrev pub pictured : List Program → List Layout → List Pictured
pictured [] layouts = []
pictured (program ∷ programs) [] = []
pictured (program ∷ programs) (layout ∷ layouts) = pictured_items program.words layout.items ++ pictured programs layouts

-- by file, line and column
abbrev pub origin_cmp : Origin → Origin → Ordering
origin_cmp a b = ordering_then (nat_cmp a.file.0 b.file.0) (ordering_then (nat_cmp a.line b.line) (nat_cmp a.column b.column))

abbrev pub are_one : Origin → Origin → Bool
are_one a b = is_eq (origin_cmp a b)

-- the longest item so far with the PICTURE word at that place
abbrev pub held : Longest → Origin → Option Pictured
held longest origin = get origin_cmp longest.items origin

abbrev pub longer : Option Pictured → Pictured → Pictured
longer None one = one
longer (Some other) one = if nat_lt other.span.length one.span.length then one else other

abbrev pub after : (Origin → Option Pictured) → Pictured → Origin → Option Pictured
after before one = λ origin. if are_one one.origin origin then Some (longer (before one.origin) one) else before origin

-- alike up to the shorter
abbrev pub tie : Option Pictured → Pictured → List RuleInst
tie None one = []
tie (Some other) one = inst rules.Origin one.at (forms.Alike (front other.span one.span.length) (front one.span other.span.length)) ∷ []

-- each item is tied to the longest before it with the same PICTURE word, and so any two are alike up to the shorter
abbrev pub ties : (Origin → Option Pictured) → List Pictured → List RuleInst
ties before [] = []
ties before (one ∷ more) = tie (before one.origin) one ++ ties (after before one) more

abbrev pub none : Origin → Option Pictured
none = λ origin. None

abbrev pub picture_rules : List Program → List Layout → List RuleInst
picture_rules programs layouts = ties none (pictured programs layouts)
