-- The words that edits bring, by the place of the edited word in a text and by its position in a program.
use Rattle.std.specs.Prelude.{Bool, List, Option, None, Some, option_map, if◌then◌else◌}
use Rattle.std.specs.BTreeMap.{get}
use Rattle.std.specs.declared.cmp.Ordering.{Ordering}
use Rattle.std.specs.Ordering.{nat_cmp, ordering_then, is_eq}
use Rattle.y2k_base.specs.Edits.{place_cmp}
use Rattle.y2k_base.specs.declared.edit.WordPlace.{WordPlace}
use Rattle.y2k_base.specs.declared.word.Origin.{Origin}
use Rattle.y2k_base.specs.declared.word.Word.{Word}
use Rattle.source_edit.specs.declared.changes.Changes.{Changes}
use Rattle.source_edit.specs.declared.changes.Replacements.{Replacements}

-- places of texts go by file, line and column
abbrev pub origin_cmp : Origin → Origin → Ordering
origin_cmp a b = ordering_then (nat_cmp a.file.0 b.file.0) (ordering_then (nat_cmp a.line b.line) (nat_cmp a.column b.column))

abbrev pub is_at : Origin → Origin → Bool
is_at a b = is_eq (origin_cmp a b)

abbrev pub is_place : WordPlace → WordPlace → Bool
is_place a b = is_eq (place_cmp a b)

-- the words that are to stand in place of the word at an origin
abbrev pub changed : Changes → Origin → Option (List Word)
changed changes origin = option_map (λ words. words.now) (get origin_cmp changes.index origin)

abbrev pub nothing : Origin → Option (List Word)
nothing = λ _. None

abbrev pub with_change : (Origin → Option (List Word)) → Origin → List Word → Origin → Option (List Word)
with_change before origin words = λ other. if is_at origin other then Some words else before other

-- the words that are to stand in place of the word at a position
abbrev pub replaced : Replacements → WordPlace → Option (List Word)
replaced replacements place = option_map (λ words. words.now) (get place_cmp replacements.index place)

abbrev pub none_replaced : WordPlace → Option (List Word)
none_replaced = λ _. None

abbrev pub with_replacement : (WordPlace → Option (List Word)) → WordPlace → List Word → WordPlace → Option (List Word)
with_replacement before place words = λ other. if is_place place other then Some words else before other
