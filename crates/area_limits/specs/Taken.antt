-- Names that a program has for generated areas.
use Rattle.std.specs.Prelude.{Bool, ◌&&◌, nat_eq, List, [], ◌∷◌, ◌++◌, codes, if◌then◌else◌}
use Rattle.std.specs.List.{starts_with}
use Rattle.y2k_base.specs.declared.word.Word.{Word}
use Rattle.plan_limits.specs.declared.limit.Limit.{Limit}
use Rattle.plan_limits.specs.declared.limit.LimitKind.TheVariants as kinds
use Rattle.plan_limits.specs.Limits.{word_limit}
use Rattle.generated_areas.specs.declared.area.GeneratedArea.{GeneratedArea}
use Rattle.area_limits.specs.Extents.{is_name}

-- a word, not a literal, that begins as the names of generated areas do
abbrev pub is_taken : Word → Bool
is_taken word = is_name word.kind && starts_with nat_eq word.text (codes "Y2K-")

abbrev pub word_limits : Word → List Limit
word_limits word = if is_taken word then word_limit kinds.NameTaken word.origin word.text ∷ [] else []

abbrev pub words_limits : List Word → List Limit
words_limits [] = []
words_limits (word ∷ words) = word_limits word ++ words_limits words

-- in a program that needs a generated area
abbrev pub taken_limits : List Word → List GeneratedArea → List Limit
taken_limits words [] = []
taken_limits words (area ∷ areas) = words_limits words
