-- The words of conditions, and the edits of those with an order that goes by a window.
use Rattle.std.specs.Prelude.{ℕ, ℤ, pos, int_lt, Bool, true, false, ◌||◌, List, [], ◌∷◌, ◌++◌, codes, slice_get, Option, Some, None, if◌then◌else◌}
use Rattle.y2k_base.specs.declared.edit.Edit.{Edit}
use Rattle.y2k_base.specs.declared.word.Origin.{Origin}
use Rattle.y2k_base.specs.declared.word.Word.{Word}
use Rattle.statement_rules.specs.Statements.{origin_at}
use Rattle.statement_words.specs.Edited.{stretch}
use Rattle.statement_words.specs.NewWords.{text_words, is_name}
use Rattle.window_rewrite.specs.Old.{Old}
use Rattle.window_rewrite.specs.Asked.{Asked, Relation, Class, Sign, Named, Not, And, Or, at_of, end_of}
use Rattle.window_rewrite.specs.Expressions.{place_words, tree_words}
use Rattle.window_rewrite.specs.Orders.{is_windowed}
use Rattle.window_rewrite.specs.Relations.{relation_words}

-- some relation in it is an order with a windowed year
abbrev pub has_window : Old → Asked → Bool
has_window old (Relation at end s rel t) = is_windowed old s rel t
has_window old (Class at end of numeric) = false
has_window old (Sign at end of sign) = false
has_window old (Named at end place) = false
has_window old (Not at end inner) = has_window old inner
has_window old (And at end left right) = has_window old left || has_window old right
has_window old (Or at end left right) = has_window old left || has_window old right

abbrev pub class_form : Bool → List ℕ
class_form numeric = if numeric then codes "NUMERIC" else codes "ALPHABETIC"

-- a sign as -1, 0 or 1
abbrev pub sign_form : ℤ → List ℕ
sign_form sign = if int_lt sign (pos 0) then codes "NEGATIVE" else (if int_lt (pos 0) sign then codes "POSITIVE" else codes "ZERO")

-- NOT under a NOT stands in parentheses
abbrev pub not_words : Origin → Bool → List Word → List Word
not_words origin under inner =
    if under then text_words origin (codes "( NOT") ++ (inner ++ text_words origin (codes ")"))
    else text_words origin (codes "NOT") ++ inner

abbrev pub joined_words : Origin → List Word → List ℕ → List Word → List Word
joined_words origin left operator right =
    text_words origin (codes "(") ++ (left ++ (text_words origin operator ++ (right ++ text_words origin (codes ")"))))

-- a condition, under a NOT or not
abbrev pub condition_words : Old → Origin → Bool → Asked → List Word
condition_words old origin under (Relation at end s rel t) = relation_words old origin s rel t
condition_words old origin under (Class at end of numeric) = place_words old of ++ text_words origin (class_form numeric)
condition_words old origin under (Sign at end of sign) = tree_words old origin of ++ text_words origin (sign_form sign)
condition_words old origin under (Named at end place) = place_words old place
condition_words old origin under (Not at end inner) = not_words origin under (condition_words old origin true inner)
condition_words old origin under (And at end left right) =
    joined_words origin (condition_words old origin false left) (codes "AND") (condition_words old origin false right)
condition_words old origin under (Or at end left right) =
    joined_words origin (condition_words old origin false left) (codes "OR") (condition_words old origin false right)

abbrev pub new_words : Old → Asked → List Word
new_words old x = condition_words old (origin_at old.words (at_of x)) false x

-- one with a windowed order is written anew
abbrev pub whole_edits : Old → Asked → List Edit
whole_edits old x = if has_window old x then stretch old.program old.words (at_of x) (end_of x) (new_words old x) else []

abbrev pub is_when_word : Option Word → Bool
is_when_word None = false
is_when_word (Some word) = is_name (codes "WHEN") word

abbrev pub is_when : List Word → ℕ → Bool
is_when words position = is_when_word (slice_get words position)

-- the condition of an IF or an UNTIL: those of several WHENs before one body are each written by itself
abbrev pub test_edits : Old → Asked → List Edit
test_edits old (Relation at end s rel t) = whole_edits old (Relation at end s rel t)
test_edits old (Class at end of numeric) = whole_edits old (Class at end of numeric)
test_edits old (Sign at end of sign) = whole_edits old (Sign at end of sign)
test_edits old (Named at end place) = whole_edits old (Named at end place)
test_edits old (Not at end inner) = whole_edits old (Not at end inner)
test_edits old (And at end left right) = whole_edits old (And at end left right)
test_edits old (Or at end left right) =
    if is_when old.words (end_of left) then test_edits old left ++ whole_edits old right else whole_edits old (Or at end left right)
