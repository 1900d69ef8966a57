-- Condition-names: the values of each, and where its item is.
use Rattle.std.specs.Prelude.{ℕ, List, [], Option, Some, None, slice_get}
use Rattle.cobol_syntax.specs.declared.program.Range as tree_range
use Rattle.data_layout.specs.declared.item.CondItem.{CondItem}
use Rattle.data_layout.specs.declared.item.Layout.{Layout}
use Rattle.program_meaning.specs.Answer.{Answer, Gives, or_fault, and_then}
use Rattle.program_meaning.specs.Answer as answer
use Rattle.program_meaning.specs.Layout as meant
use Rattle.program_meaning.specs.Storage as meaning
use Rattle.program_meaning.specs.Storage.{view_of}
use Rattle.program_meaning.specs.Tree as tree

-- the values of a condition-name that is there
abbrev pub ranges_of : Option CondItem → List tree_range.Range
ranges_of None = []
ranges_of (Some c) = c.ranges

abbrev pub ranges_at : Layout → ℕ → List tree_range.Range
ranges_at layout number = ranges_of (slice_get layout.conds number)

-- where the item of a condition-name is, and the values of the name
abbrev pub named_view : meant.Layout → meaning.Storage → tree.Place → Answer (meaning.View × List meant.Values)
named_view layout store place =
    and_then (or_fault answer.Range (meant.cond_of layout place.names)) (λ c. and_then (view_of layout store c.item place) (λ v. Gives (v, c.values)))
