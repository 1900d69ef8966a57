-- The words of operands and of expressions.
use Rattle.std.specs.Prelude.{ℕ, List, [], ◌∷◌, ◌++◌, codes, slice_get, Option, Some, None}
use Rattle.y2k_base.specs.declared.word.Origin.{Origin}
use Rattle.y2k_base.specs.declared.word.Word.{Word}
use Rattle.cobol_syntax.specs.declared.place.Place.{Place}
use Rattle.cobol_syntax.specs.declared.expr.Operand.{Operand}
use Rattle.cobol_syntax.specs.declared.expr.Operand.TheVariants as operand
use Rattle.statement_rules.specs.Trees.{Tree, Just, Negated, Sum, Difference, Product, Quotient}
use Rattle.statement_words.specs.Edited.{between}
use Rattle.statement_words.specs.NewWords.{text_words}
use Rattle.window_rewrite.specs.Old.{Old}

abbrev pub word_if : Option Word → List Word
word_if None = []
word_if (Some word) = word ∷ []

abbrev pub old_word : List Word → ℕ → List Word
old_word words position = word_if (slice_get words position)

abbrev pub place_words : Old → Place → List Word
place_words old place = between old.program old.words old.edits place.at place.end

-- a literal is as it stands
abbrev pub operand_words : Old → Operand → List Word
operand_words old (operand.Place place) = place_words old place
operand_words old (operand.Number value digits at) = old_word old.words at
operand_words old (operand.Text bytes at) = old_word old.words at
operand_words old (operand.Figure byte at) = old_word old.words at

abbrev pub operation_words : Origin → List Word → List ℕ → List Word → List Word
operation_words at left operator right =
    text_words at (codes "(") ++ (left ++ (text_words at operator ++ (right ++ text_words at (codes ")"))))

abbrev pub minus_words : Origin → List Word → List Word
minus_words at inner = text_words at (codes "( -") ++ (inner ++ text_words at (codes ")"))

-- each operation in parentheses
abbrev pub tree_words : Old → Origin → Tree → List Word
tree_words old at (Just x) = operand_words old x
tree_words old at (Negated t) = minus_words at (tree_words old at t)
tree_words old at (Sum s t) = operation_words at (tree_words old at s) (codes "+") (tree_words old at t)
tree_words old at (Difference s t) = operation_words at (tree_words old at s) (codes "-") (tree_words old at t)
tree_words old at (Product s t) = operation_words at (tree_words old at s) (codes "*") (tree_words old at t)
tree_words old at (Quotient s t) = operation_words at (tree_words old at s) (codes "/") (tree_words old at t)
