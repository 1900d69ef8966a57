-- No line goes past column 72.
use Rattle.std.specs.Prelude.{◌≡◌, ℕ, ◌-◌, ◌≤◌, false, List, [], ◌∷◌, length}
use Rattle.std.specs.List.{AllByRecursion}
use Rattle.y2k_base.specs.declared.word.Word.{Word}
use Rattle.line_layout.specs.Spelling.{is_literal}

-- Columns 7 to 72 hold 66 bytes.
abbrev pub IsWhole : List ℕ → Type 0
IsWhole line = length line ≤ 66

-- the first line from its column on, and each later one from column 7 on
abbrev pub IsWithin : ℕ → List (List ℕ) → Type 0
IsWithin column [] = Unit {0}
IsWithin column (line ∷ lines) = (length line ≤ 73 - column) × AllByRecursion IsWhole lines

-- a word that is no literal has a byte, and room from column 12 on
abbrev pub IsShort : Word → Type 0
IsShort word = is_literal word.kind ≡ false → (1 ≤ length word.text) × (length word.text ≤ 61)

-- Where the words that are no literals are so short, no line goes past column 72.
abbrev pub KeepsWidth : List Word → ℕ → List (List ℕ) → Type 0
KeepsWidth words column lines = AllByRecursion IsShort words → IsWithin column lines
