-- Places in texts, as reports print them.
use Rattle.std.specs.Prelude.{List, [], ℕ, ◌++◌, codes, decimal, slice_get, Option, Some, None}
use Rattle.y2k_base.specs.declared.text.Text.{Text}
use Rattle.y2k_base.specs.declared.word.Origin.{Origin}

-- a text that isn't there has no name
abbrev pub text_name : Option Text → List ℕ
text_name None = []
text_name (Some text) = text.name

-- FILE:LINE:COLUMN
abbrev pub place_text : List Text → Origin → List ℕ
place_text texts origin =
    text_name (slice_get texts origin.file.0) ++ (codes ":" ++ (decimal origin.line ++ (codes ":" ++ decimal origin.column)))
