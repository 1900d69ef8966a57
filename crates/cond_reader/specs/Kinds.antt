-- What the words of a program are, where these are its condition-names.
use Rattle.std.specs.Prelude.{◌≡◌, ℕ, Bool, ◌&&◌, List, map}
use Rattle.std.specs.List.{list_any}
use Rattle.std.specs.Str.{bytes_eq}
use Rattle.std.specs.Ordering.{nat_cmp}
use Rattle.std.specs.Cmp.Lexicographic.{slice_cmp}
use Rattle.std.specs.BTreeMap.{is_at}
use Rattle.y2k_base.specs.declared.word.Word.{Word}
use Rattle.cond_reader.specs.declared.symbol.Symbol.TheVariants as s
use Rattle.cond_reader.specs.declared.kind.Kind.{Kind}
use Rattle.cond_reader.specs.Symbols.{symbol_of, same_symbol}
use Rattle.cond_reader.specs.Text.{Text}

abbrev pub is_among : List (List ℕ) → List ℕ → Bool
is_among names text = list_any (bytes_eq text) names

unfoldable pub kind_of : List (List ℕ) → Word → Kind
kind_of names word = record { symbol = symbol_of word; is_named = same_symbol (symbol_of word) s.Name && is_among names word.text }

-- the words as they are read in a program with these condition-names
abbrev pub text_with : List Word → List (List ℕ) → Text
text_with words names = record { words = words; kinds = map (kind_of names) words }

-- a text is found among the keys, each by its bytes, exactly where it is one of the names
abbrev pub IsIndexOf : {K : Type 0} → List K → (K → List ℕ) → List (List ℕ) → Type 0
IsIndexOf keys bytes names = (text : List ℕ) → list_any (is_at (λ key. slice_cmp nat_cmp text (bytes key))) keys ≡ is_among names text
