-- The words that are read, and what stands where.
use Rattle.std.specs.Prelude.{ℕ, ◌+◌, Bool, List, Option, Some, None, slice_get, if◌then◌else◌}
use Rattle.cond_reader.specs.declared.symbol.Symbol.{Symbol}
use Rattle.cond_reader.specs.Text.{Text, sees}
use Rattle.proc_reader.specs.declared.keyword.Keyword.{Keyword}
use Rattle.proc_reader.specs.declared.keyword.Keyword.TheVariants as k
use Rattle.proc_reader.specs.Keywords.{same_keyword}

pub record Source : Type 0 where
  pub text : Text
  -- what each word is
  pub keywords : List Keyword
  -- the number of the program
  pub program : ℕ

abbrev pub keyword_at : Option Keyword → Keyword
keyword_at (Some keyword) = keyword
keyword_at None = k.Unlisted

module _ (t : Source) where
  unfoldable pub keyword : ℕ → Keyword
  keyword i = keyword_at (slice_get t.keywords i)

  abbrev pub has : Keyword → ℕ → Bool
  has word i = same_keyword (keyword i) word

  -- the position after a word that may stand here
  unfoldable pub skip : Keyword → ℕ → ℕ
  skip word i = if has word i then i + 1 else i

  -- the position after a word that must stand here
  unfoldable pub after : Keyword → ℕ → Option ℕ
  after word i = if has word i then Some (i + 1) else None

  unfoldable pub skip_symbol : Symbol → ℕ → ℕ
  skip_symbol symbol i = if sees t.text symbol i then i + 1 else i

  unfoldable pub after_symbol : Symbol → ℕ → Option ℕ
  after_symbol symbol i = if sees t.text symbol i then Some (i + 1) else None
