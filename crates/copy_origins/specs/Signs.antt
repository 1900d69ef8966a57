-- What a word is to a COPY statement.
use Rattle.std.specs.Prelude.{ℕ, Bool, ◌||◌, List, codes, Option, Some, None, if◌then◌else◌}
use Rattle.std.specs.Str.{bytes_eq}
use denote.Enum.Bare.{sameb}
use Rattle.y2k_base.specs.declared.word.Word.{Word}
use Rattle.y2k_base.specs.declared.word.WordKind.{WordKind}
use Rattle.y2k_base.specs.declared.word.WordKind.TheVariants as kind
use Rattle.case_tables.specs.Reserved.{role_of}
use Rattle.case_tables.specs.declared.word_table.WordRole.{WordRole}
use Rattle.copy_origins.specs.contracts.sign.Sign.{the_type}
use Rattle.copy_origins.specs.declared.sign.Sign.{Sign}
use Rattle.copy_origins.specs.declared.sign.Sign.TheVariants as s

abbrev pub name_or_other : Option WordRole → Sign
name_or_other (Some role) = s.Other
name_or_other None = s.Name

-- a name that is no word of the language may name a book
unfoldable pub sign_of_name : List ℕ → Sign
sign_of_name text =
    if bytes_eq text (codes "COPY") then s.Copy
    else (if bytes_eq text (codes "OF") || bytes_eq text (codes "IN") then s.Of
    else (if bytes_eq text (codes "REPLACING") then s.Replacing
    else (if bytes_eq text (codes "BY") then s.By
    else name_or_other (role_of text))))

unfoldable pub sign_of_mark : List ℕ → Sign
sign_of_mark text = if bytes_eq text (codes "==") then s.Double else (if bytes_eq text (codes ".") then s.Period else s.Other)

abbrev pub sign_by : List ℕ → WordKind → Sign
sign_by text kind.Name = sign_of_name text
sign_by text kind.Number = s.Other
sign_by text kind.Literal = s.Literal
sign_by text kind.Picture = s.Other
sign_by text kind.Mark = sign_of_mark text

unfoldable pub sign_of : Word → Sign
sign_of word = sign_by word.text word.kind

unfoldable pub same_sign : Sign → Sign → Bool
same_sign = sameb the_type

unfoldable pub is : Sign → Word → Bool
is sign word = same_sign (sign_of word) sign
