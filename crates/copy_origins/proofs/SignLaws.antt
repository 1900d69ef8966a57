-- A word is COPY exactly where it is a name of these bytes.
use Rattle.std.proofs.Common.{◌≡◌, ℕ, Bool, true, false, cond, codes, ◌||◌, List, Option, Some, None, refl}
use Rattle.std.specs.Str.{bytes_eq}
use denote.Enum.Bare.{sameb}
use Rattle.case_tables.specs.Reserved.{role_of}
use Rattle.case_tables.specs.declared.word_table.WordRole.{WordRole}
use Rattle.copy_origins.specs.contracts.sign.Sign.{the_type}
use Rattle.copy_origins.specs.declared.sign.Sign.TheVariants as s
use Rattle.copy_origins.specs.Signs.{name_or_other, sign_of_name, sign_of_mark, same_sign}

one_of : (a b c d : Bool) (role : Option WordRole) → sameb the_type (cond a s.Copy (cond b s.Of (cond c s.Replacing (cond d s.By (name_or_other role))))) s.Copy ≡ a
one_of true b c d role = refl
one_of false true c d role = refl
one_of false false true d role = refl
one_of false false false true role = refl
one_of false false false false None = refl
one_of false false false false (Some role) = refl

pub name_is_copy : (text : List ℕ) → same_sign (sign_of_name text) s.Copy ≡ bytes_eq text (codes "COPY")
unfolding sign_of_name same_sign
name_is_copy text =
    one_of (bytes_eq text (codes "COPY")) (bytes_eq text (codes "OF") || bytes_eq text (codes "IN")) (bytes_eq text (codes "REPLACING")) (bytes_eq text (codes "BY")) (role_of text)

neither : (a b : Bool) → sameb the_type (cond a s.Double (cond b s.Period s.Other)) s.Copy ≡ false
neither true b = refl
neither false true = refl
neither false false = refl

pub mark_is_copy : (text : List ℕ) → same_sign (sign_of_mark text) s.Copy ≡ false
unfolding sign_of_mark same_sign
mark_is_copy text = neither (bytes_eq text (codes "==")) (bytes_eq text (codes "."))

pub other_is_copy : same_sign s.Other s.Copy ≡ false
unfolding same_sign
other_is_copy = refl

pub literal_is_copy : same_sign s.Literal s.Copy ≡ false
unfolding same_sign
literal_is_copy = refl
