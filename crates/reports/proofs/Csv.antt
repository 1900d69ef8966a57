-- A row as `csv` writes it is a row of this crate.
use Rattle.std.proofs.Common.{◌≡◌, ◌≢◌, ◌==◌, ◌||◌, ◌≤◌, ◌++◌, ◌∷◌, [], ℕ, List, Bool, true, false, length, refl, sym, append_assoc, arith}
use Rattle.std.specs.Prelude.{if◌then◌else◌}
use Rattle.std.specs.List.{flat_map, list_any}
use Rattle.csv.specs.Writing as csv
use Rattle.csv.specs.declared.writer.QuoteStyle.TheVariants as style
use Rattle.csv.specs.declared.writer.WriterBuilder.{WriterBuilder}
use Rattle.reports.specs.Rows.{comma, doubled, field_text, is_special, more_text, quotation_mark, row_text}

or_assoc : (a b c d : Bool) → (a || b || (c || d) || false || false) ≡ (a || (b || (c || d)))
or_assoc true b c d = refl
or_assoc false true c d = refl
or_assoc false false true d = refl
or_assoc false false false true = refl
or_assoc false false false false = refl

special : (b : ℕ) → csv.needs_byte csv.default_writer b ≡ is_special b
special b = or_assoc (b == comma) (b == quotation_mark) (b == 13) (b == 10)

needs : (field : List ℕ) → csv.needs_quotes csv.default_writer field ≡ list_any is_special field
needs [] = refl
needs (b ∷ rest) = rw (special b, needs rest) refl

if_append : (b : Bool) (p q zs : List ℕ) → (if b then p else q) ++ zs ≡ (if b then p ++ zs else q ++ zs)
if_append true p q zs = refl
if_append false p q zs = refl

escaped : (field : List ℕ) → csv.escaped csv.default_writer field ≡ flat_map doubled field
unfolding csv.escaped
escaped [] = refl
escaped (b ∷ rest) = rw (escaped rest) (sym (if_append (b == quotation_mark) (quotation_mark ∷ b ∷ []) (b ∷ []) (flat_map doubled rest)))

field_same : (field : List ℕ) → csv.field_text csv.default_writer field ≡ field_text field
field_same field = rw (needs field, escaped field) refl

more_same : (fields : List (List ℕ)) → csv.fields_text csv.default_writer fields ≡ more_text fields
unfolding csv.fields_text
more_same [] = refl
more_same (field ∷ rest) = rw (field_same field, more_same rest) refl

pub default_row : (fields : List (List ℕ)) → 2 ≤ length fields → csv.row_text csv.default_writer fields ≡ row_text fields
unfolding csv.is_blank
default_row [] several = absurd (omega (arith, several))
default_row (field ∷ []) several = absurd (omega (arith, several))
default_row (field ∷ next ∷ rest) several =
    rw (field_same field, more_same (next ∷ rest)) (append_assoc (field_text field) (more_text (next ∷ rest)) (10 ∷ []))

pub row_same : (cfg : WriterBuilder) → cfg ≡ csv.default_writer → (fields : List (List ℕ)) → 2 ≤ length fields → csv.row_text cfg fields ≡ row_text fields
row_same cfg e fields several = rw e (default_row fields several)

pub is_plain : (cfg : WriterBuilder) → cfg ≡ csv.default_writer → cfg.style ≢ style.NonNumeric
is_plain cfg e = rw e (λ z. cc z)
