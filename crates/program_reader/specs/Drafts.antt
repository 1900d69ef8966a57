-- An entry before its clauses are read.
use Rattle.std.specs.Prelude.{ℕ, false, List, [], Option, None}
use Rattle.decimal_bytes.specs.declared.form.SignPlace.TheVariants as sign
use Rattle.cobol_syntax.specs.declared.program.Usage.TheVariants as usage
use Rattle.program_reader.specs.declared.entry.Draft.{Draft}

-- an entry without clauses
abbrev pub plain_entry : ℕ → Option (List ℕ) → Option (List ℕ) → ℕ → Draft
plain_entry level name redefines at = record {
  entry = record {
    level = level;
    name = name;
    redefines = redefines;
    occurs = None;
    picture = None;
    picture_at = 0;
    usage = usage.Display;
    sign = sign.Trailing;
    value = None;
    ranges = [];
    at = at;
  };
  has_picture = false;
  has_usage = false;
  has_sign = false;
}
