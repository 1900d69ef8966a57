-- How data description entries are read.
use Rattle.std.specs.Prelude.{ℕ, ◌+◌, Bool, true, false, ◌&&◌, ◌||◌, ◌==◌, nat_lt, if◌then◌else◌, List, [], Option, Some, None, is_some, slice_get}
use Rattle.decimal_bytes.specs.declared.form.SignPlace.{SignPlace}
use Rattle.decimal_bytes.specs.declared.form.SignPlace.TheVariants as sign
use Rattle.cobol_syntax.specs.declared.program.Entry.{Entry}
use Rattle.cobol_syntax.specs.declared.program.Usage.{Usage}
use Rattle.cobol_syntax.specs.declared.program.Usage.TheVariants as usage
use Rattle.cond_reader.specs.Reads.{Reader, and_then, chain}
use Rattle.cond_reader.specs.Places.{name}
use Rattle.cond_reader.specs.Exprs.{constant}
use Rattle.program_reader.specs.declared.term.Term.{Term}
use Rattle.program_reader.specs.declared.term.Term.TheVariants as k
use Rattle.program_reader.specs.declared.entry.Draft.{Draft}
use Rattle.program_reader.specs.declared.entry.EntryPart.{EntryPart}
use Rattle.program_reader.specs.declared.entry.EntryPart.TheVariants as p
use Rattle.program_reader.specs.declared.reading.Reading.{Reading}
use Rattle.program_reader.specs.declared.reading.Reading.TheVariants as reading
use Rattle.program_reader.specs.Views.{View, has, past, past_is, ended, count, closed_by}
use Rattle.program_reader.specs.Drafts.{plain_entry}
use Rattle.program_reader.specs.CondEntries.{cond_entry}

abbrev pub has_part : Draft → EntryPart → Bool
has_part d (p.Picture at) = d.has_picture
has_part d (p.Usage u) = d.has_usage
has_part d (p.Occurs n) = is_some d.entry.occurs
has_part d (p.Sign s) = d.has_sign
has_part d (p.Value o) = is_some d.entry.value

abbrev pub with_part : Draft → EntryPart → Draft
with_part d (p.Picture at) = record d { entry = record (d.entry) { picture_at = at }; has_picture = true }
with_part d (p.Usage u) = record d { entry = record (d.entry) { usage = u }; has_usage = true }
with_part d (p.Occurs n) = record d { entry = record (d.entry) { occurs = Some n } }
with_part d (p.Sign s) = record d { entry = record (d.entry) { sign = s }; has_sign = true }
with_part d (p.Value o) = record d { entry = record (d.entry) { value = Some o } }

abbrev pub sign_at : Bool → Bool → SignPlace
sign_at true true = sign.LeadingSeparate
sign_at true false = sign.Leading
sign_at false true = sign.TrailingSeparate
sign_at false false = sign.Trailing

-- 01 to 49, or 77
abbrev pub level_of : ℕ → Option ℕ
level_of n = if (nat_lt 0 n && nat_lt n 50) || n == 77 then Some n else None

abbrev pub or_read : {A : Type 0} → Option A → Option A → Option A
or_read None other = other
or_read (Some a) other = Some a

abbrev pub given_or_none : {A : Type 0} → ℕ → Option (A × ℕ) → Option A × ℕ
given_or_none i None = (None, i)
given_or_none i (Some r) = (Some r.0, r.1)

abbrev pub has_reading : Option Reading → Bool
has_reading None = false
has_reading (Some reading.Plain) = false
has_reading (Some (reading.Picture picture)) = true
has_reading (Some (reading.Refused refused)) = true

module _ (v : View) where
  -- the string of a PICTURE clause
  unfoldable pub is_picture : ℕ → Bool
  is_picture i = has_reading (slice_get v.readings i)

  -- after PICTURE
  unfoldable pub picture_part : Reader EntryPart
  picture_part i = let j = past_is v i in if is_picture j then Some (p.Picture j, j + 1) else None

  -- after OCCURS
  unfoldable pub occurs_part : Reader EntryPart
  occurs_part i = and_then (count v i) (λ n j. Some (p.Occurs n, past v k.Times j))

  -- after VALUE
  unfoldable pub value_part : Reader EntryPart
  value_part i = and_then (constant v.text (past_is v i)) (λ o j. Some (p.Value o, j))

  -- an optional word with an optional IS
  unfoldable pub past_word_is : Term → ℕ → ℕ
  past_word_is k i = if has v k i then past_is v (i + 1) else i

  unfoldable pub sign_rest : Bool → ℕ → EntryPart × ℕ
  sign_rest is_leading i =
      if has v k.Separate i then (p.Sign (sign_at is_leading true), past v k.Character (i + 1))
      else (p.Sign (sign_at is_leading false), i)

  unfoldable pub sign_part : Reader EntryPart
  sign_part i =
      let j = past_word_is k.Sign i in
      if has v k.Leading j then Some (sign_rest true (j + 1))
      else (if has v k.Trailing j then Some (sign_rest false (j + 1)) else None)

  unfoldable pub usage_part : Reader EntryPart
  usage_part i =
      let j = past_word_is k.Usage i in
      if has v k.Display j then Some (p.Usage usage.Display, j + 1)
      else (if has v k.Binary j then Some (p.Usage usage.Binary, j + 1)
      else (if has v k.Packed j then Some (p.Usage usage.Packed, j + 1) else None))

  unfoldable pub form_part : Reader EntryPart
  form_part i = or_read (sign_part i) (usage_part i)

  unfoldable pub entry_part : Reader EntryPart
  entry_part i =
      if has v k.Picture i then picture_part (i + 1)
      else (if has v k.Occurs i then occurs_part (i + 1)
      else (if has v k.Value i then value_part (i + 1) else form_part i))

  abbrev pub unless_there : Draft → EntryPart → ℕ → Option (EntryPart × ℕ)
  unless_there d part j = if has_part d part then None else Some (part, j)

  -- a clause of a kind that is not there yet
  unfoldable pub next_entry_part : Draft → Reader EntryPart
  next_entry_part d i = and_then (entry_part i) (unless_there d)

  unfoldable pub more_entry_parts : Draft → ℕ → Draft × ℕ
  more_entry_parts = chain next_entry_part with_part 5

  unfoldable pub entry_name : ℕ → Option (List ℕ) × ℕ
  entry_name i = if has v k.Filler i then (None, i + 1) else given_or_none i (name v.text i)

  unfoldable pub redefined : Reader (Option (List ℕ))
  redefined i = if has v k.Redefines i then and_then (name v.text (i + 1)) (λ n j. Some (Some n, j)) else Some (None, i)

  unfoldable pub entry_end : Draft → Reader Draft
  entry_end d i = let ds = more_entry_parts d i in closed_by ds.0 (ended v ds.1)

  unfoldable pub entry_rest : ℕ → ℕ → Reader Draft
  entry_rest level begin i =
      let n = entry_name i in
      and_then (redefined n.1) (λ r j. entry_end (plain_entry level n.0 r begin) j)

  abbrev pub entry_by_level : ℕ → ℕ → Option ℕ → Option (Draft × ℕ)
  entry_by_level begin i None = None
  entry_by_level begin i (Some level) = entry_rest level begin i

  unfoldable pub entry : Reader Draft
  entry i = and_then (count v i) (λ n j. if n == 88 then cond_entry v i j else entry_by_level i j (level_of n))
