-- The grammar of the entries of the environment and data divisions, one case for each production.
use Rattle.std.specs.Prelude.{◌≡◌, ◌≢◌, ℕ, ◌+◌, ◌<◌, ◌≤◌, ◌⊎◌, Bool, true, false, List, [], Option, Some, None}
use Rattle.decimal_bytes.specs.declared.form.SignPlace.{SignPlace}
use Rattle.decimal_bytes.specs.declared.form.SignPlace.TheVariants as sign
use Rattle.cobol_syntax.specs.declared.expr.Operand.{Operand}
use Rattle.cobol_syntax.specs.declared.place.Place.{Place}
use Rattle.cobol_syntax.specs.declared.program.FileEntry.{FileEntry}
use Rattle.cobol_syntax.specs.declared.program.Range.{Range}
use Rattle.cobol_syntax.specs.declared.program.Select.{Select}
use Rattle.cobol_syntax.specs.declared.program.Usage.{Usage}
use Rattle.cobol_syntax.specs.declared.program.Usage.TheVariants as usage
use Rattle.cond_reader.specs.declared.symbol.Symbol.TheVariants as s
use Rattle.cond_reader.specs.Text.{spelling}
use Rattle.cond_reader.specs.Reads.{with_last}
use Rattle.cond_reader.specs.Grammar.{Name, Many, Chain, alone}
use Rattle.program_reader.specs.declared.entry.Draft.{Draft}
use Rattle.program_reader.specs.declared.entry.EntryPart.{EntryPart}
use Rattle.program_reader.specs.declared.entry.EntryPart.TheVariants as part
use Rattle.program_reader.specs.declared.file.FilePart.{FilePart}
use Rattle.program_reader.specs.declared.file.FilePart.TheVariants as file
use Rattle.program_reader.specs.declared.select.SelectPart.{SelectPart}
use Rattle.program_reader.specs.declared.select.SelectPart.TheVariants as clause
use Rattle.program_reader.specs.declared.select.SelectParts.{SelectParts}
use Rattle.program_reader.specs.declared.term.Term.TheVariants as k
use Rattle.program_reader.specs.Views.{View}
use Rattle.program_reader.specs.Selects as selects
use Rattle.program_reader.specs.Files as files
use Rattle.program_reader.specs.Entries as entries
use Rattle.program_reader.specs.CondEntries as conds
use Rattle.program_reader.specs.Drafts.{plain_entry}
use Rattle.program_reader.specs.Grammar.{Then, Either, Maybe, Any, A, S, Period, IsOrAre, AnyName, Count, IsConstant, LongestPlace}

-- Clauses that follow one another, of each kind at most one: what was read before, and what with them.
pub data Clauses {D P : Type 0} (has : D → P → Bool) (add : D → P → D) (Clause : ℕ → ℕ → P → Type 0) : D → ℕ → ℕ → D → Type 0 where
  stop : {d : D} {i : ℕ} → Clauses has add Clause d i i d
  more : {d e : D} {p : P} {i m j : ℕ} → Clause i m p → has d p ≡ false → Clauses has add Clause (add d p) m j e → Clauses has add Clause d i j e

-- 01 to 49, or 77
abbrev pub IsLevel : ℕ → Type 0
IsLevel n = ((0 < n) × (n < 50)) ⊎ (n ≡ 77)

module _ (v : View) where
  -- ORGANIZATION IS? SEQUENTIAL | ACCESS MODE? IS? SEQUENTIAL | FILE? STATUS IS? place
  pub data SelectClause : ℕ → ℕ → SelectPart → Type 0 where
    organization : {i j : ℕ} → Then (A v k.Organization) (Then (Maybe (S v s.Is)) (A v k.Sequential)) i j → SelectClause i j clause.Organization
    access : {i j : ℕ} → Then (A v k.Access) (Then (Then (Maybe (A v k.Mode)) (Maybe (S v s.Is))) (A v k.Sequential)) i j → SelectClause i j clause.Access
    status : {i m j : ℕ} {p : Place} → Then (Maybe (A v k.File)) (Then (A v k.Status) (Maybe (S v s.Is))) i m → LongestPlace v m j p → SelectClause i j (clause.Status p)

  -- name | literal
  pub data External : ℕ → ℕ → List ℕ → Type 0 where
    name : {i j : ℕ} {n : List ℕ} → Name v.text i j n → External i j n
    literal : {i j : ℕ} → S v s.Literal i j → External i j (spelling v.text i)

  -- SELECT name ASSIGN TO? (name|literal) clause* .
  pub record IsSelect (i j : ℕ) (x : Select) : Type 0 where
    pub at_name : ℕ
    pub at_assign : ℕ
    pub at_external : ℕ
    pub at_clauses : ℕ
    pub at_period : ℕ
    pub n : List ℕ
    pub e : List ℕ
    pub ps : SelectParts
    pub select : A v k.Select i at_name
    pub name : Name v.text at_name at_assign n
    pub assign : Then (A v k.Assign) (Maybe (S v s.To)) at_assign at_external
    pub external : External at_external at_clauses e
    pub clauses : Clauses selects.has_part selects.with_part SelectClause selects.no_parts at_clauses at_period ps
    pub period : Period v at_period j
    pub is : x ≡ record { name = n; external = e; status = ps.status; at = i }

  -- (RECORD|RECORDS) (IS|ARE)?
  abbrev pub RecordOrRecords : ℕ → ℕ → Type 0
  RecordOrRecords = Then (Either (A v k.Record) (A v k.Records)) (Maybe (IsOrAre v))

  -- n
  pub record AnyCount (i j : ℕ) : Type 0 where
    pub n : ℕ
    pub count : Count v i j n

  -- LABEL (RECORD|RECORDS) (IS|ARE)? (STANDARD|OMITTED) | BLOCK CONTAINS? n (RECORDS|CHARACTERS)?
  -- | DATA (RECORD|RECORDS) (IS|ARE)? name+ | RECORDING MODE? IS? F
  pub data Idle : ℕ → ℕ → Type 0 where
    label : {i j : ℕ} → Then (A v k.Label) (Then RecordOrRecords (Either (A v k.Standard) (A v k.Omitted))) i j → Idle i j
    block : {i j : ℕ} → Then (A v k.Block) (Then (Then (Maybe (A v k.Contains)) AnyCount) (Maybe (Either (A v k.Records) (A v k.Characters)))) i j → Idle i j
    data_records : {i j : ℕ} → Then (A v k.Data) (Then RecordOrRecords (Then (AnyName v) (Any (AnyName v)))) i j → Idle i j
    recording : {i j : ℕ} → Then (A v k.Recording) (Then (Then (Maybe (A v k.Mode)) (Maybe (S v s.Is))) (A v k.Fixed)) i j → Idle i j

  -- the above, or RECORD CONTAINS? n CHARACTERS?
  pub data FileClause : ℕ → ℕ → FilePart → Type 0 where
    idle : {i j : ℕ} → Idle i j → FileClause i j file.Idle
    contains : {i m l j n : ℕ} {x : Operand} → Then (A v k.Record) (Maybe (A v k.Contains)) i m → Count v m l n → IsConstant v m l x
        → Maybe (A v k.Characters) l j → FileClause i j (file.Contains x)

  -- FD name fdpart* .
  pub record IsFile (i j : ℕ) (x : FileEntry) : Type 0 where
    pub at_name : ℕ
    pub at_clauses : ℕ
    pub at_period : ℕ
    pub n : List ℕ
    pub c : Option Operand
    pub fd : A v k.Fd i at_name
    pub name : Name v.text at_name at_clauses n
    pub clauses : Clauses files.is_second files.with_file_part FileClause None at_clauses at_period c
    pub period : Period v at_period j
    pub is : x ≡ record { name = n; contains = c; entries = []; at = i }

  -- LEADING | TRAILING, and SEPARATE CHARACTER?
  pub data SignEnd : ℕ → ℕ → SignPlace → Type 0 where
    leading : {i j : ℕ} → A v k.Leading i j → SignEnd i j sign.Leading
    trailing : {i j : ℕ} → A v k.Trailing i j → SignEnd i j sign.Trailing
    leading_separate : {i j : ℕ} → Then (A v k.Leading) (Then (A v k.Separate) (Maybe (A v k.Character))) i j → SignEnd i j sign.LeadingSeparate
    trailing_separate : {i j : ℕ} → Then (A v k.Trailing) (Then (A v k.Separate) (Maybe (A v k.Character))) i j → SignEnd i j sign.TrailingSeparate

  -- the words of USAGE
  pub data UsageWord : ℕ → ℕ → Usage → Type 0 where
    display : {i j : ℕ} → A v k.Display i j → UsageWord i j usage.Display
    binary : {i j : ℕ} → A v k.Binary i j → UsageWord i j usage.Binary
    packed : {i j : ℕ} → A v k.Packed i j → UsageWord i j usage.Packed

  -- the string of a PICTURE clause
  pub record PictureText (i j : ℕ) : Type 0 where
    pub read : entries.is_picture v i ≡ true
    pub next_is : j ≡ i + 1

  -- (PIC|PICTURE) IS? picture | (USAGE IS?)? usage | OCCURS n TIMES? | (SIGN IS?)? sign | VALUE IS? const
  pub data EntryClause : ℕ → ℕ → EntryPart → Type 0 where
    picture : {i m j : ℕ} → Then (A v k.Picture) (Maybe (S v s.Is)) i m → PictureText m j → EntryClause i j (part.Picture m)
    usage_is : {i m j : ℕ} {u : Usage} → Maybe (Then (A v k.Usage) (Maybe (S v s.Is))) i m → UsageWord m j u → EntryClause i j (part.Usage u)
    occurs : {i m l j n : ℕ} → A v k.Occurs i m → Count v m l n → Maybe (A v k.Times) l j → EntryClause i j (part.Occurs n)
    sign_is : {i m j : ℕ} {p : SignPlace} → Maybe (Then (A v k.Sign) (Maybe (S v s.Is))) i m → SignEnd m j p → EntryClause i j (part.Sign p)
    value : {i m j : ℕ} {x : Operand} → Then (A v k.Value) (Maybe (S v s.Is)) i m → IsConstant v m j x → EntryClause i j (part.Value x)

  -- (name|FILLER)?
  pub data EntryName : ℕ → ℕ → Option (List ℕ) → Type 0 where
    unnamed : {i : ℕ} → EntryName i i None
    filler : {i j : ℕ} → A v k.Filler i j → EntryName i j None
    name : {i j : ℕ} {n : List ℕ} → Name v.text i j n → EntryName i j (Some n)

  -- (REDEFINES name)?
  pub data Redefined : ℕ → ℕ → Option (List ℕ) → Type 0 where
    nothing : {i : ℕ} → Redefined i i None
    redefines : {i m j : ℕ} {n : List ℕ} → A v k.Redefines i m → Name v.text m j n → Redefined i j (Some n)

  -- n (name|FILLER)? (REDEFINES name)? part* .
  pub record IsItem (i j : ℕ) (d : Draft) : Type 0 where
    pub at_name : ℕ
    pub at_redefines : ℕ
    pub at_clauses : ℕ
    pub at_period : ℕ
    pub l : ℕ
    pub n : Option (List ℕ)
    pub r : Option (List ℕ)
    pub level : Count v i at_name l
    pub level_is : IsLevel l
    pub name : EntryName at_name at_redefines n
    pub redefines : Redefined at_redefines at_clauses r
    pub clauses : Clauses entries.has_part entries.with_part EntryClause (plain_entry l n r i) at_clauses at_period d
    pub period : Period v at_period j

  -- const ((THRU|THROUGH) const)?
  pub data IsRange : ℕ → ℕ → Range → Type 0 where
    value : {i j : ℕ} {x : Operand} → IsConstant v i j x → IsRange i j (record { low = x; high = None })
    through : {i m l j : ℕ} {x y : Operand} → IsConstant v i m x → A v k.Through m l → IsConstant v l j y → IsRange i j (record { low = x; high = Some y })

  -- 88 name (VALUE|VALUES) (IS|ARE)? range+ .
  pub record IsCondition (i j : ℕ) (d : Draft) : Type 0 where
    pub at_name : ℕ
    pub at_value : ℕ
    pub at_ranges : ℕ
    pub at_period : ℕ
    pub n : List ℕ
    pub rs : List Range
    pub level : Count v i at_name 88
    pub name : Name v.text at_name at_value n
    pub value : Then (Either (A v k.Value) (A v k.Values)) (Maybe (IsOrAre v)) at_value at_ranges
    pub ranges : Chain IsRange alone IsRange with_last at_ranges at_period rs
    pub period : Period v at_period j
    pub is : d ≡ conds.with_ranges (plain_entry 88 (Some n) None i) rs

  pub data IsDraft : ℕ → ℕ → Draft → Type 0 where
    item : {i j : ℕ} {d : Draft} → IsItem i j d → IsDraft i j d
    condition : {i j : ℕ} {d : Draft} → IsCondition i j d → IsDraft i j d
