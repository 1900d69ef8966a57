-- What holds of the entries of the environment and data divisions.
use Rattle.std.proofs.Common.{ℕ, ◌<◌, ◌≤◌, nat_lt, ◌≡◌, refl, ap, ◌∙◌, Bool, true, List, map, Option, None, arith}
use Rattle.std.proofs.lemmas.Bool.{and_from, and_parts, lt-ltb}
use Rattle.cobol_syntax.specs.declared.expr.Operand.{Operand}
use Rattle.cobol_syntax.specs.declared.program.FileEntry.{FileEntry}
use Rattle.cobol_syntax.specs.declared.program.Range.{Range}
use Rattle.cobol_syntax.specs.declared.program.Select.{Select}
use Rattle.cobol_syntax.specs.declared.program.Usage.{Usage}
use Rattle.decimal_bytes.specs.declared.form.SignPlace.{SignPlace}
use Rattle.cond_reader.specs.declared.symbol.Symbol.{Symbol}
use Rattle.cond_reader.specs.Text.{spelling}
use Rattle.program_reader.specs.declared.entry.Draft.{Draft}
use Rattle.program_reader.specs.declared.entry.EntryPart.{EntryPart}
use Rattle.program_reader.specs.declared.entry.EntryPart.TheVariants as part
use Rattle.program_reader.specs.declared.file.FilePart.{FilePart}
use Rattle.program_reader.specs.declared.file.FilePart.TheVariants as file
use Rattle.program_reader.specs.declared.select.SelectPart.{SelectPart}
use Rattle.program_reader.specs.declared.select.SelectPart.TheVariants as clause
use Rattle.program_reader.specs.declared.select.SelectParts.{SelectParts}
use Rattle.program_reader.specs.declared.term.Term.{Term}
use Rattle.program_reader.specs.Views.{View}
use Rattle.program_reader.specs.Selects as selects
use Rattle.program_reader.specs.Files as files
use Rattle.program_reader.specs.Entries as entries
use Rattle.program_reader.specs.Drafts.{plain_entry}
use Rattle.program_reader.specs.Grammar.{Then, Either, Maybe, Any, A, S, IsOrAre, Header, Headers, NameUnit, Count, IsConstant}
use Rattle.program_reader.specs.EntryGrammar.{Clauses, SelectClause, External, IsSelect, RecordOrRecords, AnyCount, Idle, FileClause, IsFile, SignEnd, UsageWord, EntryClause, EntryName, Redefined, IsItem, IsRange, IsCondition, IsDraft}
use Rattle.tree_words.specs.Fits.{all_true, if_any, is_numeral, place_fits, operand_fits, range_fits, entry_fits, file_fits, select_fits}
use Rattle.tree_words.proofs.Numerals.{numeral-fits}
use Rattle.tree_words.proofs.Parts.{Taken, and_3, all-last, all-one, word-taken, chain-taken}
use Rattle.tree_words.proofs.Exprs.{name-taken, place-taken}

-- ---- parts without a tree: at least one word, or none

abbrev pub Less : (ℕ → ℕ → Type 0) → Type 0
Less P = (i j : ℕ) → P i j → i < j

abbrev pub Most : (ℕ → ℕ → Type 0) → Type 0
Most P = (i j : ℕ) → P i j → i ≤ j

module _ {P Q : ℕ → ℕ → Type 0} where
  pub then-less : Less P → Most Q → Less (Then P Q)
  then-less p q i j w = omega (arith, p i w.middle w.first, q w.middle j w.second)

  pub then-most : Most P → Most Q → Most (Then P Q)
  then-most p q i j w = omega (arith, p i w.middle w.first, q w.middle j w.second)

  pub either-less : Less P → Less Q → Less (Either P Q)
  either-less p q i j (Either.one w) = p i j w
  either-less p q i j (Either.other w) = q i j w

module _ {P : ℕ → ℕ → Type 0} where
  pub most : Less P → Most P
  most p i j w = omega (arith, p i j w)

  pub maybe-most : Most P → Most (Maybe P)
  maybe-most p i j Maybe.absent = omega arith
  maybe-most p i j (Maybe.given w) = p i j w

  pub any-most : Most P → Most (Any P)
  any-most p i j Any.stop = omega arith
  any-most p i j (Any.more {m = m} w others) = omega (arith, p i m w, any-most p m j others)

-- clauses that follow one another
module _ (words : ℕ) {D P : Type 0} {has : D → P → Bool} {add : D → P → D} {Clause : ℕ → ℕ → P → Type 0} (fits_all : D → Bool) (fits_one : P → Bool)
    (item : (i j : ℕ) (p : P) → Clause i j p → Taken words i j (fits_one p))
    (added : (d : D) (p : P) → fits_all d ≡ true → fits_one p ≡ true → fits_all (add d p) ≡ true)
  where
    clauses-grow : (d e : D) (i j : ℕ) → Clauses has add Clause d i j e → i ≤ j
    clauses-grow d e i j Clauses.stop = omega arith
    clauses-grow d e i j (Clauses.more {p = p} {m = m} one new others) = omega (arith, (item i m p one).grows, clauses-grow (add d p) e m j others)

    clauses-fit : (d e : D) (i j : ℕ) → Clauses has add Clause d i j e → j ≤ words → fits_all d ≡ true → fits_all e ≡ true
    clauses-fit d e i j Clauses.stop within fit = fit
    clauses-fit d e i j (Clauses.more {p = p} {m = m} one new others) within fit =
        clauses-fit (add d p) e m j others within (added d p fit ((item i m p one).fit (omega (arith, clauses-grow (add d p) e m j others, within))))

module _ (words : ℕ) (v : View) where
  -- ---- words

  pub term-less : (k : Term) → Less (A v k)
  term-less k i j w = omega (arith, w.next_is)

  pub symbol-less : (k : Symbol) → Less (S v k)
  symbol-less k i j w = omega (arith, w.next_is)

  pub header-less : (k : Term) → Less (Header v k)
  header-less k = then-less (term-less k) (most (symbol-less _))

  pub headers-less : (k l : Term) → Less (Headers v k l)
  headers-less k l = then-less (term-less k) (most (header-less l))

  pub name-unit-less : (i j : ℕ) (n : List ℕ) → NameUnit v i j n → i < j
  name-unit-less i j n w = omega (arith, (name-taken words v.text i w.middle n w.name).grows, symbol-less _ w.middle j w.period)

  is-or-are-less : Less (IsOrAre v)
  is-or-are-less = either-less (symbol-less _) (term-less _)

  count-less : (i j n : ℕ) → Count v i j n → i < j
  count-less i j n w = symbol-less _ i j w.word

  constant-taken : (i j : ℕ) (x : Operand) → IsConstant v i j x → Taken words i j (operand_fits words x)
  constant-taken i j x (IsConstant.number {n = n} word value) =
      let grows : i < j = omega (arith, word.next_is) in
      record {
        grows = grows;
        fit = λ within. and_from (nat_lt i words) (is_numeral (n.0) (n.1)) (word-taken words i j grows within) (numeral-fits (spelling v.text i) n value);
      }
  constant-taken i j x (IsConstant.literal word) =
      let grows : i < j = omega (arith, word.next_is) in
      record { grows = grows; fit = word-taken words i j grows }
  constant-taken i j x (IsConstant.figurative byte next) =
      let grows : i < j = omega (arith, next) in
      record { grows = grows; fit = word-taken words i j grows }

  -- ---- SELECT

  abbrev select_part_fits : SelectPart → Bool
  select_part_fits clause.Organization = true
  select_part_fits clause.Access = true
  select_part_fits (clause.Status p) = place_fits words p

  abbrev select_parts_fit : SelectParts → Bool
  select_parts_fit ps = if_any (place_fits words) ps.status

  select-added : (ps : SelectParts) (p : SelectPart) → select_parts_fit ps ≡ true → select_part_fits p ≡ true → select_parts_fit (selects.with_part ps p) ≡ true
  select-added ps clause.Organization fit own = fit
  select-added ps clause.Access fit own = fit
  select-added ps (clause.Status p) fit own = own

  select-clause-taken : (i j : ℕ) (p : SelectPart) → SelectClause v i j p → Taken words i j (select_part_fits p)
  select-clause-taken i j p (SelectClause.organization w) = record {
    grows = then-less (term-less _) (then-most (maybe-most (most (symbol-less _))) (most (term-less _))) i j w;
    fit = λ within. refl;
  }
  select-clause-taken i j p (SelectClause.access w) = record {
    grows = then-less (term-less _) (then-most (then-most (maybe-most (most (term-less _))) (maybe-most (most (symbol-less _)))) (most (term-less _))) i j w;
    fit = λ within. refl;
  }
  select-clause-taken i j p (SelectClause.status {m = m} {p = q} words_before place) =
      let earlier = then-most (maybe-most (most (term-less _))) (then-most (most (term-less _)) (maybe-most (most (symbol-less _)))) i m words_before in
      let taken = place-taken words v.text 64 m j q (place.0) in
      record { grows = omega (arith, earlier, taken.grows); fit = taken.fit }

  external-less : (i j : ℕ) (n : List ℕ) → External v i j n → i < j
  external-less i j n (External.name w) = (name-taken words v.text i j n w).grows
  external-less i j n (External.literal w) = omega (arith, w.next_is)

  pub select-taken : (i j : ℕ) (x : Select) → IsSelect v i j x → Taken words i j (select_fits words x)
  select-taken i j x w =
      let first = term-less _ i w.at_name w.select in
      let name = name-taken words v.text w.at_name w.at_assign w.n w.name in
      let assign = then-less (term-less _) (maybe-most (most (symbol-less _))) w.at_assign w.at_external w.assign in
      let external = external-less w.at_external w.at_clauses w.e w.external in
      let clauses = clauses-grow words select_parts_fit select_part_fits select-clause-taken select-added selects.no_parts w.ps w.at_clauses w.at_period w.clauses in
      let period = symbol-less _ w.at_period j w.period in
      let grows : i < j = omega (arith, first, name.grows, assign, external, clauses, period) in
      record {
        grows = grows;
        fit = λ within.
            ap (select_fits words) w.is
            ∙ and_from (nat_lt i words) (if_any (place_fits words) w.ps.status) (word-taken words i j grows within)
            (clauses-fit words select_parts_fit select_part_fits select-clause-taken select-added selects.no_parts w.ps w.at_clauses w.at_period w.clauses (omega (arith, period, within)) refl);
      }

  -- ---- FD

  records-less : Less (RecordOrRecords v)
  records-less = then-less (either-less (term-less _) (term-less _)) (maybe-most (most is-or-are-less))

  any-count-less : Less (AnyCount v)
  any-count-less i j w = count-less i j w.n w.count

  idle-less : Less (Idle v)
  idle-less i j (Idle.label w) = then-less (term-less _) (then-most (most records-less) (most (either-less (term-less _) (term-less _)))) i j w
  idle-less i j (Idle.block w) =
      then-less (term-less _) (then-most (then-most (maybe-most (most (term-less _))) (most any-count-less)) (maybe-most (most (either-less (term-less _) (term-less _))))) i j w
  idle-less i j (Idle.data_records w) = then-less (term-less _) (then-most (most records-less) (then-most (most (symbol-less _)) (any-most (most (symbol-less _))))) i j w
  idle-less i j (Idle.recording w) =
      then-less (term-less _) (then-most (then-most (maybe-most (most (term-less _))) (maybe-most (most (symbol-less _)))) (most (term-less _))) i j w

  abbrev file_part_fits : FilePart → Bool
  file_part_fits file.Idle = true
  file_part_fits (file.Contains x) = operand_fits words x

  abbrev contains_fits : Option Operand → Bool
  contains_fits = if_any (operand_fits words)

  file-added : (c : Option Operand) (p : FilePart) → contains_fits c ≡ true → file_part_fits p ≡ true → contains_fits (files.with_file_part c p) ≡ true
  file-added c file.Idle fit own = fit
  file-added c (file.Contains x) fit own = own

  file-clause-taken : (i j : ℕ) (p : FilePart) → FileClause v i j p → Taken words i j (file_part_fits p)
  file-clause-taken i j p (FileClause.idle w) = record { grows = idle-less i j w; fit = λ within. refl }
  file-clause-taken i j p (FileClause.contains {m = m} {l = l} {x = x} word count constant characters) =
      let earlier = then-less (term-less _) (maybe-most (most (term-less _))) i m word in
      let taken = constant-taken m l x constant in
      let later = maybe-most (most (term-less _)) l j characters in
      record { grows = omega (arith, earlier, taken.grows, later); fit = λ within. taken.fit (omega (arith, later, within)) }

  pub file-taken : (i j : ℕ) (x : FileEntry) → IsFile v i j x → Taken words i j (file_fits words x)
  file-taken i j x w =
      let first = term-less _ i w.at_name w.fd in
      let name = name-taken words v.text w.at_name w.at_clauses w.n w.name in
      let clauses = clauses-grow words contains_fits file_part_fits file-clause-taken file-added None w.c w.at_clauses w.at_period w.clauses in
      let period = symbol-less _ w.at_period j w.period in
      let grows : i < j = omega (arith, first, name.grows, clauses, period) in
      record {
        grows = grows;
        fit = λ within.
            ap (file_fits words) w.is
            ∙ and_3 (nat_lt i words) (contains_fits w.c) true (word-taken words i j grows within)
            (clauses-fit words contains_fits file_part_fits file-clause-taken file-added None w.c w.at_clauses w.at_period w.clauses (omega (arith, period, within)) refl) refl;
      }

  -- ---- data description entries

  abbrev part_fits : EntryPart → Bool
  part_fits (part.Picture at) = nat_lt at words
  part_fits (part.Usage u) = true
  part_fits (part.Occurs n) = true
  part_fits (part.Sign s) = true
  part_fits (part.Value x) = operand_fits words x

  abbrev draft_fits : Draft → Bool
  draft_fits d = entry_fits words d.entry

  entry-added : (d : Draft) (p : EntryPart) → draft_fits d ≡ true → part_fits p ≡ true → draft_fits (entries.with_part d p) ≡ true
  entry-added d (part.Usage u) fit own = fit
  entry-added d (part.Occurs n) fit own = fit
  entry-added d (part.Sign s) fit own = fit
  entry-added d (part.Picture at) fit own =
      let (begins, others) = and_parts (nat_lt d.entry.at words) _ fit in
      let (_, rest) = and_parts (nat_lt d.entry.picture_at words) _ others in
      and_3 (nat_lt d.entry.at words) (nat_lt at words) _ begins own rest
  entry-added d (part.Value x) fit own =
      let (begins, others) = and_parts (nat_lt d.entry.at words) _ fit in
      let (pictured, rest) = and_parts (nat_lt d.entry.picture_at words) _ others in
      let (_, ranges) = and_parts (if_any (operand_fits words) d.entry.value) _ rest in
      and_3 (nat_lt d.entry.at words) (nat_lt d.entry.picture_at words) _ begins pictured (and_from (operand_fits words x) _ own ranges)

  usage-less : (i j : ℕ) (u : Usage) → UsageWord v i j u → i < j
  usage-less i j u (UsageWord.display w) = term-less _ i j w
  usage-less i j u (UsageWord.binary w) = term-less _ i j w
  usage-less i j u (UsageWord.packed w) = term-less _ i j w

  sign-less : (i j : ℕ) (s : SignPlace) → SignEnd v i j s → i < j
  sign-less i j s (SignEnd.leading w) = term-less _ i j w
  sign-less i j s (SignEnd.trailing w) = term-less _ i j w
  sign-less i j s (SignEnd.leading_separate w) = then-less (term-less _) (then-most (most (term-less _)) (maybe-most (most (term-less _)))) i j w
  sign-less i j s (SignEnd.trailing_separate w) = then-less (term-less _) (then-most (most (term-less _)) (maybe-most (most (term-less _)))) i j w

  clause-taken : (i j : ℕ) (p : EntryPart) → EntryClause v i j p → Taken words i j (part_fits p)
  clause-taken i j p (EntryClause.picture {m = m} word text) =
      let earlier = then-less (term-less _) (maybe-most (most (symbol-less _))) i m word in
      let own : m < j = omega (arith, text.next_is) in
      record { grows = omega (arith, earlier, own); fit = word-taken words m j own }
  clause-taken i j p (EntryClause.usage_is {m = m} {u = u} word usage) =
      let earlier = maybe-most (then-most (most (term-less _)) (maybe-most (most (symbol-less _)))) i m word in
      record { grows = omega (arith, earlier, usage-less m j u usage); fit = λ within. refl }
  clause-taken i j p (EntryClause.occurs {m = m} {l = l} {n = n} word count times) =
      record { grows = omega (arith, term-less _ i m word, count-less m l n count, maybe-most (most (term-less _)) l j times); fit = λ within. refl }
  clause-taken i j p (EntryClause.sign_is {m = m} {p = s} word end) =
      let earlier = maybe-most (then-most (most (term-less _)) (maybe-most (most (symbol-less _)))) i m word in
      record { grows = omega (arith, earlier, sign-less m j s end); fit = λ within. refl }
  clause-taken i j p (EntryClause.value {m = m} {x = x} word constant) =
      let earlier = then-less (term-less _) (maybe-most (most (symbol-less _))) i m word in
      let taken = constant-taken m j x constant in
      record { grows = omega (arith, earlier, taken.grows); fit = taken.fit }

  name-most : (i j : ℕ) (n : Option (List ℕ)) → EntryName v i j n → i ≤ j
  name-most i j n EntryName.unnamed = omega arith
  name-most i j n (EntryName.filler w) = most (term-less _) i j w
  name-most i j n (EntryName.name {n = m} w) = omega (arith, (name-taken words v.text i j m w).grows)

  redefined-most : (i j : ℕ) (n : Option (List ℕ)) → Redefined v i j n → i ≤ j
  redefined-most i j n Redefined.nothing = omega arith
  redefined-most i j n (Redefined.redefines {m = m} {n = k} word name) = omega (arith, term-less _ i m word, (name-taken words v.text m j k name).grows)

  plain-fits : (i j level : ℕ) (name redefines : Option (List ℕ)) → i < j → j ≤ words → draft_fits (plain_entry level name redefines i) ≡ true
  plain-fits i j level name redefines grows within =
      and_3 (nat_lt i words) (nat_lt 0 words) true (word-taken words i j grows within) (lt-ltb 0 words (omega (arith, grows, within))) refl

  item-taken : (i j : ℕ) (d : Draft) → IsItem v i j d → Taken words i j (draft_fits d)
  item-taken i j d w =
      let plain = plain_entry w.l w.n w.r i in
      let first = count-less i w.at_name w.l w.level in
      let name = name-most w.at_name w.at_redefines w.n w.name in
      let redefines = redefined-most w.at_redefines w.at_clauses w.r w.redefines in
      let clauses = clauses-grow words draft_fits part_fits clause-taken entry-added plain d w.at_clauses w.at_period w.clauses in
      let period = symbol-less _ w.at_period j w.period in
      let grows : i < j = omega (arith, first, name, redefines, clauses, period) in
      record {
        grows = grows;
        fit = λ within.
            clauses-fit words draft_fits part_fits clause-taken entry-added plain d w.at_clauses w.at_period w.clauses (omega (arith, period, within))
            (plain-fits i j w.l w.n w.r grows within);
      }

  range-taken : (i j : ℕ) (r : Range) → IsRange v i j r → Taken words i j (range_fits words r)
  range-taken i j r (IsRange.value {x = x} w) =
      let taken = constant-taken i j x w in
      record { grows = taken.grows; fit = λ within. and_from (operand_fits words x) true (taken.fit within) refl }
  range-taken i j r (IsRange.through {m = m} {l = l} {x = x} {y = y} low word high) =
      let first = constant-taken i m x low in
      let middle = term-less _ m l word in
      let last = constant-taken l j y high in
      record {
        grows = omega (arith, first.grows, middle, last.grows);
        fit = λ within. and_from (operand_fits words x) (operand_fits words y) (first.fit (omega (arith, middle, last.grows, within))) (last.fit within);
      }

  condition-taken : (i j : ℕ) (d : Draft) → IsCondition v i j d → Taken words i j (draft_fits d)
  condition-taken i j d w =
      let first = count-less i w.at_name 88 w.level in
      let name = name-taken words v.text w.at_name w.at_value w.n w.name in
      let value = then-less (either-less (term-less _) (term-less _)) (maybe-most (most is-or-are-less)) w.at_value w.at_ranges w.value in
      let ranges =
      chain-taken words (λ (rs : List Range). all_true (map (range_fits words) rs)) (range_fits words) range-taken (all-last (range_fits words)) (range_fits words) range-taken
      (all-one (range_fits words)) w.at_ranges w.at_period w.rs w.ranges
      in
      let period = symbol-less _ w.at_period j w.period in
      let grows : i < j = omega (arith, first, name.grows, value, ranges.grows, period) in
      record {
        grows = grows;
        fit = λ within.
            ap draft_fits w.is
            ∙ and_3 (nat_lt i words) (nat_lt 0 words) (all_true (map (range_fits words) w.rs)) (word-taken words i j grows within)
            (lt-ltb 0 words (omega (arith, grows, within))) (ranges.fit (omega (arith, period, within)));
      }

  pub draft-taken : (i j : ℕ) (d : Draft) → IsDraft v i j d → Taken words i j (entry_fits words d.entry)
  draft-taken i j d (IsDraft.item w) = item-taken i j d w
  draft-taken i j d (IsDraft.condition w) = condition-taken i j d w
