-- Entries of condition-names are read as the grammar says.
use Rattle.std.proofs.Common.{◌≡◌, ℕ, ◌+◌, Bool, true, false, ◌||◌, List, [], ◌∷◌, Option, Some, None, length, refl, ap, sym, subst, ◌∙◌, arith, if◌then◌else◌}
use Rattle.cobol_syntax.specs.declared.program.Range.{Range}
use Rattle.cond_reader.specs.declared.symbol.Symbol.TheVariants as s
use Rattle.cond_reader.specs.Reads.{and_then, with_last}
use Rattle.cond_reader.specs.Places.{name}
use Rattle.cond_reader.specs.Exprs.{constant}
use Rattle.cond_reader.specs.Grammar.{Many, Chain, alone}
use Rattle.cond_reader.proofs.Seen.{if_some, found, then_some}
use Rattle.program_reader.specs.declared.entry.Draft.{Draft}
use Rattle.program_reader.specs.declared.term.Term.TheVariants as k
use Rattle.program_reader.specs.Views.{View, has, past_is_or_are, ended}
use Rattle.program_reader.specs.Drafts.{plain_entry}
use Rattle.program_reader.specs.CondEntries.{with_ranges, from_value, range, more_ranges, past_value, ranges, cond_rest, cond_entry}
use Rattle.program_reader.specs.Grammar.{Then, Either, Maybe, A, Count, IsOrAre, Period}
use Rattle.program_reader.specs.EntryGrammar.{IsRange, IsCondition}
use Rattle.program_reader.specs.EntryGrammar.IsRange.{value as of_value, through as of_through}
use Rattle.program_reader.proofs.PartLaws.{has-sound, past-is-or-are-sound, ended-sound, name-sound, constant-sound, closed-some}
use Rattle.program_reader.proofs.FileLaws.{either-sound, some_same}
use Rattle.program_reader.proofs.Steps.{if_either, many-sound}

pub record FromValue {X : Type 0} (r : Option ℕ) (f : ℕ → Option (X × ℕ)) (y : X × ℕ) : Type 0 where
  pub end : ℕ
  pub read : r ≡ Some end
  pub rest : f end ≡ Some y

from-some : {X : Type 0} (r : Option ℕ) (f : ℕ → Option (X × ℕ)) (y : X × ℕ) → from_value r f ≡ Some y → FromValue r f y
from-some None f y h = absurd (cc)
from-some (Some m) f y h = record { end = m; read = refl; rest = h }

module _ (v : View) where
  range-sound : (i j : ℕ) (x : Range) → range v i ≡ Some (x, j) → IsRange v i j x
  unfolding range
  range-sound i j x h =
      let low = then_some (constant v.text i) _ (x, j) h in
      let first = constant-sound v i low.end low.part low.read in
      if_either (has v k.Through low.end) _ _ (Some (x, j)) (IsRange v i j x) low.rest
      (λ is read.
      let high = then_some (constant v.text (low.end + 1)) (λ y m. Some (record { low = low.part; high = Some y }, m)) (x, j) read in
      let same = found (record { low = low.part; high = Some high.part }) x high.end j high.rest in
      let whole : IsRange v i high.end (record { low = low.part; high = Some high.part }) =
      of_through first (has-sound v k.Through low.end is) (constant-sound v (low.end + 1) high.end high.part high.read) in
      subst (λ (l : ℕ). IsRange v i l x) same.1 (subst (λ (y : Range). IsRange v i high.end y) same.0 whole))
      (λ _ read.
      let same = found (record { low = low.part; high = None }) x low.end j read in
      subst (λ (l : ℕ). IsRange v i l x) same.1 (subst (λ (y : Range). IsRange v i low.end y) same.0 (of_value first)))

  more-ranges-sound : (rs : List Range) (i : ℕ) → Many (IsRange v) with_last rs i (more_ranges v rs i).1 (more_ranges v rs i).0
  unfolding more_ranges
  more-ranges-sound rs i = many-sound (range v) (IsRange v) with_last range-sound (length v.terms) rs i

  -- the values, with what stands after them
  pub record Ranges (i j : ℕ) (rs : List Range) : Type 0 where
    pub at_period : ℕ
    pub chain : Chain (IsRange v) alone (IsRange v) with_last i at_period rs
    pub period : Period v at_period j

  ranges-sound : (i j : ℕ) (rs : List Range) → ranges v i ≡ Some (rs, j) → Ranges i j rs
  unfolding ranges
  ranges-sound i j rs h =
      let first = then_some (range v i) _ (rs, j) h in
      let all = more_ranges v (first.part ∷ []) first.end in
      let end = closed-some all.0 rs (ended v all.1) j first.rest in
      record {
        at_period = all.1;
        chain = subst (λ (x : List Range). Chain (IsRange v) alone (IsRange v) with_last i all.1 x) end.0 (record {
          middle = first.end;
          first = first.part;
          one = range-sound i first.end first.part first.read;
          others = more-ranges-sound (first.part ∷ []) first.end;
        });
        period = ended-sound v all.1 j end.1;
      }

  value-sound : (i j : ℕ) → past_value v i ≡ Some j → Then (Either (A v k.Value) (A v k.Values)) (Maybe (IsOrAre v)) i j
  unfolding past_value
  value-sound i j h =
      let parts = if_some (has v k.Value i || has v k.Values i) (Some (past_is_or_are v (i + 1))) j h in
      record {
        middle = i + 1;
        first = either-sound v k.Value k.Values i _ _ refl refl parts.0;
        second = subst (λ (m : ℕ). Maybe (IsOrAre v) (i + 1) m) (some_same (past_is_or_are v (i + 1)) j parts.1) (past-is-or-are-sound v (i + 1));
      }

  pub condition-sound : (i m j : ℕ) (d : Draft) → Count v i m 88 → cond_entry v i m ≡ Some (d, j) → IsCondition v i j d
  unfolding cond_entry cond_rest
  condition-sound i m j d level h =
      let first = then_some (name v.text m) (λ n l. cond_rest v n i l) (d, j) h in
      let second = then_some (from_value (past_value v first.end) (ranges v)) (λ rs l. Some (with_ranges (plain_entry 88 (Some first.part) None i) rs, l)) (d, j) first.rest in
      let from = from-some (past_value v first.end) (ranges v) (second.part, second.end) second.read in
      let read = ranges-sound from.end second.end second.part from.rest in
      let same = found (with_ranges (plain_entry 88 (Some first.part) None i) second.part) d second.end j second.rest in
      record {
        at_name = m;
        at_value = first.end;
        at_ranges = from.end;
        at_period = read.at_period;
        n = first.part;
        rs = second.part;
        level = level;
        name = name-sound v m first.end first.part first.read;
        value = value-sound first.end from.end from.read;
        ranges = read.chain;
        period = subst (λ (l : ℕ). Period v read.at_period l) same.1 read.period;
        is = sym same.0;
      }
