-- Data description entries are read as the grammar says.
use Rattle.std.proofs.Common.{◌≡◌, ℕ, ◌+◌, ◌<◌, ◌⊎◌, inl, inr, Bool, true, false, ◌&&◌, ◌||◌, ◌==◌, nat_lt, List, [], Option, Some, None, refl, ap, sym, subst, ◌∙◌, arith, if◌then◌else◌}
use Rattle.std.proofs.lemmas.Bool.Decides.{nat_tests}
use Rattle.decimal_bytes.specs.declared.form.SignPlace.{SignPlace}
use Rattle.decimal_bytes.specs.declared.form.SignPlace.TheVariants as sign
use Rattle.cobol_syntax.specs.declared.program.Usage.{Usage}
use Rattle.cobol_syntax.specs.declared.program.Usage.TheVariants as usage
use Rattle.cond_reader.specs.declared.symbol.Symbol.TheVariants as s
use Rattle.cond_reader.specs.Reads.{and_then}
use Rattle.cond_reader.specs.Places.{name}
use Rattle.cond_reader.specs.Exprs.{constant}
use Rattle.cond_reader.proofs.Seen.{if_some, found, then_some, both_true}
use Rattle.program_reader.specs.declared.entry.Draft.{Draft}
use Rattle.program_reader.specs.declared.entry.EntryPart.{EntryPart}
use Rattle.program_reader.specs.declared.entry.EntryPart.TheVariants as p
use Rattle.program_reader.specs.declared.term.Term.{Term}
use Rattle.program_reader.specs.declared.term.Term.TheVariants as k
use Rattle.program_reader.specs.Views.{View, has, past, past_is, ended, count}
use Rattle.program_reader.specs.Drafts.{plain_entry}
use Rattle.program_reader.specs.CondEntries.{cond_entry}
use Rattle.program_reader.specs.Entries.{has_part, with_part, sign_at, level_of, or_read, given_or_none, is_picture, picture_part, occurs_part, value_part, past_word_is, sign_rest, sign_part, usage_part, form_part, entry_part, unless_there, next_entry_part, more_entry_parts, entry_name, redefined, entry_end, entry_rest, entry_by_level, entry}
use Rattle.program_reader.specs.Grammar.{Then, Maybe, absent, given, A, S, Count}
use Rattle.program_reader.specs.EntryGrammar.{Clauses, SignEnd, UsageWord, PictureText, EntryClause, EntryName, Redefined, IsLevel, IsItem, IsDraft}
use Rattle.program_reader.specs.EntryGrammar.SignEnd.{leading, trailing, leading_separate, trailing_separate}
use Rattle.program_reader.specs.EntryGrammar.UsageWord.{display, binary, packed}
use Rattle.program_reader.specs.EntryGrammar.EntryClause.{picture as of_picture, usage_is, occurs as of_occurs, sign_is, value as of_value}
use Rattle.program_reader.specs.EntryGrammar.EntryName.{unnamed, filler, name as of_name}
use Rattle.program_reader.specs.EntryGrammar.Redefined.{nothing, redefines as of_redefines}
use Rattle.program_reader.specs.EntryGrammar.IsDraft.{item, condition}
use Rattle.program_reader.proofs.PartLaws.{has-sound, past-sound, past-is-sound, ended-sound, name-sound, count-sound, constant-sound, closed-some}
use Rattle.program_reader.proofs.Steps.{if_either, if_not, clauses-sound}
use Rattle.program_reader.proofs.CondEntryLaws.{condition-sound}

pub level-some : (n l : ℕ) → level_of n ≡ Some l → (n ≡ l) × IsLevel l
level-some n l h =
    let parts = if_some ((nat_lt 0 n && nat_lt n 50) || n == 77) (Some n) l h in
    let same : n ≡ l = let e = parts.1 in cc in
    let level : IsLevel n = grind (arith, nat_tests, parts.0) in
    (same, subst IsLevel same level)

module _ (v : View) where
  after : (term : Term) (P : ℕ → ℕ → Type 0) (i j : ℕ) → has v term i ≡ true → P (i + 1) j → Then (A v term) P i j
  after term P i j is rest = record { middle = i + 1; first = has-sound v term i is; second = rest }

  word-is-sound : (term : Term) (i : ℕ) → Maybe (Then (A v term) (Maybe (S v s.Is))) i (past_word_is v term i)
  unfolding past_word_is
  word-is-sound term i =
      elim (has v term i) as (λ (b : Bool). has v term i ≡ b → Maybe (Then (A v term) (Maybe (S v s.Is))) i (if b then past_is v (i + 1) else i)) [
        | true ↦ λ e. given (after term _ i (past_is v (i + 1)) e (past-is-sound v (i + 1)))
        | false ↦ λ e. absent
      ] refl

  picture-sound : (i j : ℕ) (x : EntryPart) → has v k.Picture i ≡ true → picture_part v (i + 1) ≡ Some (x, j) → EntryClause v i j x
  unfolding picture_part
  picture-sound i j x is h =
      let m = past_is v (i + 1) in
      let parts = if_some (is_picture v m) (Some (p.Picture m, m + 1)) (x, j) h in
      let same = found (p.Picture m) x (m + 1) j parts.1 in
      let head : Then (A v k.Picture) (Maybe (S v s.Is)) i m = after k.Picture _ i m is (past-is-sound v (i + 1)) in
      subst (λ (y : EntryPart). EntryClause v i j y) same.0 (of_picture head (record { read = parts.0; next_is = sym same.1 }))

  occurs-sound : (i j : ℕ) (x : EntryPart) → has v k.Occurs i ≡ true → occurs_part v (i + 1) ≡ Some (x, j) → EntryClause v i j x
  unfolding occurs_part
  occurs-sound i j x is h =
      let step = then_some (count v (i + 1)) (λ n l. Some (p.Occurs n, past v k.Times l)) (x, j) h in
      let same = found (p.Occurs step.part) x (past v k.Times step.end) j step.rest in
      let whole : EntryClause v i (past v k.Times step.end) (p.Occurs step.part) =
      of_occurs (has-sound v k.Occurs i is) (count-sound v (i + 1) step.end step.part step.read) (past-sound v k.Times step.end) in
      subst (λ (l : ℕ). EntryClause v i l x) same.1 (subst (λ (y : EntryPart). EntryClause v i (past v k.Times step.end) y) same.0 whole)

  value-sound : (i j : ℕ) (x : EntryPart) → has v k.Value i ≡ true → value_part v (i + 1) ≡ Some (x, j) → EntryClause v i j x
  unfolding value_part
  value-sound i j x is h =
      let m = past_is v (i + 1) in
      let step = then_some (constant v.text m) (λ o l. Some (p.Value o, l)) (x, j) h in
      let same = found (p.Value step.part) x step.end j step.rest in
      let head : Then (A v k.Value) (Maybe (S v s.Is)) i m = after k.Value _ i m is (past-is-sound v (i + 1)) in
      let whole : EntryClause v i step.end (p.Value step.part) = of_value head (constant-sound v m step.end step.part step.read) in
      subst (λ (l : ℕ). EntryClause v i l x) same.1 (subst (λ (y : EntryPart). EntryClause v i step.end y) same.0 whole)

  abbrev end_word : Bool → Term
  end_word true = k.Leading
  end_word false = k.Trailing

  short-end : (b : Bool) (i : ℕ) → has v (end_word b) i ≡ true → SignEnd v i (i + 1) (sign_at b false)
  short-end true i is = leading (has-sound v k.Leading i is)
  short-end false i is = trailing (has-sound v k.Trailing i is)

  long-end : (b : Bool) (i j : ℕ) → has v (end_word b) i ≡ true → Then (A v k.Separate) (Maybe (A v k.Character)) (i + 1) j → SignEnd v i j (sign_at b true)
  long-end true i j is rest = leading_separate (after k.Leading _ i j is rest)
  long-end false i j is rest = trailing_separate (after k.Trailing _ i j is rest)

  sign-end : (b : Bool) (i m j : ℕ) (x : EntryPart) → Maybe (Then (A v k.Sign) (Maybe (S v s.Is))) i m → has v (end_word b) m ≡ true
      → ◌≡◌ {A = EntryPart × ℕ} (sign_rest v b (m + 1)) (x, j) → EntryClause v i j x
  unfolding sign_rest
  sign-end b i m j x head is h =
      let G : EntryPart × ℕ → Type 0 = λ q. EntryClause v i q.1 q.0 in
      if_either (has v k.Separate (m + 1)) _ _ (x, j) (EntryClause v i j x) h
      (λ more e.
      let rest : Then (A v k.Separate) (Maybe (A v k.Character)) (m + 1) (past v k.Character (m + 1 + 1)) =
      after k.Separate _ (m + 1) (past v k.Character (m + 1 + 1)) more (past-sound v k.Character (m + 1 + 1)) in
      subst G e (sign_is head (long-end b m (past v k.Character (m + 1 + 1)) is rest)))
      (λ _ e. subst G e (sign_is head (short-end b m is)))

  some_pair : (a b : EntryPart × ℕ) → Some a ≡ Some b → a ≡ b
  some_pair a b h = cc

  sign-sound : (i j : ℕ) (x : EntryPart) → sign_part v i ≡ Some (x, j) → EntryClause v i j x
  unfolding sign_part
  sign-sound i j x h =
      let m = past_word_is v k.Sign i in
      if_either (has v k.Leading m) _ _ (Some (x, j)) (EntryClause v i j x) h
      (λ is read. sign-end true i m j x (word-is-sound k.Sign i) is (some_pair (sign_rest v true (m + 1)) (x, j) read))
      (λ _ rest.
      let parts = if_some (has v k.Trailing m) (Some (sign_rest v false (m + 1))) (x, j) rest in
      sign-end false i m j x (word-is-sound k.Sign i) parts.0 (some_pair (sign_rest v false (m + 1)) (x, j) parts.1))

  usage-with : (i m j : ℕ) (x : EntryPart) (u : Usage) → Maybe (Then (A v k.Usage) (Maybe (S v s.Is))) i m → UsageWord v m (m + 1) u
      → ◌≡◌ {A = Option (EntryPart × ℕ)} (Some (p.Usage u, m + 1)) (Some (x, j)) → EntryClause v i j x
  usage-with i m j x u head word h =
      let same = found (p.Usage u) x (m + 1) j h in
      subst (λ (l : ℕ). EntryClause v i l x) same.1 (subst (λ (y : EntryPart). EntryClause v i (m + 1) y) same.0 (usage_is head word))

  usage-sound : (i j : ℕ) (x : EntryPart) → usage_part v i ≡ Some (x, j) → EntryClause v i j x
  unfolding usage_part
  usage-sound i j x h =
      let m = past_word_is v k.Usage i in
      let head = word-is-sound k.Usage i in
      if_either (has v k.Display m) _ _ (Some (x, j)) (EntryClause v i j x) h
      (λ is read. usage-with i m j x usage.Display head (display (has-sound v k.Display m is)) read)
      (λ _ rest. if_either (has v k.Binary m) _ _ (Some (x, j)) (EntryClause v i j x) rest
      (λ is read. usage-with i m j x usage.Binary head (binary (has-sound v k.Binary m is)) read)
      (λ _ rest.
      let parts = if_some (has v k.Packed m) _ (x, j) rest in
      usage-with i m j x usage.Packed head (packed (has-sound v k.Packed m parts.0)) parts.1))

  form-sound : (i j : ℕ) (x : EntryPart) → form_part v i ≡ Some (x, j) → EntryClause v i j x
  unfolding form_part
  form-sound i j x h =
      elim (sign_part v i) as (λ (r : Option (EntryPart × ℕ)). sign_part v i ≡ r → or_read r (usage_part v i) ≡ Some (x, j) → EntryClause v i j x) [
        | None ↦ λ e h. usage-sound i j x h
        | Some q ↦ λ e h. sign-sound i j x (e ∙ h)
      ] refl h

  part-sound : (i j : ℕ) (x : EntryPart) → entry_part v i ≡ Some (x, j) → EntryClause v i j x
  unfolding entry_part
  part-sound i j x h =
      if_either (has v k.Picture i) _ _ (Some (x, j)) (EntryClause v i j x) h
      (λ is read. picture-sound i j x is read)
      (λ _ rest. if_either (has v k.Occurs i) _ _ (Some (x, j)) (EntryClause v i j x) rest
      (λ is read. occurs-sound i j x is read)
      (λ _ rest. if_either (has v k.Value i) _ _ (Some (x, j)) (EntryClause v i j x) rest
      (λ is read. value-sound i j x is read)
      (λ _ read. form-sound i j x read)))

  next-sound : (d : Draft) (i j : ℕ) (x : EntryPart) → next_entry_part v d i ≡ Some (x, j) → EntryClause v i j x × (has_part d x ≡ false)
  unfolding next_entry_part
  next-sound d i j x h =
      let step = then_some (entry_part v i) (unless_there v d) (x, j) h in
      let free = if_not (has_part d step.part) (Some (step.part, step.end)) (x, j) step.rest in
      let same = found step.part x step.end j free.1 in
      let read = part-sound i step.end step.part step.read in (
        subst (λ (l : ℕ). EntryClause v i l x) same.1 (subst (λ (y : EntryPart). EntryClause v i step.end y) same.0 read),
        subst (λ (y : EntryPart). has_part d y ≡ false) same.0 free.0,
      )

  parts-sound : (d : Draft) (i : ℕ)
      → Clauses has_part with_part (EntryClause v) d i (more_entry_parts v d i).1 (more_entry_parts v d i).0
  unfolding more_entry_parts
  parts-sound d i = clauses-sound has_part with_part (next_entry_part v) (EntryClause v) next-sound 5 d i

  name-sound-or : (i : ℕ) (r : Option (List ℕ × ℕ)) → name v.text i ≡ r → EntryName v i (given_or_none i r).1 (given_or_none i r).0
  name-sound-or i None e = unnamed
  name-sound-or i (Some q) e = of_name (name-sound v i q.1 q.0 e)

  entry-name-sound : (i : ℕ) → EntryName v i (entry_name v i).1 (entry_name v i).0
  unfolding entry_name
  entry-name-sound i =
      elim (has v k.Filler i) as (λ (b : Bool). has v k.Filler i ≡ b
      → EntryName v i (if b then (None, i + 1) else given_or_none i (name v.text i)).1 (if b then (None, i + 1) else given_or_none i (name v.text i)).0) [
        | true ↦ λ e. filler (has-sound v k.Filler i e)
        | false ↦ λ e. name-sound-or i (name v.text i) refl
      ] refl

  redefined-sound : (i j : ℕ) (r : Option (List ℕ)) → redefined v i ≡ Some (r, j) → Redefined v i j r
  unfolding redefined
  redefined-sound i j r h =
      if_either (has v k.Redefines i) _ _ (Some (r, j)) (Redefined v i j r) h
      (λ is read.
      let step = then_some (name v.text (i + 1)) (λ n l. Some (Some n, l)) (r, j) read in
      let same = found (Some step.part) r step.end j step.rest in
      let whole : Redefined v i step.end (Some step.part) = of_redefines (has-sound v k.Redefines i is) (name-sound v (i + 1) step.end step.part step.read) in
      subst (λ (l : ℕ). Redefined v i l r) same.1 (subst (λ (y : Option (List ℕ)). Redefined v i step.end y) same.0 whole))
      (λ _ read.
      let same = found None r i j read in
      subst (λ (l : ℕ). Redefined v i l r) same.1 (subst (λ (y : Option (List ℕ)). Redefined v i i y) same.0 nothing))

  item-sound : (i m j l n : ℕ) (d : Draft) → Count v i m n → level_of n ≡ Some l → entry_rest v l i m ≡ Some (d, j) → IsItem v i j d
  unfolding entry_rest entry_end
  item-sound i m j l n d level is h =
      let named = entry_name v m in
      let levels = level-some n l is in
      let first = then_some (redefined v named.1) (λ r q. entry_end v (plain_entry l named.0 r i) q) (d, j) h in
      let all = more_entry_parts v (plain_entry l named.0 first.part i) first.end in
      let end = closed-some all.0 d (ended v all.1) j first.rest in
      record {
        at_name = m;
        at_redefines = named.1;
        at_clauses = first.end;
        at_period = all.1;
        l = l;
        n = named.0;
        r = first.part;
        level = subst (λ (x : ℕ). Count v i m x) levels.0 level;
        level_is = levels.1;
        name = entry-name-sound m;
        redefines = redefined-sound named.1 first.end first.part first.read;
        clauses = subst (λ (x : Draft). Clauses has_part with_part (EntryClause v) (plain_entry l named.0 first.part i) first.end all.1 x) end.0
            (parts-sound (plain_entry l named.0 first.part i) first.end);
        period = ended-sound v all.1 j end.1;
      }

  by-level : (i m j n : ℕ) (d : Draft) (r : Option ℕ) → Count v i m n → level_of n ≡ r → entry_by_level v i m r ≡ Some (d, j) → IsDraft v i j d
  by-level i m j n d None level e h = absurd (cc)
  by-level i m j n d (Some l) level e h = item (item-sound i m j l n d level e h)

  is_88 : (n : ℕ) → (n == 88) ≡ true → n ≡ 88
  is_88 n h = grind (arith, nat_tests)

  pub entry-sound : (i j : ℕ) (d : Draft) → entry v i ≡ Some (d, j) → IsDraft v i j d
  unfolding entry
  entry-sound i j d h =
      let step = then_some (count v i) (λ n m. if n == 88 then cond_entry v i m else entry_by_level v i m (level_of n)) (d, j) h in
      let level = count-sound v i step.end step.part step.read in
      if_either (step.part == 88) _ _ (Some (d, j)) (IsDraft v i j d) step.rest
      (λ is read. condition (condition-sound v i step.end j d (subst (λ (n : ℕ). Count v i step.end n) (is_88 step.part is) level) read))
      (λ _ read. by-level i step.end j step.part d (level_of step.part) level refl read)
