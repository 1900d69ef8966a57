-- Where a division before the procedure division isn't read, the grammar says why.
use Rattle.std.specs.Prelude.{Result, Ok, Err}
use Rattle.std.specs.List.{slice_get}
use Rattle.std.proofs.Common.{◌≡◌, ℕ, zero, suc, ◌+◌, Bool, true, false, List, [], ◌∷◌, Option, Some, None, length, refl, ap, sym, subst, ◌∙◌, arith, if◌then◌else◌}
use Rattle.y2k_base.specs.declared.word.Word.{Word}
use Rattle.y2k_base.specs.declared.word.WordKind.{WordKind}
use Rattle.y2k_base.specs.declared.word.WordKind.TheVariants as kind
use Rattle.cobol_syntax.specs.declared.program.Entry.{Entry}
use Rattle.cobol_syntax.specs.declared.program.FileEntry.{FileEntry}
use Rattle.cobol_syntax.specs.declared.program.Select.{Select}
use Rattle.cond_reader.specs.declared.symbol.Symbol.TheVariants as s
use Rattle.cond_reader.specs.Text.{sees}
use Rattle.cond_reader.specs.Reads.{with_last}
use Rattle.cond_reader.specs.Grammar.{Many, stop as none_left, more as one_more}
use Rattle.program_reader.specs.declared.data.Data.{Data}
use Rattle.program_reader.specs.declared.entry.Draft.{Draft}
use Rattle.program_reader.specs.declared.fault.Refused.{Refused}
use Rattle.program_reader.specs.declared.reading.Reading.{Reading}
use Rattle.program_reader.specs.declared.reading.Reading.TheVariants as reading
use Rattle.program_reader.specs.declared.term.Term.{Term}
use Rattle.program_reader.specs.declared.term.Term.TheVariants as k
use Rattle.program_reader.specs.Readings.{AreReadings, IsReadingOf, IsReadingBy, IsPictureOf}
use Rattle.program_reader.specs.Views.{View, has, header, headers, named}
use Rattle.program_reader.specs.Selects.{select}
use Rattle.program_reader.specs.Files.{file}
use Rattle.program_reader.specs.Entries.{entry}
use Rattle.program_reader.specs.Programs.{so, so_at, each, if_there, with_entries, required_at, required, name_unit, select_unit, file_unit, with_reading, with_picture, pictured, before_next, entry_unit, program_id, identification, computer, configuration, next_select, more_selects, input_output, environment, next_entry, more_entries, records, file_with_records, next_file, more_files, file_section, storage_section, data_sections, data_division}
use Rattle.program_reader.specs.Grammar.{Then, Header, Headers}
use Rattle.program_reader.specs.EntryGrammar.{IsSelect, IsFile, IsDraft}
use Rattle.program_reader.specs.ProgramGrammar.{Computer, Configuration, IsPictured, IsEntry, FileWithRecords}
use Rattle.program_reader.specs.RefusalGrammar.{Unread, IdentificationRefused, ComputerRefused, EnvironmentRefused, EntryRefused, EntriesRefused, FileRefused, DataRefused}
use Rattle.program_reader.specs.RefusalGrammar.IdentificationRefused.{division as no_division, program_id as no_program_id, name as no_name}
use Rattle.program_reader.specs.RefusalGrammar.EnvironmentRefused.{source as no_source, object as no_object, file_control as no_file_control, select_entry as no_select}
use Rattle.program_reader.specs.RefusalGrammar.EntryRefused.{unread as no_entry, picture as no_picture}
use Rattle.program_reader.specs.RefusalGrammar.FileRefused.{unread as no_file, records as no_records}
use Rattle.program_reader.specs.RefusalGrammar.DataRefused.{files as no_files, storage as no_storage}
use Rattle.program_reader.proofs.PartLaws.{header-sound, headers-sound}
use Rattle.program_reader.proofs.FileLaws.{file-sound}
use Rattle.program_reader.proofs.EntryLaws.{entry-sound}
use Rattle.program_reader.proofs.ProgramLaws.{required-ok, header-read, headers-read, computer-sound, configuration-sound, next-select-sound, next-entry-sound, next-file-sound, file-section-sound}
use Rattle.program_reader.proofs.Steps.{if_either, Added}

pub err_same : {X : Type 0} (x y : Refused) → ◌≡◌ {A = Result X Refused} (Err x) (Err y) → x ≡ y
err_same x y h = cc

pub so-err : {A B : Type 0} (r : Result (A × ℕ) Refused) (f : A → ℕ → Result B Refused) (x : Refused) (G : Type 0) → so r f ≡ Err x
    → (r ≡ Err x → G) → ((p : A) (j : ℕ) → r ≡ Ok (p, j) → f p j ≡ Err x → G) → G
so-err (Err y) f x G h a b = a (ap (λ z. Err z) (err_same y x h))
so-err (Ok p) f x G h a b = b p.0 p.1 refl h

pub so_at-err : {B : Type 0} (r : Result ℕ Refused) (f : ℕ → Result B Refused) (x : Refused) (G : Type 0) → so_at r f ≡ Err x
    → (r ≡ Err x → G) → ((j : ℕ) → r ≡ Ok j → f j ≡ Err x → G) → G
so_at-err (Err y) f x G h a b = a (ap (λ z. Err z) (err_same y x h))
so_at-err (Ok j) f x G h a b = b j refl h

pub there-err : {B : Type 0} (r : Option ℕ) (a : B) (f : ℕ → Result B Refused) (x : Refused) (G : Type 0) → if_there r (Ok a) f ≡ Err x
    → ((j : ℕ) → r ≡ Some j → f j ≡ Err x → G) → G
there-err None a f x G h b = absurd (cc)
there-err (Some j) a f x G h b = b j refl h

-- Units that begin one after the other, up to one that is refused.
pub record EachErr {A B : Type 0} (next : A → ℕ → Result (A × ℕ) Refused) (Item : ℕ → ℕ → B → Type 0) (add : A → B → A) (a : A) (i : ℕ) (x : Refused) : Type 0 where
  pub middle : ℕ
  pub b : A
  pub before : Many Item add a i middle b
  pub refused : next b middle ≡ Err x

module _ {A B : Type 0} (begins : ℕ → Bool) (next : A → ℕ → Result (A × ℕ) Refused) (Item : ℕ → ℕ → B → Type 0) (add : A → B → A)
    (sound : (a : A) (i j : ℕ) (b : A) → next a i ≡ Ok (b, j) → Added Item add a i j b) where
  pub each-err : (n : ℕ) (a : A) (i : ℕ) (x : Refused) → each begins next n a i ≡ Err x → EachErr next Item add a i x
  unfolding each
  each-err zero a i x h = absurd (cc)
  each-err (suc n) a i x h =
      if_either (begins i) _ _ (Err x) (EachErr next Item add a i x) h
      (λ is begun. so-err (next a i) (λ c m. each begins next n c m) x (EachErr next Item add a i x) begun
      (λ e. record { middle = i; b = a; before = none_left; refused = e })
      (λ c m read rest.
      let added = sound a i m c read in
      let later = each-err n c m x rest in
      record {
        middle = later.middle;
        b = later.b;
        before = one_more added.item (subst (λ d. Many Item add d m later.middle later.b) added.is later.before);
        refused = later.refused;
      }))
      (λ is over. absurd (cc))

module _ (v : View) where
  pub required-err : {X : Type 0} (r : Option X) (i : ℕ) (x : Refused) → required_at v r i ≡ Err x → Unread v r i x
  required-err {X = X} None i x h = record { nothing = refl; is = sym (err_same {X = X} _ x h) }
  required-err (Some y) i x h = absurd (cc)

  both : (P Q : ℕ → ℕ → Type 0) (i m j : ℕ) → P i m → Q m j → Then P Q i j
  both P Q i m j p q = record { middle = m; first = p; second = q }

  pub identification-refused : (x : Refused) → identification v 0 ≡ Err x → IdentificationRefused v x
  unfolding identification program_id required name_unit
  identification-refused x h =
      let G : Type 0 = IdentificationRefused v x in
      so_at-err (required v (headers v k.Identification k.Division 0) 0) (program_id v) x G h
      (λ e. no_division (required-err _ 0 x e))
      (λ i one rest. so_at-err (required v (header v k.ProgramId i) i) (name_unit v) x G rest
      (λ e. no_program_id (headers-read v k.Identification k.Division 0 i one) (required-err _ i x e))
      (λ j two e. no_name (both _ _ 0 i j (headers-read v k.Identification k.Division 0 i one) (header-read v k.ProgramId i j two)) (required-err _ j x e)))

  computer-refused : (term : Term) (i : ℕ) (x : Refused) → computer v term i ≡ Err x → ComputerRefused v term i x
  unfolding computer name_unit
  computer-refused term i x h =
      let G : Type 0 = ComputerRefused v term i x in
      there-err (header v term i) i (λ m. so (name_unit v m) (λ n l. Ok l)) x G h
      (λ m is rest. so-err (name_unit v m) (λ n l. Ok l) x G rest
      (λ e. record { at_name = m; header = header-sound v term i m is; name = required-err _ m x e })
      (λ n l read over. absurd (cc)))

  select-refused : (ss : List Select) (i : ℕ) (x : Refused) → next_select v ss i ≡ Err x → Unread v (select v i) i x
  unfolding next_select select_unit
  select-refused ss i x h =
      so-err (select_unit v i) (λ y m. Ok (with_last ss y, m)) x (Unread v (select v i) i x) h
      (λ e. required-err _ i x e)
      (λ y m read over. absurd (cc))

  selects-refused : (i : ℕ) (x : Refused) → more_selects v [] i ≡ Err x → EachErr (next_select v) (IsSelect v) with_last [] i x
  unfolding more_selects
  selects-refused i x h = each-err (has v k.Select) (next_select v) (IsSelect v) with_last (next-select-sound v) (length v.terms) [] i x h

  configuration-refused : (i m : ℕ) (x : Refused) → Headers v k.Environment k.Division i m → configuration v m ≡ Err x → EnvironmentRefused v i x
  unfolding configuration
  configuration-refused i m x one h =
      let G : Type 0 = EnvironmentRefused v i x in
      there-err (headers v k.Configuration k.Section m) m (λ l. so_at (computer v k.SourceComputer l) (computer v k.ObjectComputer)) x G h
      (λ l is rest.
      let two = headers-sound v k.Configuration k.Section m l is in
      so_at-err (computer v k.SourceComputer l) (computer v k.ObjectComputer) x G rest
      (λ e. no_source (both _ _ i m l one two) (computer-refused k.SourceComputer l x e))
      (λ q read e. no_object (both _ _ i m q one (both _ _ m l q two (computer-sound v k.SourceComputer l q read))) (computer-refused k.ObjectComputer q x e)))

  input-output-refused : (i m l : ℕ) (x : Refused) → Headers v k.Environment k.Division i m → Configuration v m l → input_output v l ≡ Err x
      → EnvironmentRefused v i x
  unfolding input_output required
  input-output-refused i m l x one two h =
      let G : Type 0 = EnvironmentRefused v i x in
      there-err (headers v k.InputOutput k.Section l) ([], l) (λ q. so_at (required v (header v k.FileControl q) q) (more_selects v [])) x G h
      (λ q is rest.
      let three = headers-sound v k.InputOutput k.Section l q is in
      so_at-err (required v (header v k.FileControl q) q) (more_selects v []) x G rest
      (λ e. no_file_control (both _ _ i m q one (both _ _ m l q two three)) (required-err _ q x e))
      (λ u read e.
      let end = selects-refused u x e in
      no_select (both _ _ i m u one (both _ _ m l u two (both _ _ l q u three (header-read v k.FileControl q u read)))) end.before
      (select-refused end.b end.middle x end.refused)))

  pub environment-refused : (i : ℕ) (x : Refused) → environment v i ≡ Err x → EnvironmentRefused v i x
  unfolding environment
  environment-refused i x h =
      let G : Type 0 = EnvironmentRefused v i x in
      there-err (headers v k.Environment k.Division i) ([], i) (λ m. so_at (configuration v m) (input_output v)) x G h
      (λ m is rest.
      let one = headers-sound v k.Environment k.Division i m is in
      so_at-err (configuration v m) (input_output v) x G rest
      (λ e. configuration-refused i m x one e)
      (λ l read e. input-output-refused i m l x one (configuration-sound v m l read) e))

by-kind : (w : Word) (k : WordKind) (x : Refused) → IsReadingBy w k (reading.Refused x) → IsPictureOf w (reading.Refused x)
by-kind w kind.Picture x a = a
by-kind w kind.Name x a = absurd a
by-kind w kind.Number x a = absurd a
by-kind w kind.Literal x a = absurd a
by-kind w kind.Mark x a = absurd a

-- a word whose string has a fault
pub record FaultAt (ws : List Word) (i : ℕ) (x : Refused) : Type 0 where
  pub word : Word
  pub at : slice_get ws i ≡ Some word
  pub fault : IsPictureOf word (reading.Refused x)

fault-at : (ws : List Word) (xs : List Reading) → AreReadings ws xs → (i : ℕ) (x : Refused) → slice_get xs i ≡ Some (reading.Refused x) → FaultAt ws i x
fault-at [] [] a i x h = absurd (cc)
fault-at [] (y ∷ ys) a i x h = absurd a
fault-at (w ∷ ws) [] a i x h = absurd a
fault-at (w ∷ ws) (y ∷ ys) a zero x h =
    let same : y ≡ reading.Refused x = cc in
    record { word = w; at = refl; fault = by-kind w w.kind x (subst (λ (z : Reading). IsReadingOf w z) same a.0) }
fault-at (w ∷ ws) (y ∷ ys) a (suc i) x h =
    let there = fault-at ws ys a.1 i x h in
    record { word = there.word; at = there.at; fault = there.fault }

module _ (v : View) (are : AreReadings v.text.words v.readings)
    (picture-sound : (i j : ℕ) (d : Draft) (e : Entry) → IsDraft v i j d → pictured v d ≡ Ok e → IsPictured v d e) where
  picture-by : (i j : ℕ) (d : Draft) (x : Refused) (r : Option Reading) → IsDraft v i j d → d.has_picture ≡ true → slice_get v.readings d.entry.picture_at ≡ r
      → with_reading v d.entry r ≡ Err x → EntryRefused v i x
  picture-by i j d x None w is at h = absurd (cc)
  picture-by i j d x (Some reading.Plain) w is at h = absurd (cc)
  picture-by i j d x (Some (reading.Picture p)) w is at h = absurd (cc)
  picture-by i j d x (Some (reading.Refused y)) w is at h =
      let same : y ≡ x = err_same {X = Entry} y x h in
      let there = fault-at v.text.words v.readings are d.entry.picture_at x (at ∙ ap (λ z. Some (reading.Refused z)) same) in
      no_picture w is there.at there.fault.0 there.fault.1

  picture-refused : (i j : ℕ) (d : Draft) (x : Refused) → IsDraft v i j d → pictured v d ≡ Err x → EntryRefused v i x
  unfolding pictured with_picture
  picture-refused i j d x w h =
      if_either d.has_picture _ _ (Err x) (EntryRefused v i x) h
      (λ is e. picture-by i j d x (slice_get v.readings d.entry.picture_at) w is refl e)
      (λ is e. absurd (cc))

  entry-refused : (i : ℕ) (x : Refused) → entry_unit v i ≡ Err x → EntryRefused v i x
  unfolding entry_unit
  entry-refused i x h =
      let G : Type 0 = EntryRefused v i x in
      so-err (required_at v (entry v i) i) (λ d m. before_next v (pictured v d) m) x G h
      (λ e. no_entry (required-err v _ i x e))
      (λ d m read rest.
      let draft = entry-sound v i m d (required-ok v (entry v i) i (d, m) read) in
      elim (pictured v d) as (λ (r : Result Entry Refused). pictured v d ≡ r → before_next v r m ≡ Err x → EntryRefused v i x) [
        | Ok e ↦ λ q h. absurd (cc)
        | Err y ↦ λ q h. picture-refused i m d x draft (q ∙ ap (λ z. Err z) (err_same {X = Entry × ℕ} y x h))
      ] refl rest)

  next-entry-refused : (es : List Entry) (i : ℕ) (x : Refused) → next_entry v es i ≡ Err x → EntryRefused v i x
  unfolding next_entry
  next-entry-refused es i x h =
      so-err (entry_unit v i) (λ y m. Ok (with_last es y, m)) x (EntryRefused v i x) h
      (λ e. entry-refused i x e)
      (λ y m read over. absurd (cc))

  entries-refused : (es : List Entry) (i : ℕ) (x : Refused) → more_entries v es i ≡ Err x → EachErr (next_entry v) (IsEntry v) with_last es i x
  unfolding more_entries
  entries-refused es i x h =
      each-err (sees v.text s.Number) (next_entry v) (IsEntry v) with_last (next-entry-sound v picture-sound) (length v.terms) es i x h

  all-entries-refused : (i : ℕ) (x : Refused) → more_entries v [] i ≡ Err x → EntriesRefused v i x
  all-entries-refused i x h =
      let end = entries-refused [] i x h in
      record { middle = end.middle; es = end.b; before = end.before; refused = next-entry-refused end.b end.middle x end.refused }

  records-refused : (f : FileEntry) (i : ℕ) (x : Refused) → records v f i ≡ Err x → EntriesRefused v i x
  unfolding records
  records-refused f i x h =
      let G : Type 0 = EntriesRefused v i x in
      so-err (next_entry v [] i) (λ es m. so (more_entries v es m) (λ all l. Ok (with_entries f all, l))) x G h
      (λ e. record { middle = i; es = []; before = none_left; refused = next-entry-refused [] i x e })
      (λ es m read rest. so-err (more_entries v es m) (λ all l. Ok (with_entries f all, l)) x G rest
      (λ e.
      let added = next-entry-sound v picture-sound [] i m es read in
      let end = entries-refused es m x e in
      record {
        middle = end.middle;
        es = end.b;
        before = one_more added.item (subst (λ (ys : List Entry). Many (IsEntry v) with_last ys m end.middle end.b) added.is end.before);
        refused = next-entry-refused end.b end.middle x end.refused;
      })
      (λ all l read over. absurd (cc)))

  file-refused : (fs : List FileEntry) (i : ℕ) (x : Refused) → next_file v fs i ≡ Err x → FileRefused v i x
  unfolding next_file file_with_records file_unit
  file-refused fs i x h =
      let G : Type 0 = FileRefused v i x in
      so-err (file_with_records v i) (λ y m. Ok (with_last fs y, m)) x G h
      (λ e. so-err (file_unit v i) (records v) x G e
      (λ e. no_file (required-err v _ i x e))
      (λ f m read rest. no_records (file-sound v i m f (required-ok v (file v i) i (f, m) read)) (records-refused f m x rest)))
      (λ y m read over. absurd (cc))

  files-refused : (i : ℕ) (x : Refused) → more_files v [] i ≡ Err x → EachErr (next_file v) (FileWithRecords v) with_last [] i x
  unfolding more_files
  files-refused i x h = each-err (has v k.Fd) (next_file v) (FileWithRecords v) with_last (next-file-sound v picture-sound) (length v.terms) [] i x h

  pub data-refused : (i : ℕ) (x : Refused) → data_division v i ≡ Err x → DataRefused v i x
  unfolding data_division data_sections file_section storage_section
  data-refused i x h =
      let G : Type 0 = DataRefused v i x in
      there-err (headers v k.Data k.Division i) (record { files = []; storage = [] }, i) (data_sections v) x G h
      (λ m is rest.
      let one = headers-sound v k.Data k.Division i m is in
      so-err (file_section v m) (λ fs l. so (storage_section v l) (λ es q. Ok (record { files = fs; storage = es }, q))) x G rest
      (λ e. there-err (headers v k.File k.Section m) ([], m) (more_files v []) x G e
      (λ l there stopped.
      let end = files-refused l x stopped in
      no_files (record { middle = m; first = one; second = headers-sound v k.File k.Section m l there }) end.before (file-refused end.b end.middle x end.refused)))
      (λ fs l read rest. so-err (storage_section v l) (λ es q. Ok (record { files = fs; storage = es }, q)) x G rest
      (λ e. there-err (headers v k.WorkingStorage k.Section l) ([], l) (more_entries v []) x G e
      (λ q there stopped.
      no_storage one (file-section-sound v picture-sound m l fs read) (headers-sound v k.WorkingStorage k.Section l q there) (all-entries-refused q x stopped)))
      (λ es q read over. absurd (cc))))
