-- The divisions before the procedure division are read as the grammar says.
use Rattle.std.specs.Prelude.{Result, Ok, Err}
use Rattle.std.proofs.Common.{◌≡◌, ℕ, ◌+◌, Bool, true, false, List, [], ◌∷◌, Option, Some, None, length, refl, ap, sym, subst, ◌∙◌, arith, if◌then◌else◌}
use Rattle.cobol_syntax.specs.declared.program.Entry.{Entry}
use Rattle.cobol_syntax.specs.declared.program.FileEntry.{FileEntry}
use Rattle.cobol_syntax.specs.declared.program.Select.{Select}
use Rattle.cond_reader.specs.declared.symbol.Symbol.TheVariants as s
use Rattle.cond_reader.specs.Text.{sees}
use Rattle.cond_reader.specs.Reads.{with_last}
use Rattle.cond_reader.specs.Grammar.{Many, Chain, alone}
use Rattle.program_reader.specs.declared.data.Data.{Data}
use Rattle.program_reader.specs.declared.entry.Draft.{Draft}
use Rattle.program_reader.specs.declared.fault.Refused.{Refused}
use Rattle.program_reader.specs.declared.term.Term.{Term}
use Rattle.program_reader.specs.declared.term.Term.TheVariants as k
use Rattle.program_reader.specs.Views.{View, has, header, headers, named}
use Rattle.program_reader.specs.Selects.{select}
use Rattle.program_reader.specs.Files.{file}
use Rattle.program_reader.specs.Entries.{entry}
use Rattle.program_reader.specs.Programs.{so, so_at, if_there, with_entries, required_at, required, name_unit, select_unit, file_unit, pictured, before_next, entry_unit, program_id, identification, computer, configuration, next_select, more_selects, input_output, environment, next_entry, more_entries, records, file_with_records, next_file, more_files, file_section, storage_section, data_sections, data_division}
use Rattle.program_reader.specs.Grammar.{Then, Maybe, absent, given, A, AnyName, Period, Header, Headers, NameUnit}
use Rattle.program_reader.specs.EntryGrammar.{IsSelect, IsFile, IsDraft}
use Rattle.program_reader.specs.ProgramGrammar.{Identification, Computer, Configuration, InputOutput, Environment, IsPictured, IsEntry, FileWithRecords, FileSection, StorageSection, DataDivision}
use Rattle.program_reader.specs.ProgramGrammar.InputOutput.{absent as no_io, given as some_io}
use Rattle.program_reader.specs.ProgramGrammar.Environment.{absent as no_environment, given as some_environment}
use Rattle.program_reader.specs.ProgramGrammar.FileSection.{absent as no_files, given as some_files}
use Rattle.program_reader.specs.ProgramGrammar.StorageSection.{absent as no_storage, given as some_storage}
use Rattle.program_reader.specs.ProgramGrammar.DataDivision.{absent as no_data, given as some_data}
use Rattle.program_reader.proofs.PartLaws.{header-sound, headers-sound, named-sound}
use Rattle.program_reader.proofs.SelectLaws.{select-sound}
use Rattle.program_reader.proofs.FileLaws.{file-sound}
use Rattle.program_reader.proofs.EntryLaws.{entry-sound}
use Rattle.program_reader.proofs.Steps.{so-ok, so_at-ok, ok_found, Added, each-sound}

pub ok_same : {X : Type 0} (x y : X) → ◌≡◌ {A = Result X Refused} (Ok x) (Ok y) → x ≡ y
ok_same x y h = cc

module _ (v : View) where
  pub required-ok : {X : Type 0} (r : Option X) (i : ℕ) (x : X) → required_at v r i ≡ Ok x → r ≡ Some x
  required-ok None i x h = absurd (cc)
  required-ok (Some y) i x h = ap (λ z. Some z) (ok_same y x h)

  pub header-read : (term : Term) (i j : ℕ) → required v (header v term i) i ≡ Ok j → Header v term i j
  unfolding required
  header-read term i j h = header-sound v term i j (required-ok (header v term i) i j h)

  pub headers-read : (a b : Term) (i j : ℕ) → required v (headers v a b i) i ≡ Ok j → Headers v a b i j
  unfolding required
  headers-read a b i j h = headers-sound v a b i j (required-ok (headers v a b i) i j h)

  name-read : (i j : ℕ) (n : List ℕ) → name_unit v i ≡ Ok (n, j) → NameUnit v i j n
  unfolding name_unit
  name-read i j n h = named-sound v i j n (required-ok (named v i) i (n, j) h)

  pub identification-sound : (i j : ℕ) (id : List ℕ) → identification v i ≡ Ok (id, j) → Identification v i j id
  unfolding identification program_id
  identification-sound i j id h =
      let first = so_at-ok (required v (headers v k.Identification k.Division i) i) (program_id v) (id, j) h in
      let second = so_at-ok (required v (header v k.ProgramId first.end) first.end) (name_unit v) (id, j) first.rest in
      record {
        at_name = second.end;
        headers = record { middle = first.end; first = headers-read k.Identification k.Division i first.end first.read; second = header-read k.ProgramId first.end second.end second.read };
        name = name-read second.end j id second.rest;
      }

  pub computer-sound : (term : Term) (i j : ℕ) → computer v term i ≡ Ok j → Computer v term i j
  unfolding computer
  computer-sound term i j h =
      elim (header v term i) as (λ (r : Option ℕ). header v term i ≡ r → if_there r (Ok i) (λ m. so (name_unit v m) (λ n l. Ok l)) ≡ Ok j → Computer v term i j) [
        | None ↦ λ e h. subst (λ (l : ℕ). Computer v term i l) (ok_same i j h) absent
        | Some m ↦ λ e h.
            let step = so-ok (name_unit v m) (λ n l. Ok l) j h in
            let unit = name-read m step.end step.part step.read in
            let whole : Computer v term i step.end = given (record {
              middle = m;
              first = header-sound v term i m e;
              second = record { middle = unit.middle; first = unit.name.word; second = unit.period };
            }) in
            subst (λ (l : ℕ). Computer v term i l) (ok_same step.end j step.rest) whole
      ] refl h

  pub configuration-sound : (i j : ℕ) → configuration v i ≡ Ok j → Configuration v i j
  unfolding configuration
  configuration-sound i j h =
      elim (headers v k.Configuration k.Section i) as (λ (r : Option ℕ). headers v k.Configuration k.Section i ≡ r
      → if_there r (Ok i) (λ m. so_at (computer v k.SourceComputer m) (computer v k.ObjectComputer)) ≡ Ok j → Configuration v i j) [
        | None ↦ λ e h. subst (λ (l : ℕ). Configuration v i l) (ok_same i j h) absent
        | Some m ↦ λ e h.
            let step = so_at-ok (computer v k.SourceComputer m) (computer v k.ObjectComputer) j h in
            given (record {
              middle = m;
              first = headers-sound v k.Configuration k.Section i m e;
              second = record { middle = step.end; first = computer-sound k.SourceComputer m step.end step.read; second = computer-sound k.ObjectComputer step.end j step.rest };
            })
      ] refl h

  pub next-select-sound : (ss : List Select) (i j : ℕ) (b : List Select) → next_select v ss i ≡ Ok (b, j) → Added (IsSelect v) with_last ss i j b
  unfolding next_select select_unit
  next-select-sound ss i j b h =
      let step = so-ok (select_unit v i) (λ x m. Ok (with_last ss x, m)) (b, j) h in
      let same = ok_found (with_last ss step.part) b step.end j step.rest in
      record {
        part = step.part;
        item = subst (λ (l : ℕ). IsSelect v i l step.part) same.1 (select-sound v i step.end step.part (required-ok (select v i) i (step.part, step.end) step.read));
        is = sym same.0;
      }

  selects-sound : (ss : List Select) (i j : ℕ) (b : List Select) → more_selects v ss i ≡ Ok (b, j) → Many (IsSelect v) with_last ss i j b
  unfolding more_selects
  selects-sound ss i j b h = each-sound (has v k.Select) (next_select v) (IsSelect v) with_last next-select-sound (length v.terms) ss i j b h

  input-output-sound : (i j : ℕ) (ss : List Select) → input_output v i ≡ Ok (ss, j) → InputOutput v i j ss
  unfolding input_output
  input-output-sound i j ss h =
      elim (headers v k.InputOutput k.Section i) as (λ (r : Option ℕ). headers v k.InputOutput k.Section i ≡ r
      → if_there r (Ok ([], i)) (λ m. so_at (required v (header v k.FileControl m) m) (more_selects v [])) ≡ Ok (ss, j) → InputOutput v i j ss) [
        | None ↦ λ e h.
            let same = ok_found [] ss i j h in
            subst (λ (l : ℕ). InputOutput v i l ss) same.1 (subst (λ (x : List Select). InputOutput v i i x) same.0 no_io)
        | Some m ↦ λ e h.
            let step = so_at-ok (required v (header v k.FileControl m) m) (more_selects v []) (ss, j) h in
            let head : Then (Headers v k.InputOutput k.Section) (Header v k.FileControl) i step.end =
            record { middle = m; first = headers-sound v k.InputOutput k.Section i m e; second = header-read k.FileControl m step.end step.read } in
            some_io head (selects-sound [] step.end j ss step.rest)
      ] refl h

  pub environment-sound : (i j : ℕ) (ss : List Select) → environment v i ≡ Ok (ss, j) → Environment v i j ss
  unfolding environment
  environment-sound i j ss h =
      elim (headers v k.Environment k.Division i) as (λ (r : Option ℕ). headers v k.Environment k.Division i ≡ r
      → if_there r (Ok ([], i)) (λ m. so_at (configuration v m) (input_output v)) ≡ Ok (ss, j) → Environment v i j ss) [
        | None ↦ λ e h.
            let same = ok_found [] ss i j h in
            subst (λ (l : ℕ). Environment v i l ss) same.1 (subst (λ (x : List Select). Environment v i i x) same.0 no_environment)
        | Some m ↦ λ e h.
            let step = so_at-ok (configuration v m) (input_output v) (ss, j) h in
            let head : Then (Headers v k.Environment k.Division) (Configuration v) i step.end =
            record { middle = m; first = headers-sound v k.Environment k.Division i m e; second = configuration-sound m step.end step.read } in
            some_environment head (input-output-sound step.end j ss step.rest)
      ] refl h

-- What a draft is read as, where this is known of its picture.
module _ (v : View) (picture-sound : (i j : ℕ) (d : Draft) (e : Entry) → IsDraft v i j d → pictured v d ≡ Ok e → IsPictured v d e) where
  entry-unit-sound : (i j : ℕ) (e : Entry) → entry_unit v i ≡ Ok (e, j) → IsEntry v i j e
  unfolding entry_unit
  entry-unit-sound i j e h =
      let step = so-ok (required_at v (entry v i) i) (λ d m. before_next v (pictured v d) m) (e, j) h in
      let draft = entry-sound v i step.end step.part (required-ok v (entry v i) i (step.part, step.end) step.read) in
      elim (pictured v step.part) as (λ (r : Result Entry Refused). pictured v step.part ≡ r → before_next v r step.end ≡ Ok (e, j) → IsEntry v i j e) [
        | Err refused ↦ λ q h. absurd (cc)
        | Ok x ↦ λ q h.
            let same = ok_found x e step.end j h in
            let whole : IsEntry v i step.end x = record { draft = step.part; is_draft = draft; picture = picture-sound i step.end step.part x draft q } in
            subst (λ (l : ℕ). IsEntry v i l e) same.1 (subst (λ (y : Entry). IsEntry v i step.end y) same.0 whole)
      ] refl step.rest

  pub next-entry-sound : (es : List Entry) (i j : ℕ) (b : List Entry) → next_entry v es i ≡ Ok (b, j) → Added (IsEntry v) with_last es i j b
  unfolding next_entry
  next-entry-sound es i j b h =
      let step = so-ok (entry_unit v i) (λ x m. Ok (with_last es x, m)) (b, j) h in
      let same = ok_found (with_last es step.part) b step.end j step.rest in
      record {
        part = step.part;
        item = subst (λ (l : ℕ). IsEntry v i l step.part) same.1 (entry-unit-sound i step.end step.part step.read);
        is = sym same.0;
      }

  entries-sound : (es : List Entry) (i j : ℕ) (b : List Entry) → more_entries v es i ≡ Ok (b, j) → Many (IsEntry v) with_last es i j b
  unfolding more_entries
  entries-sound es i j b h = each-sound (sees v.text s.Number) (next_entry v) (IsEntry v) with_last next-entry-sound (length v.terms) es i j b h

  file-with-records-sound : (i j : ℕ) (f : FileEntry) → file_with_records v i ≡ Ok (f, j) → FileWithRecords v i j f
  unfolding file_with_records records file_unit
  file-with-records-sound i j f h =
      let head = so-ok (file_unit v i) (records v) (f, j) h in
      let first = so-ok (next_entry v [] head.end) (λ x m. so (more_entries v x m) (λ es l. Ok (with_entries head.part es, l))) (f, j) head.rest in
      let rest = so-ok (more_entries v first.part first.end) (λ es l. Ok (with_entries head.part es, l)) (f, j) first.rest in
      let added = next-entry-sound [] head.end first.end first.part first.read in
      let same = ok_found (with_entries head.part rest.part) f rest.end j rest.rest in
      let chain : Chain (IsEntry v) alone (IsEntry v) with_last head.end rest.end rest.part = record {
        middle = first.end;
        first = added.part;
        one = added.item;
        others = subst (λ (x : List Entry). Many (IsEntry v) with_last x first.end rest.end rest.part) added.is (entries-sound first.part first.end rest.end rest.part rest.read);
      } in
      record {
        middle = head.end;
        head = head.part;
        es = rest.part;
        file = file-sound v i head.end head.part (required-ok v (file v i) i (head.part, head.end) head.read);
        entries = subst (λ (l : ℕ). Chain (IsEntry v) alone (IsEntry v) with_last head.end l rest.part) same.1 chain;
        is = sym same.0;
      }

  pub next-file-sound : (fs : List FileEntry) (i j : ℕ) (b : List FileEntry) → next_file v fs i ≡ Ok (b, j) → Added (FileWithRecords v) with_last fs i j b
  unfolding next_file
  next-file-sound fs i j b h =
      let step = so-ok (file_with_records v i) (λ x m. Ok (with_last fs x, m)) (b, j) h in
      let same = ok_found (with_last fs step.part) b step.end j step.rest in
      record {
        part = step.part;
        item = subst (λ (l : ℕ). FileWithRecords v i l step.part) same.1 (file-with-records-sound i step.end step.part step.read);
        is = sym same.0;
      }

  files-sound : (fs : List FileEntry) (i j : ℕ) (b : List FileEntry) → more_files v fs i ≡ Ok (b, j) → Many (FileWithRecords v) with_last fs i j b
  unfolding more_files
  files-sound fs i j b h = each-sound (has v k.Fd) (next_file v) (FileWithRecords v) with_last next-file-sound (length v.terms) fs i j b h

  pub file-section-sound : (i j : ℕ) (fs : List FileEntry) → file_section v i ≡ Ok (fs, j) → FileSection v i j fs
  unfolding file_section
  file-section-sound i j fs h =
      elim (headers v k.File k.Section i) as (λ (r : Option ℕ). headers v k.File k.Section i ≡ r
      → if_there r (Ok ([], i)) (more_files v []) ≡ Ok (fs, j) → FileSection v i j fs) [
        | None ↦ λ e h.
            let same = ok_found [] fs i j h in
            subst (λ (l : ℕ). FileSection v i l fs) same.1 (subst (λ (x : List FileEntry). FileSection v i i x) same.0 no_files)
        | Some m ↦ λ e h. some_files (headers-sound v k.File k.Section i m e) (files-sound [] m j fs h)
      ] refl h

  storage-section-sound : (i j : ℕ) (es : List Entry) → storage_section v i ≡ Ok (es, j) → StorageSection v i j es
  unfolding storage_section
  storage-section-sound i j es h =
      elim (headers v k.WorkingStorage k.Section i) as (λ (r : Option ℕ). headers v k.WorkingStorage k.Section i ≡ r
      → if_there r (Ok ([], i)) (more_entries v []) ≡ Ok (es, j) → StorageSection v i j es) [
        | None ↦ λ e h.
            let same = ok_found [] es i j h in
            subst (λ (l : ℕ). StorageSection v i l es) same.1 (subst (λ (x : List Entry). StorageSection v i i x) same.0 no_storage)
        | Some m ↦ λ e h. some_storage (headers-sound v k.WorkingStorage k.Section i m e) (entries-sound [] m j es h)
      ] refl h

  pub data-sound : (i j : ℕ) (d : Data) → data_division v i ≡ Ok (d, j) → DataDivision v i j d
  unfolding data_division data_sections
  data-sound i j d h =
      elim (headers v k.Data k.Division i) as (λ (r : Option ℕ). headers v k.Data k.Division i ≡ r
      → if_there r (Ok (record { files = []; storage = [] }, i)) (data_sections v) ≡ Ok (d, j) → DataDivision v i j d) [
        | None ↦ λ e h.
            let same = ok_found (record { files = []; storage = [] }) d i j h in
            subst (λ (l : ℕ). DataDivision v i l d) same.1 (subst (λ (x : Data). DataDivision v i i x) same.0 no_data)
        | Some m ↦ λ e h.
            let first = so-ok (file_section v m) (λ fs l. so (storage_section v l) (λ es q. Ok (record { files = fs; storage = es }, q))) (d, j) h in
            let second = so-ok (storage_section v first.end) (λ es q. Ok (record { files = first.part; storage = es }, q)) (d, j) first.rest in
            let same = ok_found (record { files = first.part; storage = second.part }) d second.end j second.rest in
            let whole : DataDivision v i second.end (record { files = first.part; storage = second.part }) =
            some_data (headers-sound v k.Data k.Division i m e) (file-section-sound m first.end first.part first.read)
            (storage-section-sound first.end second.end second.part second.read) in
            subst (λ (l : ℕ). DataDivision v i l d) same.1 (subst (λ (x : Data). DataDivision v i second.end x) same.0 whole)
      ] refl h
