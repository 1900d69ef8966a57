-- Whole programs are read as the grammar says.
use Rattle.std.specs.Prelude.{Result, Ok, Err}
use Rattle.std.specs.List.{slice_get}
use Rattle.std.proofs.Common.{◌≡◌, ℕ, zero, suc, ◌+◌, Bool, true, false, List, [], ◌∷◌, Option, Some, None, length, refl, ap, sym, subst, ◌∙◌, arith, if◌then◌else◌}
use Rattle.std.proofs.lemmas.Option.{slice_get_within}
use Rattle.y2k_base.specs.declared.picture.Picture.{Picture}
use Rattle.y2k_base.specs.declared.word.Word.{Word}
use Rattle.y2k_base.specs.declared.word.WordKind.{WordKind}
use Rattle.y2k_base.specs.declared.word.WordKind.TheVariants as kind
use Rattle.picture.specs.Faults.{IsReading}
use Rattle.cobol_syntax.specs.declared.program.Entry.{Entry}
use Rattle.cobol_syntax.specs.declared.program.Paragraph.{Paragraph}
use Rattle.cobol_syntax.specs.declared.program.Program.{Program}
use Rattle.cobol_syntax.specs.declared.program.Sentence.{Sentence}
use Rattle.cond_reader.specs.Text.{spelling, text_at}
use Rattle.proc_reader.specs.declared.spot.Spot.{Spot}
use Rattle.proc_reader.proofs.SentenceLaws.{sentence-sound}
use Rattle.program_reader.specs.declared.data.Data.{Data}
use Rattle.program_reader.specs.declared.entry.Draft.{Draft}
use Rattle.program_reader.specs.declared.entry.EntryPart.{EntryPart}
use Rattle.program_reader.specs.declared.fault.Refused.{Refused}
use Rattle.program_reader.specs.declared.read.Opening.{Opening}
use Rattle.program_reader.specs.declared.reading.Reading.{Reading}
use Rattle.program_reader.specs.declared.reading.Reading.TheVariants as reading
use Rattle.program_reader.specs.declared.term.Term.TheVariants as k
use Rattle.program_reader.specs.Readings.{AreReadings, IsReadingOf, IsReadingBy}
use Rattle.program_reader.specs.Views.{View}
use Rattle.program_reader.specs.Drafts.{plain_entry}
use Rattle.program_reader.specs.CondEntries.{with_ranges}
use Rattle.program_reader.specs.Entries.{has_part, with_part, has_reading, is_picture}
use Rattle.program_reader.specs.Programs.{so, with_reading, with_picture, pictured, identification, environment, data_division}
use Rattle.program_reader.specs.Procedures.{procedure}
use Rattle.y2k_base.specs.declared.word.FileId.{FileId}
use Rattle.program_reader.specs.Whole.{IsAnswer, view_with, cond_names, program_after, source_with, opening_data, opening_rest, opening, procedure_with, after_opening, whole}
use Rattle.program_reader.specs.EntryGrammar.{Clauses, EntryClause, IsDraft}
use Rattle.program_reader.specs.EntryGrammar.Clauses.{stop, more}
use Rattle.program_reader.specs.EntryGrammar.EntryClause.{picture as of_picture, usage_is, occurs as of_occurs, sign_is, value as of_value}
use Rattle.program_reader.specs.EntryGrammar.IsDraft.{item, condition}
use Rattle.program_reader.specs.IsReads.{SentenceAt, IsRead}
use Rattle.program_reader.specs.ProgramGrammar.{Identification, Environment, DataDivision, IsPictured, IsProgram}
use Rattle.program_reader.specs.ProgramGrammar.IsPictured.{plain as without_picture, pictured as with_a_picture}
use Rattle.program_reader.proofs.Steps.{if_either, so-ok, ok_found}
use Rattle.program_reader.proofs.ProgramLaws.{ok_same, identification-sound, environment-sound, data-sound}
use Rattle.program_reader.proofs.ProcedureLaws.{procedure-sound}

by-kind : (w : Word) (k : WordKind) (p : Picture) → IsReadingBy w k (reading.Picture p) → IsReading w.text p
by-kind w kind.Picture p a = a
by-kind w kind.Name p a = absurd a
by-kind w kind.Number p a = absurd a
by-kind w kind.Literal p a = absurd a
by-kind w kind.Mark p a = absurd a

reading-at : (ws : List Word) (xs : List Reading) → AreReadings ws xs → (i : ℕ) (p : Picture) → slice_get xs i ≡ Some (reading.Picture p)
    → IsReading (text_at (slice_get ws i)) p
reading-at [] [] a i p h = absurd (cc)
reading-at [] (x ∷ xs) a i p h = absurd a
reading-at (w ∷ ws) [] a i p h = absurd a
reading-at (w ∷ ws) (x ∷ xs) a zero p h =
    let same : x ≡ reading.Picture p = cc in
    by-kind w w.kind p (subst (λ (y : Reading). IsReadingOf w y) same a.0)
reading-at (w ∷ ws) (x ∷ xs) a (suc i) p h = reading-at ws xs a.1 i p h

module _ (v : View) where
  -- a PICTURE clause has a string
  abbrev Good : Draft → Type 0
  Good d = d.has_picture ≡ true → is_picture v d.entry.picture_at ≡ true

  good-clause : (d : Draft) (i j : ℕ) (x : EntryPart) → EntryClause v i j x → Good d → Good (with_part d x)
  good-clause d i j _ (of_picture head text) good = λ h. text.read
  good-clause d i j _ (usage_is head word) good = good
  good-clause d i j _ (of_occurs word count times) good = good
  good-clause d i j _ (sign_is head end) good = good
  good-clause d i j _ (of_value head constant) good = good

  good-clauses : (d e : Draft) (i j : ℕ) → Clauses has_part with_part (EntryClause v) d i j e → Good d → Good e
  good-clauses d e i j stop good = good
  good-clauses d e i j (more {p = x} {m = m} clause free rest) good = good-clauses (with_part d x) e m j rest (good-clause d i m x clause good)

  good-draft : (i j : ℕ) (d : Draft) → IsDraft v i j d → Good d
  good-draft i j d (item w) = good-clauses (plain_entry w.l w.n w.r i) d w.at_clauses w.at_period w.clauses (λ h. absurd (cc))
  good-draft i j d (condition w) = subst Good (sym w.is) (λ h. absurd (cc))

  picture-by : (d : Draft) (e : Entry) (r : Option Reading) → AreReadings v.text.words v.readings → slice_get v.readings d.entry.picture_at ≡ r
      → d.has_picture ≡ true → has_reading r ≡ true → with_reading v d.entry r ≡ Ok e → IsPictured v d e
  unfolding spelling
  picture-by d e None a at is some h = absurd (cc)
  picture-by d e (Some reading.Plain) a at is some h = absurd (cc)
  picture-by d e (Some (reading.Refused refused)) a at is some h = absurd (cc)
  picture-by d e (Some (reading.Picture p)) a at is some h =
      let read : IsReading (text_at (slice_get v.text.words d.entry.picture_at)) p = reading-at v.text.words v.readings a d.entry.picture_at p at in
      subst (λ (x : Entry). IsPictured v d x) (ok_same (record (d.entry) { picture = Some p }) e h) (with_a_picture is read)

  pub picture-sound : AreReadings v.text.words v.readings → (i j : ℕ) (d : Draft) (e : Entry) → IsDraft v i j d → pictured v d ≡ Ok e → IsPictured v d e
  unfolding pictured with_picture is_picture
  picture-sound a i j d e w h =
      if_either d.has_picture _ _ (Ok e) (IsPictured v d e) h
      (λ is read. picture-by d e (slice_get v.readings d.entry.picture_at) a refl is (good-draft i j d w is) read)
      (λ is same. subst (λ (x : Entry). IsPictured v d x) (ok_same d.entry e same) (without_picture is))

  pub nonempty : {X : Type 0} (xs : List X) (x : X) → slice_get xs 0 ≡ Some x → (n : ℕ) × (length xs ≡ suc n)
  nonempty [] x h = absurd (cc)
  nonempty (y ∷ ys) x h = (length ys, refl)

  finished : (o : Opening) (i : ℕ) (program : ℕ) (p : Program) (a j : ℕ) (r : Result (List Paragraph) Refused)
      → Identification v 0 a o.id → Environment v a j o.selects → DataDivision v j i o.division
      → procedure v (source_with v.text.words (cond_names o.division) program) i ≡ r → after_opening v o r ≡ Ok p → IsProgram v (SentenceAt v.text.words program) p
  finished o i program p a j (Err refused) first second third e h = absurd (cc)
  finished o i program p a j (Ok paragraphs) first second third e h =
      let some = nonempty v.terms k.Identification first.headers.first.first.term_is in
      record {
        at_environment = a;
        at_data = j;
        at_procedure = i;
        id = o.id;
        selects = o.selects;
        data_division = o.division;
        paragraphs = paragraphs;
        identification = first;
        environment = second;
        sections = third;
        procedure = procedure-sound v (source_with v.text.words (cond_names o.division) program) (SentenceAt v.text.words program (cond_names o.division)) (λ l n x next read. sentence-sound (source_with v.text.words (cond_names o.division) program) 64 (record { at = l; number = n }) next x read)
            some.0 some.1 paragraphs i e;
        is = sym (ok_same (program_after v.text.words o paragraphs) p h);
      }

  pub whole-sound : AreReadings v.text.words v.readings → (program : ℕ) (p : Program) → whole v program ≡ Ok p → IsProgram v (SentenceAt v.text.words program) p
  unfolding whole opening opening_rest opening_data procedure_with
  whole-sound a program p h =
      let start = so-ok (opening v) (λ o j. after_opening v o (procedure_with v (cond_names o.division) program j)) p h in
      let first = so-ok (identification v 0) (λ id j. opening_rest v id j) (start.part, start.end) start.read in
      let second = so-ok (environment v first.end) (λ selects j. opening_data v first.part selects j) (start.part, start.end) first.rest in
      let third = so-ok (data_division v second.end) (λ d j. Ok (record { id = first.part; selects = second.part; division = d }, j)) (start.part, start.end) second.rest in
      let o : Opening = record { id = first.part; selects = second.part; division = third.part } in
      let same = ok_found o start.part third.end start.end third.rest in
      let rest : after_opening v o (procedure v (source_with v.text.words (cond_names o.division) program) third.end) ≡ Ok p =
      subst (λ (j : ℕ). after_opening v o (procedure v (source_with v.text.words (cond_names o.division) program) j) ≡ Ok p) (sym same.1)
      (subst (λ (q : Opening). after_opening v q (procedure v (source_with v.text.words (cond_names q.division) program) start.end) ≡ Ok p) (sym same.0) start.rest) in
      finished o third.end program p first.end second.end (procedure v (source_with v.text.words (cond_names o.division) program) third.end)
      (identification-sound v 0 first.end first.part first.read) (environment-sound v first.end second.end second.part second.read)
      (data-sound v (picture-sound a) second.end third.end third.part third.read) refl rest

pub read-sound : (words : List Word) (program : ℕ) (file : FileId) (p : Program) → IsAnswer words program file (Ok p) → IsRead words program file p
read-sound words program file p a = record {
  readings = a.readings;
  are_readings = a.are_readings;
  is_program = whole-sound (view_with words a.readings file) a.are_readings program p (sym a.is);
}
