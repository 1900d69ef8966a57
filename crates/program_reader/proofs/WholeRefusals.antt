-- Where words are no program, the grammar says why.
use Rattle.std.specs.Prelude.{Result, Ok, Err}
use Rattle.std.proofs.Common.{◌≡◌, ℕ, suc, ◌+◌, List, [], ◌∷◌, Option, Some, None, length, refl, ap, sym, subst, ◌∙◌}
use Rattle.y2k_base.specs.declared.word.FileId.{FileId}
use Rattle.y2k_base.specs.declared.word.Word.{Word}
use Rattle.cobol_syntax.specs.declared.program.Paragraph.{Paragraph}
use Rattle.cobol_syntax.specs.declared.program.Program.{Program}
use Rattle.cobol_syntax.specs.declared.program.Select.{Select}
use Rattle.proc_reader.proofs.SentenceLaws.{sentence-sound}
use Rattle.program_reader.specs.declared.data.Data.{Data}
use Rattle.program_reader.specs.declared.fault.Refused.{Refused}
use Rattle.program_reader.specs.declared.read.Opening.{Opening}
use Rattle.program_reader.specs.declared.term.Term.TheVariants as k
use Rattle.program_reader.specs.Readings.{AreReadings}
use Rattle.program_reader.specs.Views.{View}
use Rattle.program_reader.specs.Programs.{so, identification, environment, data_division}
use Rattle.program_reader.specs.Procedures.{procedure}
use Rattle.program_reader.specs.Whole.{IsAnswer, view_with, cond_names, source_with, opening_data, opening_rest, opening, procedure_with, after_opening, whole}
use Rattle.program_reader.specs.IsReads.{SentenceAt, NoSentenceAt, IsRefusedBy}
use Rattle.program_reader.specs.RefusalGrammar.{IsRefused}
use Rattle.program_reader.specs.RefusalGrammar.IsRefused.{identification as no_identification, environment as no_environment, data_division as no_data, procedure as no_procedure}
use Rattle.program_reader.specs.ProgramGrammar.{Identification, Environment, DataDivision}
use Rattle.program_reader.proofs.ProgramLaws.{identification-sound, environment-sound, data-sound}
use Rattle.program_reader.proofs.ProcedureRefusals.{procedure-refused}
use Rattle.program_reader.proofs.RefusalLaws.{err_same, so-err, identification-refused, environment-refused, data-refused}
use Rattle.program_reader.proofs.Steps.{so-ok, ok_found}
use Rattle.program_reader.proofs.WholeLaws.{picture-sound, nonempty}

module _ (v : View) (are : AreReadings v.text.words v.readings) (program : ℕ) (x : Refused) where
  abbrev G : Type 0
  G = IsRefused v (SentenceAt v.text.words program) (NoSentenceAt v.text.words program) x

  procedure-by : (o : Opening) (a j i : ℕ) (r : Result (List Paragraph) Refused) → Identification v 0 a o.id → Environment v a j o.selects
      → DataDivision v j i o.division → procedure v (source_with v.text.words (cond_names o.division) program) i ≡ r → after_opening v o r ≡ Err x → G
  procedure-by o a j i (Ok ps) first second third e h = absurd (cc)
  procedure-by o a j i (Err y) first second third e h =
      let some = nonempty v v.terms k.Identification first.headers.first.first.term_is in
      let names = cond_names o.division in
      no_procedure first second third
      (procedure-refused v (source_with v.text.words names program) (SentenceAt v.text.words program names) (λ l n y next read. sentence-sound (source_with v.text.words names program) 64 (record { at = l; number = n }) next y read) some.0 some.1 i x
      (e ∙ ap (λ z. Err z) (err_same {X = Program} y x h)))

  opening-refused : opening v ≡ Err x → G
  unfolding opening opening_rest opening_data
  opening-refused h =
      so-err (identification v 0) (λ id j. opening_rest v id j) x G h
      (λ e. no_identification (identification-refused v x e))
      (λ id a one rest. so-err (environment v a) (λ selects j. opening_data v id selects j) x G rest
      (λ e. no_environment (identification-sound v 0 a id one) (environment-refused v a x e))
      (λ selects j two rest. so-err (data_division v j) (λ d l. Ok (record { id = id; selects = selects; division = d }, l)) x G rest
      (λ e. no_data (identification-sound v 0 a id one) (environment-sound v a j selects two) (data-refused v are (picture-sound v are) j x e))
      (λ d l read over. absurd (cc))))

  after-refused : (o : Opening) (i : ℕ) → opening v ≡ Ok (o, i) → after_opening v o (procedure v (source_with v.text.words (cond_names o.division) program) i) ≡ Err x → G
  unfolding opening opening_rest opening_data
  after-refused o i h rest =
      let first = so-ok (identification v 0) (λ id j. opening_rest v id j) (o, i) h in
      let second = so-ok (environment v first.end) (λ selects j. opening_data v first.part selects j) (o, i) first.rest in
      let third = so-ok (data_division v second.end) (λ d j. Ok (record { id = first.part; selects = second.part; division = d }, j)) (o, i) second.rest in
      let q : Opening = record { id = first.part; selects = second.part; division = third.part } in
      let same = ok_found q o third.end i third.rest in
      let moved : after_opening v q (procedure v (source_with v.text.words (cond_names q.division) program) third.end) ≡ Err x =
      subst (λ (j : ℕ). after_opening v q (procedure v (source_with v.text.words (cond_names q.division) program) j) ≡ Err x) (sym same.1)
      (subst (λ (y : Opening). after_opening v y (procedure v (source_with v.text.words (cond_names y.division) program) i) ≡ Err x) (sym same.0) rest) in
      procedure-by q first.end second.end third.end (procedure v (source_with v.text.words (cond_names q.division) program) third.end)
      (identification-sound v 0 first.end first.part first.read) (environment-sound v first.end second.end second.part second.read)
      (data-sound v (picture-sound v are) second.end third.end third.part third.read) refl moved

  pub whole-refused : whole v program ≡ Err x → G
  unfolding whole procedure_with
  whole-refused h =
      so-err (opening v) (λ o j. after_opening v o (procedure_with v (cond_names o.division) program j)) x G h
      (λ e. opening-refused e)
      (λ o j read rest. after-refused o j read rest)

pub refusal-sound : (words : List Word) (program : ℕ) (file : FileId) (x : Refused) → IsAnswer words program file (Err x) → IsRefusedBy words program file x
refusal-sound words program file x a = record {
  readings = a.readings;
  are_readings = a.are_readings;
  is_refused = whole-refused (view_with words a.readings file) a.are_readings program x (sym a.is);
}
