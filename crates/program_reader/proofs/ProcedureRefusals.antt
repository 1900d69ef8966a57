-- Where the procedure division isn't read, the grammar says why.
use Rattle.std.specs.Prelude.{Result, Ok, Err, not}
use Rattle.std.proofs.Common.{◌≡◌, ◌≢◌, ℕ, zero, suc, ◌+◌, Bool, true, false, List, [], ◌∷◌, Option, Some, None, length, refl, ap, sym, subst, ◌∙◌, arith, if◌then◌else◌}
use Rattle.cobol_syntax.specs.declared.program.Sentence.{Sentence}
use Rattle.cond_reader.specs.declared.symbol.Symbol.TheVariants as s
use Rattle.cond_reader.specs.Text.{symbol, sees}
use Rattle.cond_reader.proofs.Words.{same-true, sees-is}
use Rattle.proc_reader.specs.declared.spot.Spot.{Spot}
use Rattle.proc_reader.specs.Source.{Source}
use Rattle.proc_reader.specs.Sentences.{sentence}
use Rattle.program_reader.specs.declared.fault.Refused.{Refused}
use Rattle.program_reader.specs.declared.procedure.Body.{Body}
use Rattle.program_reader.specs.declared.procedure.Chapters.{Chapters}
use Rattle.program_reader.specs.declared.procedure.Heading.{Heading}
use Rattle.program_reader.specs.declared.term.Term.TheVariants as k
use Rattle.program_reader.specs.Views.{View, headers}
use Rattle.program_reader.specs.UnitFaults.{fault}
use Rattle.program_reader.specs.Programs.{so, so_at, each, required, required_at}
use Rattle.program_reader.specs.Procedures.{with_paragraph, heading, heading_unit, begins_sentence, with_sentence, next_sentence, more_sentences, with_body, next_paragraph, more_paragraphs, unnamed, chapters, closed, procedure}
use Rattle.program_reader.specs.ProgramGrammar.{IsHeading, Sentences, IsParagraph}
use Rattle.program_reader.specs.ProgramGrammar.Sentences.{stop as no_sentence, more as one_sentence}
use Rattle.program_reader.specs.RefusalGrammar.{Unread, SentencesRefused, ParagraphRefused, ParagraphsRefused, ChaptersRefused, ProcedureRefused}
use Rattle.program_reader.specs.RefusalGrammar.ParagraphRefused.{head as no_header, body as no_body}
use Rattle.program_reader.specs.RefusalGrammar.ParagraphsRefused.{here, later}
use Rattle.program_reader.specs.RefusalGrammar.ChaptersRefused.{missing, unnamed as no_unnamed, paragraphs as no_paragraphs, after_unnamed, beyond}
use Rattle.program_reader.specs.RefusalGrammar.ProcedureRefused.{division as no_division, chapters as no_chapters}
use Rattle.program_reader.proofs.ProgramLaws.{required-ok, headers-read}
use Rattle.program_reader.proofs.ProcedureLaws.{heading-sound, next-sound, body-sound, next-paragraph-sound, chapters-sound}
use Rattle.program_reader.proofs.RefusalLaws.{err_same, so-err, so_at-err, required-err}
use Rattle.program_reader.proofs.Steps.{if_either, ok_found}

abbrev spot : ℕ → ℕ → Spot
spot i n = record { at = i; number = n }

module _ (v : View) (t : Source) (IsSentence : ℕ → ℕ → Sentence → Spot → Type 0)
    (sentence-sound : (i n : ℕ) (x : Sentence) (next : Spot) → sentence t 64 (spot i n) ≡ Some (x, next) → IsSentence i n x next) where
  -- no sentence is read there
  abbrev pub Nothing : ℕ → ℕ → Type 0
  Nothing i n = sentence t 64 (spot i n) ≡ None

  abbrev Stopped : ℕ → ℕ → Refused → Type 0
  Stopped = SentencesRefused v IsSentence Nothing

  sentence-by : (b : Body) (i : ℕ) (x : Refused) (r : Option (Sentence × Spot)) → sentence t 64 (spot i b.number) ≡ r → with_sentence v t b i r ≡ Err x → Stopped i b.number x
  sentence-by b i x (Some p) e h = absurd (cc)
  sentence-by b i x None e h = record { end = spot i b.number; xs = []; before = no_sentence; nothing = e; is = sym (err_same {X = Body × ℕ} (fault v i) x h) }

  sentence-refused : (b : Body) (i : ℕ) (x : Refused) → next_sentence v t b i ≡ Err x → Stopped i b.number x
  unfolding next_sentence
  sentence-refused b i x h = sentence-by b i x (sentence t 64 (spot i b.number)) refl h

  each-sentence : (n : ℕ) (b : Body) (i : ℕ) (x : Refused) → each (begins_sentence v) (next_sentence v t) n b i ≡ Err x → Stopped i b.number x
  unfolding each
  each-sentence zero b i x h = absurd (cc)
  each-sentence (suc n) b i x h =
      if_either (begins_sentence v i) _ _ (Err x) (Stopped i b.number x) h
      (λ is begun. so-err (next_sentence v t b i) (λ c m. each (begins_sentence v) (next_sentence v t) n c m) x (Stopped i b.number x) begun
      (λ e. sentence-refused b i x e)
      (λ c m read rest.
      let one = next-sound v t IsSentence sentence-sound b c i m read in
      let stopped = each-sentence n c m x rest in
      let moved : Sentences IsSentence one.next.at one.next.number stopped.xs stopped.end =
      subst (λ (q : ℕ). Sentences IsSentence one.next.at q stopped.xs stopped.end) one.number
      (subst (λ (q : ℕ). Sentences IsSentence q c.number stopped.xs stopped.end) one.at stopped.before) in
      record { end = stopped.end; xs = one.x ∷ stopped.xs; before = one_sentence one.read moved; nothing = stopped.nothing; is = stopped.is }))
      (λ is over. absurd (cc))

  body-refused : (cs : Chapters) (h : Heading) (begin i : ℕ) (x : Refused) → with_body v t cs h begin i ≡ Err x → Stopped i cs.number x
  unfolding with_body more_sentences
  body-refused cs h begin i x q =
      so-err (more_sentences v t (record { sentences = []; number = cs.number }) i) (λ b j. Ok (with_paragraph cs h begin b, j)) x (Stopped i cs.number x) q
      (λ e. each-sentence (length v.terms) (record { sentences = []; number = cs.number }) i x e)
      (λ b j read over. absurd (cc))

  paragraph-refused : (cs : Chapters) (i : ℕ) (x : Refused) → next_paragraph v t cs i ≡ Err x → ParagraphRefused v IsSentence Nothing i cs.number x
  unfolding next_paragraph heading_unit
  paragraph-refused cs i x q =
      let G : Type 0 = ParagraphRefused v IsSentence Nothing i cs.number x in
      so-err (heading_unit v i) (λ h m. with_body v t cs h i m) x G q
      (λ e. no_header (required-err v (heading v i) i x e))
      (λ h m read rest. no_body (heading-sound v i m h (required-ok v (heading v i) i (h, m) read)) (body-refused cs h i m x rest))

  each-paragraph : (n : ℕ) (cs : Chapters) (i : ℕ) (x : Refused) → each (λ i. not (sees v.text s.End i)) (next_paragraph v t) n cs i ≡ Err x
      → ParagraphsRefused v IsSentence Nothing i cs.number x
  unfolding each
  each-paragraph zero cs i x h = absurd (cc)
  each-paragraph (suc n) cs i x h =
      let G : Type 0 = ParagraphsRefused v IsSentence Nothing i cs.number x in
      if_either (not (sees v.text s.End i)) _ _ (Err x) G h
      (λ is begun. so-err (next_paragraph v t cs i) (λ d m. each (λ i. not (sees v.text s.End i)) (next_paragraph v t) n d m) x G begun
      (λ e. here (paragraph-refused cs i x e))
      (λ d m read rest. later (next-paragraph-sound v t IsSentence sentence-sound cs d i m read).read (each-paragraph n d m x rest)))
      (λ is over. absurd (cc))

  paragraphs-refused : (cs : Chapters) (i : ℕ) (x : Refused) → more_paragraphs v t cs i ≡ Err x → ParagraphsRefused v IsSentence Nothing i cs.number x
  unfolding more_paragraphs
  paragraphs-refused cs i x q = each-paragraph (length v.terms) cs i x q

  abbrev nothing_yet : Chapters
  nothing_yet = record { paragraphs = []; number = 0 }

  abbrev nameless : Heading
  nameless = record { name = []; section = false }

  chapters-refused : (i : ℕ) (x : Refused) → chapters v t i ≡ Err x → ChaptersRefused v IsSentence Nothing i x
  unfolding chapters unnamed
  chapters-refused i x q =
      let G : Type 0 = ChaptersRefused v IsSentence Nothing i x in
      if_either (sees v.text s.End i) _ _ (Err x) G q
      (λ is e. missing (same-true _ _ is) (sym (err_same {X = Chapters × ℕ} (fault v i) x e)))
      (λ is begun. so-err (unnamed v t nothing_yet i) (more_paragraphs v t) x G begun
      (λ e. if_either (begins_sentence v i) _ _ (Err x) G e
      (λ sentence stopped. no_unnamed (body-refused nothing_yet nameless i i x stopped))
      (λ none over. absurd (cc)))
      (λ cs m read rest. if_either (begins_sentence v i) _ _ (Ok (cs, m)) G read
      (λ sentence body.
      let one = body-sound v t IsSentence sentence-sound nothing_yet cs nameless i i m body in
      after_unnamed one.read (paragraphs-refused cs m x rest))
      (λ none same.
      let at = ok_found nothing_yet cs i m same in
      no_paragraphs (subst (λ (j : ℕ). ParagraphsRefused v IsSentence Nothing j 0 x) (sym at.1)
      (subst (λ (y : Chapters). ParagraphsRefused v IsSentence Nothing m y.number x) (sym at.0) (paragraphs-refused cs m x rest))))))

  pub procedure-refused : (n : ℕ) → length v.terms ≡ suc n → (i : ℕ) (x : Refused) → procedure v t i ≡ Err x → ProcedureRefused v IsSentence Nothing i x
  unfolding procedure closed required
  procedure-refused n long i x q =
      let G : Type 0 = ProcedureRefused v IsSentence Nothing i x in
      so_at-err (required v (headers v k.Procedure k.Division i) i) (λ j. so (chapters v t j) (closed v)) x G q
      (λ e. no_division (required-err v (headers v k.Procedure k.Division i) i x e))
      (λ m read rest.
      let one = headers-read v k.Procedure k.Division i m read in
      so-err (chapters v t m) (closed v) x G rest
      (λ e. no_chapters one (chapters-refused m x e))
      (λ cs j done stopped. if_either (sees v.text s.End j) _ _ (Err x) G stopped
      (λ is e. absurd (cc))
      (λ is e.
      let chapter = chapters-sound v t IsSentence sentence-sound n long cs m j done in
      let more : symbol v.text j ≢ s.End = λ end. (let seen = sees-is v.text s.End j end in cc) in
      no_chapters one (beyond chapter.1 more (sym (err_same (fault v j) x e))))))
