-- The procedure division is read as the grammar says.
use Rattle.std.specs.Prelude.{Result, Ok, Err, not}
use Rattle.std.proofs.Common.{◌≡◌, ◌≢◌, ℕ, zero, suc, ◌+◌, Bool, true, false, ◌&&◌, List, [], ◌∷◌, ◌++◌, Option, Some, None, length, refl, ap, sym, subst, ◌∙◌, arith, append_assoc, if◌then◌else◌}
use Rattle.std.proofs.lemmas.List.{append-nil}
use Rattle.cobol_syntax.specs.declared.program.Paragraph.{Paragraph}
use Rattle.cobol_syntax.specs.declared.program.Sentence.{Sentence}
use Rattle.cond_reader.specs.declared.symbol.Symbol.TheVariants as s
use Rattle.cond_reader.specs.Text.{symbol, sees}
use Rattle.cond_reader.specs.Reads.{and_then, with_last}
use Rattle.cond_reader.specs.Places.{name}
use Rattle.cond_reader.proofs.Seen.{found, then_some}
use Rattle.cond_reader.proofs.Words.{same-true, sees-is}
use Rattle.proc_reader.specs.declared.spot.Spot.{Spot}
use Rattle.proc_reader.specs.Source.{Source}
use Rattle.proc_reader.specs.Sentences.{sentence}
use Rattle.program_reader.specs.declared.fault.Refused.{Refused}
use Rattle.program_reader.specs.declared.procedure.Body.{Body}
use Rattle.program_reader.specs.declared.procedure.Chapters.{Chapters}
use Rattle.program_reader.specs.declared.procedure.Heading.{Heading}
use Rattle.program_reader.specs.declared.term.Term.TheVariants as k
use Rattle.program_reader.specs.Views.{View, header, headers, ended, closed_by}
use Rattle.program_reader.specs.Programs.{so, so_at, each, required, required_at}
use Rattle.program_reader.specs.Procedures.{with_paragraph, heading_end, heading, heading_unit, begins_sentence, with_sentence, next_sentence, more_sentences, with_body, next_paragraph, more_paragraphs, unnamed, chapters, closed, procedure}
use Rattle.program_reader.specs.Grammar.{Header, Headers, NameUnit}
use Rattle.program_reader.specs.ProgramGrammar.{IsHeading, Sentences, IsParagraph, Paragraphs, Chapters as IsChapters, Procedure}
use Rattle.program_reader.specs.ProgramGrammar.IsHeading.{section as is_section, paragraph as is_paragraph}
use Rattle.program_reader.specs.ProgramGrammar.Sentences.{stop as no_sentence, more as one_sentence}
use Rattle.program_reader.specs.ProgramGrammar.Paragraphs.{stop as no_paragraph, more as one_paragraph}
use Rattle.program_reader.specs.ProgramGrammar.Chapters.{headed, unnamed as without_name}
use Rattle.program_reader.proofs.PartLaws.{header-sound, headers-sound, ended-sound, name-sound, closed-some}
use Rattle.program_reader.proofs.ProgramLaws.{ok_same, required-ok, headers-read}
use Rattle.program_reader.proofs.Steps.{if_either, so-ok, so_at-ok, ok_found}

abbrev spot : ℕ → ℕ → Spot
spot i n = record { at = i; number = n }

module _ (v : View) where
  heading-by : (i m j : ℕ) (n : List ℕ) (h : Heading) (r : Option ℕ) → name v.text i ≡ Some (n, m) → header v k.Section m ≡ r
      → heading_end v n m r ≡ Some (h, j) → IsHeading v i j h
  heading-by i m j n h (Some l) read e q =
      let same = found (record { name = n; section = true }) h l j q in
      let whole : IsHeading v i l (record { name = n; section = true }) = is_section (name-sound v i m n read) (header-sound v k.Section m l e) in
      subst (λ (x : ℕ). IsHeading v i x h) same.1 (subst (λ (x : Heading). IsHeading v i l x) same.0 whole)
  heading-by i m j n h None read e q =
      let end = closed-some (record { name = n; section = false }) h (ended v m) j q in
      let unit : NameUnit v i j n = record { middle = m; name = name-sound v i m n read; period = ended-sound v m j end.1 } in
      subst (λ (x : Heading). IsHeading v i j x) end.0 (is_paragraph unit)

  pub heading-sound : (i j : ℕ) (h : Heading) → heading v i ≡ Some (h, j) → IsHeading v i j h
  unfolding heading
  heading-sound i j h q =
      let step = then_some (name v.text i) (λ n m. heading_end v n m (header v k.Section m)) (h, j) q in
      heading-by i step.end j step.part h (header v k.Section step.end) step.read refl step.rest

  module _ (t : Source) (IsSentence : ℕ → ℕ → Sentence → Spot → Type 0)
      (sentence-sound : (i n : ℕ) (x : Sentence) (next : Spot) → sentence t 64 (spot i n) ≡ Some (x, next) → IsSentence i n x next) where
    -- one more sentence
    pub record Next (b : Body) (i : ℕ) (c : Body) (j : ℕ) : Type 0 where
      pub x : Sentence
      pub next : Spot
      pub read : IsSentence i b.number x next
      pub list : c.sentences ≡ b.sentences ++ (x ∷ [])
      pub number : c.number ≡ next.number
      pub at : j ≡ next.at

    next-by : (b c : Body) (i j : ℕ) (r : Option (Sentence × Spot)) → sentence t 64 (spot i b.number) ≡ r → with_sentence v t b i r ≡ Ok (c, j) → Next b i c j
    next-by b c i j None e h = absurd (cc)
    next-by b c i j (Some p) e h =
        let same = ok_found (record { sentences = with_last b.sentences p.0; number = p.1.number }) c p.1.at j h in
        record {
          x = p.0;
          next = p.1;
          read = sentence-sound i b.number p.0 p.1 e;
          list = sym (ap (λ (y : Body). y.sentences) same.0);
          number = sym (ap (λ (y : Body). y.number) same.0);
          at = sym same.1;
        }

    pub next-sound : (b c : Body) (i j : ℕ) → next_sentence v t b i ≡ Ok (c, j) → Next b i c j
    unfolding next_sentence
    next-sound b c i j h = next-by b c i j (sentence t 64 (spot i b.number)) refl h

    -- sentences added to others
    pub record Grown (b : Body) (i : ℕ) (c : Body) (j : ℕ) : Type 0 where
      pub xs : List Sentence
      pub read : Sentences IsSentence i b.number xs (spot j c.number)
      pub is : c.sentences ≡ b.sentences ++ xs

    same-grown : (b c : Body) (i j : ℕ) → (b ≡ c) × (i ≡ j) → Grown b i c j
    same-grown b c i j same =
        let none : Grown b i b i = record { xs = []; read = no_sentence; is = sym (append-nil b.sentences) } in
        subst (λ (m : ℕ). Grown b i c m) same.1 (subst (λ (y : Body). Grown b i y i) same.0 none)

    abbrev joined : (b c d : Body) (i m j : ℕ) (one : Next b i c m) (rest : Grown c m d j) → Grown b i d j
    joined b c d i m j one rest =
        let moved : Sentences IsSentence one.next.at one.next.number rest.xs (spot j d.number) =
        subst (λ (n : ℕ). Sentences IsSentence one.next.at n rest.xs (spot j d.number)) one.number
        (subst (λ (n : ℕ). Sentences IsSentence n c.number rest.xs (spot j d.number)) one.at rest.read) in
        record {
          xs = one.x ∷ rest.xs;
          read = one_sentence one.read moved;
          is = rest.is ∙ ap (λ (ys : List Sentence). ys ++ rest.xs) one.list ∙ append_assoc b.sentences (one.x ∷ []) rest.xs;
        }

    each-body : (n : ℕ) (b c : Body) (i j : ℕ) → each (begins_sentence v) (next_sentence v t) n b i ≡ Ok (c, j) → Grown b i c j
    unfolding each
    each-body zero b c i j h = same-grown b c i j (ok_found b c i j h)
    each-body (suc n) b c i j h =
        if_either (begins_sentence v i) _ _ (Ok (c, j)) (Grown b i c j) h
        (λ is begun.
        let step = so-ok (next_sentence v t b i) (λ d m. each (begins_sentence v) (next_sentence v t) n d m) (c, j) begun in
        joined b step.part c i step.end j (next-sound b step.part i step.end step.read) (each-body n step.part c step.end j step.rest))
        (λ is over. same-grown b c i j (ok_found b c i j over))

    -- at least one sentence added
    pub record GrownSome (b : Body) (i : ℕ) (c : Body) (j : ℕ) : Type 0 where
      pub grown : Grown b i c j
      pub some : grown.xs ≢ []

    some-body : (n : ℕ) (b c : Body) (i j : ℕ) → begins_sentence v i ≡ true → each (begins_sentence v) (next_sentence v t) (suc n) b i ≡ Ok (c, j) → GrownSome b i c j
    unfolding each
    some-body n b c i j is h =
        if_either (begins_sentence v i) _ _ (Ok (c, j)) (GrownSome b i c j) h
        (λ _ begun.
        let step = so-ok (next_sentence v t b i) (λ d m. each (begins_sentence v) (next_sentence v t) n d m) (c, j) begun in
        record { grown = joined b step.part c i step.end j (next-sound b step.part i step.end step.read) (each-body n step.part c step.end j step.rest); some = λ e. cc })
        (λ not_begun over. absurd (cc))

    -- a paragraph added to others
    pub record Chapter (cs : Chapters) (h : Heading) (begin i : ℕ) (ds : Chapters) (j : ℕ) : Type 0 where
      pub xs : List Sentence
      pub read : Sentences IsSentence i cs.number xs (spot j ds.number)
      pub is : ds.paragraphs ≡ cs.paragraphs ++ (record { name = h.name; section = h.section; sentences = xs; at = begin } ∷ [])

    abbrev empty : ℕ → Body
    empty n = record { sentences = []; number = n }

    chapter : (cs ds : Chapters) (h : Heading) (begin i j : ℕ) (b : Body) (end : ℕ) → Grown (empty cs.number) i b end
        → ◌≡◌ {A = Result (Chapters × ℕ) Refused} (Ok (with_paragraph cs h begin b, end)) (Ok (ds, j)) → Chapter cs h begin i ds j
    chapter cs ds h begin i j b end grown q =
        let same = ok_found (with_paragraph cs h begin b) ds end j q in
        let whole : Chapter cs h begin i (with_paragraph cs h begin b) end = record {
          xs = grown.xs;
          read = grown.read;
          is = ap (λ (ys : List Sentence). cs.paragraphs ++ (record { name = h.name; section = h.section; sentences = ys; at = begin } ∷ [])) grown.is;
        } in
        subst (λ (m : ℕ). Chapter cs h begin i ds m) same.1 (subst (λ (y : Chapters). Chapter cs h begin i y end) same.0 whole)

    pub body-sound : (cs ds : Chapters) (h : Heading) (begin i j : ℕ) → with_body v t cs h begin i ≡ Ok (ds, j) → Chapter cs h begin i ds j
    unfolding with_body more_sentences
    body-sound cs ds h begin i j q =
        let step = so-ok (more_sentences v t (empty cs.number) i) (λ b m. Ok (with_paragraph cs h begin b, m)) (ds, j) q in
        chapter cs ds h begin i j step.part step.end (each-body (length v.terms) (empty cs.number) step.part i step.end step.read) step.rest

    -- paragraphs added to others
    pub record Longer (cs : Chapters) (i : ℕ) (ds : Chapters) (j : ℕ) : Type 0 where
      pub ps : List Paragraph
      pub read : Paragraphs v IsSentence i cs.number ps j
      pub is : ds.paragraphs ≡ cs.paragraphs ++ ps

    same-longer : (cs ds : Chapters) (i j : ℕ) → (cs ≡ ds) × (i ≡ j) → Longer cs i ds j
    same-longer cs ds i j same =
        let none : Longer cs i cs i = record { ps = []; read = no_paragraph; is = sym (append-nil cs.paragraphs) } in
        subst (λ (m : ℕ). Longer cs i ds m) same.1 (subst (λ (y : Chapters). Longer cs i y i) same.0 none)

    -- a paragraph with its heading
    pub record NextParagraph (cs : Chapters) (i : ℕ) (ds : Chapters) (j : ℕ) : Type 0 where
      pub p : Paragraph
      pub read : IsParagraph v IsSentence i cs.number p (spot j ds.number)
      pub is : ds.paragraphs ≡ cs.paragraphs ++ (p ∷ [])

    pub next-paragraph-sound : (cs ds : Chapters) (i j : ℕ) → next_paragraph v t cs i ≡ Ok (ds, j) → NextParagraph cs i ds j
    unfolding next_paragraph heading_unit
    next-paragraph-sound cs ds i j q =
        let step = so-ok (heading_unit v i) (λ h m. with_body v t cs h i m) (ds, j) q in
        let head = heading-sound i step.end step.part (required-ok v (heading v i) i (step.part, step.end) step.read) in
        let body = body-sound cs ds step.part i step.end j step.rest in
        record {
          p = record { name = step.part.name; section = step.part.section; sentences = body.xs; at = i };
          read = record { middle = step.end; heading = step.part; xs = body.xs; head = head; body = body.read; is = refl };
          is = body.is;
        }

    each-paragraph : (n : ℕ) (cs ds : Chapters) (i j : ℕ)
        → each (λ i. not (sees v.text s.End i)) (next_paragraph v t) n cs i ≡ Ok (ds, j) → Longer cs i ds j
    unfolding each
    each-paragraph zero cs ds i j h = same-longer cs ds i j (ok_found cs ds i j h)
    each-paragraph (suc n) cs ds i j h =
        if_either (not (sees v.text s.End i)) _ _ (Ok (ds, j)) (Longer cs i ds j) h
        (λ is begun.
        let step = so-ok (next_paragraph v t cs i) (λ d m. each (λ i. not (sees v.text s.End i)) (next_paragraph v t) n d m) (ds, j) begun in
        let one = next-paragraph-sound cs step.part i step.end step.read in
        let rest = each-paragraph n step.part ds step.end j step.rest in
        record {
          ps = one.p ∷ rest.ps;
          read = one_paragraph one.read rest.read;
          is = rest.is ∙ ap (λ (ys : List Paragraph). ys ++ rest.ps) one.is ∙ append_assoc cs.paragraphs (one.p ∷ []) rest.ps;
        })
        (λ is over. same-longer cs ds i j (ok_found cs ds i j over))

    paragraphs-sound : (cs ds : Chapters) (i j : ℕ) → more_paragraphs v t cs i ≡ Ok (ds, j) → Longer cs i ds j
    unfolding more_paragraphs
    paragraphs-sound cs ds i j q = each-paragraph (length v.terms) cs ds i j q

    abbrev nothing : Chapters
    nothing = record { paragraphs = []; number = 0 }

    abbrev nameless : Heading
    nameless = record { name = []; section = false }

    unnamed-sound : (n : ℕ) → length v.terms ≡ suc n → (cs ds : Chapters) (i m j : ℕ) → begins_sentence v i ≡ true
        → with_body v t nothing nameless i i ≡ Ok (cs, m) → Longer cs m ds j → IsChapters v IsSentence i ds.paragraphs j
    unfolding with_body more_sentences
    unnamed-sound n long cs ds i m j is q rest =
        let step = so-ok (more_sentences v t (empty 0) i) (λ b l. Ok (with_paragraph nothing nameless i b, l)) (cs, m) q in
        let counted : each (begins_sentence v) (next_sentence v t) (suc n) (empty 0) i ≡ Ok (step.part, step.end) =
        ap (λ l. each (begins_sentence v) (next_sentence v t) l (empty 0) i) (sym long) ∙ step.read in
        let some = some-body n (empty 0) step.part i step.end is counted in
        let same = ok_found (with_paragraph nothing nameless i step.part) cs step.end m step.rest in
        let begun : Longer (with_paragraph nothing nameless i step.part) step.end ds j =
        subst (λ (l : ℕ). Longer (with_paragraph nothing nameless i step.part) l ds j) (sym same.1) (subst (λ (y : Chapters). Longer y m ds j) (sym same.0) rest) in
        let list : ds.paragraphs ≡ (record { name = []; section = false; sentences = some.grown.xs; at = i } ∷ begun.ps) =
        begun.is ∙ ap (λ (ys : List Sentence). record { name = []; section = false; sentences = ys; at = i } ∷ begun.ps) some.grown.is in
        subst (λ (ps : List Paragraph). IsChapters v IsSentence i ps j) (sym list) (without_name some.grown.read some.some begun.read)

    pub chapters-sound : (n : ℕ) → length v.terms ≡ suc n → (ds : Chapters) (i j : ℕ) → chapters v t i ≡ Ok (ds, j)
        → (symbol v.text i ≢ s.End) × IsChapters v IsSentence i ds.paragraphs j
    unfolding chapters unnamed
    chapters-sound n long ds i j q =
        if_either (sees v.text s.End i) _ _ (Ok (ds, j)) ((symbol v.text i ≢ s.End) × IsChapters v IsSentence i ds.paragraphs j) q
        (λ _ e. absurd (cc))
        (λ more read.
        let step = so-ok (unnamed v t nothing i) (more_paragraphs v t) (ds, j) read in
        let rest = paragraphs-sound step.part ds step.end j step.rest in
        let some : symbol v.text i ≢ s.End = λ e. (let seen = sees-is v.text s.End i e in absurd (cc)) in (
          some,
          if_either (begins_sentence v i) _ _ (Ok (step.part, step.end)) (IsChapters v IsSentence i ds.paragraphs j) step.read
              (λ is body. unnamed-sound n long step.part ds i step.end j is body rest)
              (λ _ same.
              let at = ok_found nothing step.part i step.end same in
              let begun : Longer nothing i ds j =
              subst (λ (m : ℕ). Longer nothing m ds j) (sym at.1) (subst (λ (y : Chapters). Longer y step.end ds j) (sym at.0) rest) in
              subst (λ (ps : List Paragraph). IsChapters v IsSentence i ps j) (sym begun.is) (headed begun.read)),
        ))

    pub procedure-sound : (n : ℕ) → length v.terms ≡ suc n → (ps : List Paragraph) (i : ℕ) → procedure v t i ≡ Ok ps → Procedure v IsSentence i ps
    unfolding procedure closed
    procedure-sound n long ps i q =
        let head = so_at-ok (required v (headers v k.Procedure k.Division i) i) (λ j. so (chapters v t j) (closed v)) ps q in
        let step = so-ok (chapters v t head.end) (closed v) ps head.rest in
        let read = chapters-sound n long step.part head.end step.end step.read in
        if_either (sees v.text s.End step.end) _ _ (Ok ps) (Procedure v IsSentence i ps) step.rest
        (λ over e. record {
          start = head.end;
          end = step.end;
          header = headers-read v k.Procedure k.Division i head.end head.read;
          some = read.0;
          chapters = subst (λ (x : List Paragraph). IsChapters v IsSentence head.end x step.end) (ok_same step.part.paragraphs ps e) read.1;
          over = same-true _ _ over;
        })
        (λ _ e. absurd (cc))
