-- What holds of whole programs that are read.
use Rattle.std.proofs.Common.{ℕ, suc, ◌<◌, ◌≤◌, nat_lt, ◌≡◌, refl, ap, ◌∙◌, Bool, true, ◌&&◌, List, [], ◌∷◌, map, length, arith}
use Rattle.std.proofs.lemmas.Bool.{and_from, and_parts, lt-ltb}
use Rattle.y2k_base.specs.declared.word.FileId.{FileId}
use Rattle.y2k_base.specs.declared.word.Word.{Word}
use Rattle.cobol_syntax.specs.declared.program.Entry.{Entry}
use Rattle.cobol_syntax.specs.declared.program.FileEntry.{FileEntry}
use Rattle.cobol_syntax.specs.declared.program.Paragraph.{Paragraph}
use Rattle.cobol_syntax.specs.declared.program.Program.{Program}
use Rattle.cobol_syntax.specs.declared.program.Select.{Select}
use Rattle.cobol_syntax.specs.declared.program.Sentence.{Sentence}
use Rattle.cond_reader.specs.declared.symbol.Symbol.TheVariants as s
use Rattle.cond_reader.specs.Kinds.{text_with}
use Rattle.cond_reader.proofs.Words.{within}
use Rattle.proc_reader.specs.declared.spot.Spot.{Spot}
use Rattle.program_reader.specs.declared.data.Data.{Data}
use Rattle.program_reader.specs.declared.entry.Draft.{Draft}
use Rattle.program_reader.specs.declared.procedure.Heading.{Heading}
use Rattle.program_reader.specs.declared.term.Term.{Term}
use Rattle.program_reader.specs.Views.{View}
use Rattle.program_reader.specs.Programs.{with_entries}
use Rattle.program_reader.specs.Whole.{cond_names, source_with, view_with}
use Rattle.program_reader.specs.Grammar.{Period, Header}
use Rattle.program_reader.specs.ProgramGrammar.{Identification, Computer, Configuration, InputOutput, Environment, IsPictured, IsEntry, FileWithRecords, FileSection, StorageSection, DataDivision, IsHeading, Sentences, IsParagraph, Paragraphs, Chapters, Procedure}
use Rattle.program_reader.specs.IsReads.{SentenceAt, IsRead}
use Rattle.tree_words.specs.Fits.{all_true, select_fits, file_fits, entry_fits, sentence_fits, paragraph_fits, program_fits, if_any, operand_fits}
use Rattle.tree_words.proofs.Parts.{Taken, Passed, and_3, all-last, all-one, many-grows, many-fits, chain-taken}
use Rattle.tree_words.proofs.Exprs.{name-taken}
use Rattle.tree_words.proofs.Sentences.{sentence-taken}
use Rattle.tree_words.proofs.Entries.{Most, then-less, then-most, most, maybe-most, symbol-less, header-less, headers-less, name-unit-less, select-taken, file-taken, draft-taken}

module _ (words : ℕ) (v : View) where
  identification-less : (i j : ℕ) (id : List ℕ) → Identification v i j id → i < j
  identification-less i j id w =
      omega (arith, then-less (headers-less words v _ _) (most (header-less words v _)) i w.at_name w.headers, name-unit-less words v w.at_name j id w.name)

  computer-most : (k : Term) → Most (Computer v k)
  computer-most k = maybe-most (then-most (most (header-less words v k)) (then-most (most (symbol-less words v _)) (most (symbol-less words v _))))

  configuration-most : Most (Configuration v)
  configuration-most = maybe-most (then-most (most (headers-less words v _ _)) (then-most (computer-most _) (computer-most _)))

  abbrev selects_fit : List Select → Bool
  selects_fit ss = all_true (map (select_fits words) ss)

  abbrev entries_fit : List Entry → Bool
  entries_fit es = all_true (map (entry_fits words) es)

  abbrev files_fit : List FileEntry → Bool
  files_fit fs = all_true (map (file_fits words) fs)

  input-output-passed : (i j : ℕ) (ss : List Select) → InputOutput v i j ss → Passed words i j (selects_fit ss)
  input-output-passed i j ss InputOutput.absent = record { grows = omega arith; fit = λ within. refl }
  input-output-passed i j ss (InputOutput.given {m = m} header some) =
      let earlier = then-less (headers-less words v _ _) (most (header-less words v _)) i m header in
      let later : m ≤ j = many-grows words selects_fit (select_fits words) (select-taken words v) (all-last (select_fits words)) some in
      record {
        grows = omega (arith, earlier, later);
        fit = λ within. many-fits words selects_fit (select_fits words) (select-taken words v) (all-last (select_fits words)) some within refl;
      }

  environment-passed : (i j : ℕ) (ss : List Select) → Environment v i j ss → Passed words i j (selects_fit ss)
  environment-passed i j ss Environment.absent = record { grows = omega arith; fit = λ within. refl }
  environment-passed i j ss (Environment.given {m = m} header section) =
      let earlier = then-less (headers-less words v _ _) configuration-most i m header in
      let taken = input-output-passed m j ss section in
      record { grows = omega (arith, earlier, taken.grows); fit = taken.fit }

  pictured-fits : (d : Draft) (e : Entry) → IsPictured v d e → entry_fits words d.entry ≡ true → entry_fits words e ≡ true
  pictured-fits d e (IsPictured.plain none) fit = fit
  pictured-fits d e (IsPictured.pictured some read) fit = fit

  entry-taken : (i j : ℕ) (e : Entry) → IsEntry v i j e → Taken words i j (entry_fits words e)
  entry-taken i j e w =
      let taken = draft-taken words v i j w.draft w.is_draft in
      record { grows = taken.grows; fit = λ within. pictured-fits w.draft e w.picture (taken.fit within) }

  records-fit : (head : FileEntry) (es : List Entry) → file_fits words head ≡ true → entries_fit es ≡ true → file_fits words (with_entries head es) ≡ true
  records-fit head es fit some =
      let (begins, others) = and_parts (nat_lt head.at words) _ fit in
      let (contains, _) = and_parts (if_any (operand_fits words) head.contains) _ others in
      and_3 (nat_lt head.at words) (if_any (operand_fits words) head.contains) (entries_fit es) begins contains some

  file-with-records-taken : (i j : ℕ) (f : FileEntry) → FileWithRecords v i j f → Taken words i j (file_fits words f)
  file-with-records-taken i j f w =
      let head = file-taken words v i w.middle w.head w.file in
      let some = chain-taken words entries_fit (entry_fits words) entry-taken (all-last (entry_fits words)) (entry_fits words) entry-taken (all-one (entry_fits words)) w.middle j w.es w.entries in
      record {
        grows = omega (arith, head.grows, some.grows);
        fit = λ within. ap (file_fits words) w.is ∙ records-fit w.head w.es (head.fit (omega (arith, some.grows, within))) (some.fit within);
      }

  file-section-passed : (i j : ℕ) (fs : List FileEntry) → FileSection v i j fs → Passed words i j (files_fit fs)
  file-section-passed i j fs FileSection.absent = record { grows = omega arith; fit = λ within. refl }
  file-section-passed i j fs (FileSection.given {m = m} header some) =
      let earlier = headers-less words v _ _ i m header in
      let later : m ≤ j = many-grows words files_fit (file_fits words) file-with-records-taken (all-last (file_fits words)) some in
      record {
        grows = omega (arith, earlier, later);
        fit = λ within. many-fits words files_fit (file_fits words) file-with-records-taken (all-last (file_fits words)) some within refl;
      }

  storage-section-passed : (i j : ℕ) (es : List Entry) → StorageSection v i j es → Passed words i j (entries_fit es)
  storage-section-passed i j es StorageSection.absent = record { grows = omega arith; fit = λ within. refl }
  storage-section-passed i j es (StorageSection.given {m = m} header some) =
      let earlier = headers-less words v _ _ i m header in
      let later : m ≤ j = many-grows words entries_fit (entry_fits words) entry-taken (all-last (entry_fits words)) some in
      record {
        grows = omega (arith, earlier, later);
        fit = λ within. many-fits words entries_fit (entry_fits words) entry-taken (all-last (entry_fits words)) some within refl;
      }

  abbrev data_fits : Data → Bool
  data_fits d = files_fit d.files && entries_fit d.storage

  data-division-passed : (i j : ℕ) (d : Data) → DataDivision v i j d → Passed words i j (data_fits d)
  data-division-passed i j d DataDivision.absent = record { grows = omega arith; fit = λ within. refl }
  data-division-passed i j d (DataDivision.given {m = m} {l = l} header files storage) =
      let earlier = headers-less words v _ _ i m header in
      let first = file-section-passed m l d.files files in
      let second = storage-section-passed l j d.storage storage in
      record {
        grows = omega (arith, earlier, first.grows, second.grows);
        fit = λ within. and_from (files_fit d.files) (entries_fit d.storage) (first.fit (omega (arith, second.grows, within))) (second.fit within);
      }

  -- ---- the procedure division

  -- what ends with a period has ended within the words
  module _ (all : words ≡ length v.text.kinds) where
    period-within : (i j : ℕ) → Period v i j → j ≤ words
    period-within i j w = omega (arith, w.next_is, within v.text s.Period i w.kind_is (λ same. cc), all)

    header-within : (k : Term) (i j : ℕ) → Header v k i j → j ≤ words
    header-within k i j w = period-within w.middle j w.second

    heading-less : (i j : ℕ) (h : Heading) → IsHeading v i j h → (i < j) × (j ≤ words)
    heading-less i j h (IsHeading.section {m = m} {n = n} name header) =
        (omega (arith, (name-taken words v.text i m n name).grows, header-less words v _ m j header), header-within _ m j header)
    heading-less i j h (IsHeading.paragraph {n = n} unit) = (name-unit-less words v i j n unit, period-within unit.middle j unit.period)

    module _ (IsSentence : ℕ → ℕ → Sentence → Spot → Type 0)
        (sentence : (i n : ℕ) (x : Sentence) (next : Spot) → IsSentence i n x next → Taken words i next.at (sentence_fits words x) × (next.at ≤ words))
      where
        abbrev sentences_fit : List Sentence → Bool
        sentences_fit xs = all_true (map (sentence_fits words) xs)

        abbrev paragraphs_fit : List Paragraph → Bool
        paragraphs_fit ps = all_true (map (paragraph_fits words) ps)

        sentences-read : (i n : ℕ) (xs : List Sentence) (end : Spot) → i ≤ words → Sentences IsSentence i n xs end → (i ≤ end.at) × (end.at ≤ words) × (sentences_fit xs ≡ true)
        sentences-read i n xs end few Sentences.stop = (omega arith, few, refl)
        sentences-read i n xs end few (Sentences.more {x = x} {next = next} {xs = ys} first others) =
            let (taken, ended) = sentence i n x next first in
            let (onward, last, rest) = sentences-read next.at next.number ys end ended others in
            (omega (arith, taken.grows, onward), last, and_from (sentence_fits words x) (sentences_fit ys) (taken.fit ended) rest)

        paragraph-read : (i n : ℕ) (p : Paragraph) (end : Spot) → IsParagraph v IsSentence i n p end → (i ≤ end.at) × (end.at ≤ words) × (paragraph_fits words p ≡ true)
        paragraph-read i n p end w =
            let (grows, ended) = heading-less i w.middle w.heading w.head in
            let (onward, last, fit) = sentences-read w.middle n w.xs end ended w.body in
            (omega (arith, grows, onward), last, ap (paragraph_fits words) w.is ∙ and_from (nat_lt i words) (sentences_fit w.xs) (lt-ltb i words (omega (arith, grows, ended))) fit)

        paragraphs-read : (i n : ℕ) (ps : List Paragraph) (j : ℕ) → Paragraphs v IsSentence i n ps j → paragraphs_fit ps ≡ true
        paragraphs-read i n ps j Paragraphs.stop = refl
        paragraphs-read i n ps j (Paragraphs.more {p = p} {end = end} {ps = qs} first others) =
            let (_, _, fit) = paragraph-read i n p end first in
            and_from (paragraph_fits words p) (paragraphs_fit qs) fit (paragraphs-read end.at end.number qs j others)

        unnamed-begins : (i n : ℕ) (xs : List Sentence) (end : Spot) → Sentences IsSentence i n xs end → (xs ≡ [] → ⊥) → i < words
        unnamed-begins i n xs end Sentences.stop some = absurd (some refl)
        unnamed-begins i n xs end (Sentences.more {x = x} {next = next} first others) some =
            let (taken, ended) = sentence i n x next first in omega (arith, taken.grows, ended)

        chapters-read : (i : ℕ) (ps : List Paragraph) (j : ℕ) → i ≤ words → Chapters v IsSentence i ps j → paragraphs_fit ps ≡ true
        chapters-read i ps j few (Chapters.headed w) = paragraphs-read i 0 ps j w
        chapters-read i ps j few (Chapters.unnamed {xs = xs} {end = end} {ps = qs} sentences some others) =
            let begins = unnamed-begins i 0 xs end sentences some in
            let (_, _, fit) = sentences-read i 0 xs end few sentences in
            and_from (nat_lt i words && sentences_fit xs) (paragraphs_fit qs) (and_from (nat_lt i words) (sentences_fit xs) (lt-ltb i words begins) fit)
            (paragraphs-read end.at end.number qs j others)

        procedure-read : (i : ℕ) (ps : List Paragraph) → Procedure v IsSentence i ps → (i ≤ words) × (paragraphs_fit ps ≡ true)
        procedure-read i ps w =
            let ended = header-within _ w.header.middle w.start w.header.second in
            let grows = headers-less words v _ _ i w.start w.header in
            (omega (arith, grows, ended), chapters-read w.start ps w.end ended w.chapters)

as-many : (ws : List Word) (names : List (List ℕ)) → length ws ≡ length (text_with ws names).kinds
as-many [] names = refl
as-many (w ∷ ws) names = ap suc (as-many ws names)

sentence-read : (ws : List Word) (program : ℕ) (names : List (List ℕ)) (i n : ℕ) (x : Sentence) (next : Spot) → SentenceAt ws program names i n x next
    → Taken (length ws) i next.at (sentence_fits (length ws) x) × (next.at ≤ length ws)
sentence-read ws program names i n x next w =
    let t = source_with ws names program in (
      sentence-taken (length ws) t 64 (record { at = i; number = n }) next x w,
      omega (arith, w.period.next_is, within t.text s.Period w.period_spot.at w.period.kind_is (λ same. cc), as-many ws names),
    )

-- a program that is read fits its words
pub program-fits : (ws : List Word) (program : ℕ) (file : FileId) (p : Program) → IsRead ws program file p → program_fits p ≡ true
program-fits ws program file p w =
    let v = view_with ws w.readings file in
    let words = length ws in
    let g = w.is_program in
    let ended = procedure-read words v (as-many ws []) (SentenceAt ws program (cond_names g.data_division)) (sentence-read ws program (cond_names g.data_division)) g.at_procedure g.paragraphs g.procedure in
    let sections = data-division-passed words v g.at_data g.at_procedure g.data_division g.sections in
    let environment = environment-passed words v g.at_environment g.at_data g.selects g.environment in
    let (files, storage) = and_parts (files_fit words v g.data_division.files) (entries_fit words v g.data_division.storage) (sections.fit ended.0) in
    ap program_fits g.is
    ∙ and_from (selects_fit words v g.selects) _ (environment.fit (omega (arith, sections.grows, ended.0)))
    (and_3 (files_fit words v g.data_division.files) (entries_fit words v g.data_division.storage) _ files storage ended.1)
