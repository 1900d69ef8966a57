-- How the procedure division is read, unit by unit.
use Rattle.std.specs.Prelude.{ℕ, ◌+◌, Bool, true, false, not, ◌&&◌, if◌then◌else◌, List, [], Option, Some, None, Result, Ok, Err, length}
use Rattle.cobol_syntax.specs.declared.program.Paragraph.{Paragraph}
use Rattle.cobol_syntax.specs.declared.program.Sentence.{Sentence}
use Rattle.cond_reader.specs.declared.symbol.Symbol.TheVariants as s
use Rattle.cond_reader.specs.Text.{sees}
use Rattle.cond_reader.specs.Reads.{Reader, and_then, with_last}
use Rattle.cond_reader.specs.Places.{name}
use Rattle.proc_reader.specs.declared.spot.Spot.{Spot}
use Rattle.proc_reader.specs.Source.{Source}
use Rattle.proc_reader.specs.Sentences.{sentence}
use Rattle.program_reader.specs.declared.fault.Refused.{Refused}
use Rattle.program_reader.specs.declared.procedure.Body.{Body}
use Rattle.program_reader.specs.declared.procedure.Chapters.{Chapters}
use Rattle.program_reader.specs.declared.procedure.Heading.{Heading}
use Rattle.program_reader.specs.declared.term.Term.TheVariants as k
use Rattle.program_reader.specs.Views.{View, header, headers, ended, closed_by}
use Rattle.program_reader.specs.UnitFaults.{fault}
use Rattle.program_reader.specs.Programs.{Outcome, so, so_at, each, required, required_at}

-- the paragraphs and sections, with one more
abbrev pub with_paragraph : Chapters → Heading → ℕ → Body → Chapters
with_paragraph cs h begin b = record {
  paragraphs = with_last cs.paragraphs (record { name = h.name; section = h.section; sentences = b.sentences; at = begin });
  number = b.number;
}

module _ (v : View) where
  abbrev pub heading_end : List ℕ → ℕ → Option ℕ → Option (Heading × ℕ)
  heading_end n j (Some m) = Some (record { name = n; section = true }, m)
  heading_end n j None = closed_by (record { name = n; section = false }) (ended v j)

  -- name SECTION, or a name alone
  unfoldable pub heading : Reader Heading
  heading i = and_then (name v.text i) (λ n j. heading_end n j (header v k.Section j))

  unfoldable pub heading_unit : ℕ → Outcome Heading
  heading_unit i = required_at v (heading i) i

  -- neither a name nor the end of the words
  unfoldable pub begins_sentence : ℕ → Bool
  begins_sentence i = not (sees v.text s.Name i) && not (sees v.text s.End i)

  -- the paragraphs, where the words end after them
  unfoldable pub closed : Chapters → ℕ → Result (List Paragraph) Refused
  closed cs i = if sees v.text s.End i then Ok cs.paragraphs else Err (fault v i)

  module _ (t : Source) where
    abbrev pub with_sentence : Body → ℕ → Option (Sentence × Spot) → Outcome Body
    with_sentence b i None = Err (fault v i)
    with_sentence b i (Some p) = Ok (record { sentences = with_last b.sentences p.0; number = p.1.number }, p.1.at)

    unfoldable pub next_sentence : Body → ℕ → Outcome Body
    next_sentence b i = with_sentence b i (sentence t 64 (record { at = i; number = b.number }))

    unfoldable pub more_sentences : Body → ℕ → Outcome Body
    more_sentences = each begins_sentence next_sentence (length v.terms)

    unfoldable pub with_body : Chapters → Heading → ℕ → ℕ → Outcome Chapters
    with_body cs h begin i =
        so (more_sentences (record { sentences = []; number = cs.number }) i) (λ b j. Ok (with_paragraph cs h begin b, j))

    unfoldable pub next_paragraph : Chapters → ℕ → Outcome Chapters
    next_paragraph cs i = so (heading_unit i) (λ h j. with_body cs h i j)

    unfoldable pub more_paragraphs : Chapters → ℕ → Outcome Chapters
    more_paragraphs = each (λ i. not (sees v.text s.End i)) next_paragraph (length v.terms)

    unfoldable pub unnamed : Chapters → ℕ → Outcome Chapters
    unnamed cs i = if begins_sentence i then with_body cs (record { name = []; section = false }) i i else Ok (cs, i)

    unfoldable pub chapters : ℕ → Outcome Chapters
    chapters i =
        if sees v.text s.End i then Err (fault v i)
        else so (unnamed (record { paragraphs = []; number = 0 }) i) more_paragraphs

    unfoldable pub procedure : ℕ → Result (List Paragraph) Refused
    procedure i = so_at (required v (headers v k.Procedure k.Division i) i) (λ j. so (chapters j) closed)
