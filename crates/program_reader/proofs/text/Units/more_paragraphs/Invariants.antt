use Rattle.std.proofs.Common.{◌≡◌, ◌-◌, length}
use Rattle.program_reader.specs.Programs.{each}
use Rattle.program_reader.specs.Procedures.{more_paragraphs, next_paragraph}
use Rattle.std.specs.Prelude.{not}
use Rattle.cond_reader.specs.Text.{sees}
use Rattle.cond_reader.specs.declared.symbol.Symbol.TheVariants as s
use Rattle.program_reader.specs.View.{view_of}
use Rattle.proc_reader.specs.View.{source_of}
use Rattle.program_reader.proofs.text.Units.more_paragraphs.Given as goal

abbrev pub invariant-loop-turn : goal.invariant-loop-turn
invariant-loop-turn l =
    more_paragraphs (view_of l.self) (source_of l.sentences) l.fn.chapters l.fn.at ≡ each (λ i. not (sees (view_of l.self).text s.End i)) (next_paragraph (view_of l.self) (source_of l.sentences)) (length l.self.terms.now - l._turn) l.chapters l.at
