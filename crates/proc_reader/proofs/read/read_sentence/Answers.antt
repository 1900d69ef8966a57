use Rattle.std.proofs.Common.{◌≡◌, List, ap, ◌∙◌}
use Rattle.cond_reader.specs.declared.kind.Kind.{Kind}
use Rattle.cond_reader.specs.Kinds.{text_with}
use Rattle.cond_reader.specs.Text.{Text}
use Rattle.cond_reader.specs.View.{text_of}
use Rattle.proc_reader.specs.declared.keyword.Keyword.{Keyword}
use Rattle.proc_reader.specs.Answers.{source_with}
use Rattle.proc_reader.specs.Source.{Source}
use Rattle.proc_reader.specs.View.{source_of}
use Rattle.proc_reader.proofs.ReadLaws.{read_one}
use Rattle.proc_reader.proofs.read.read_sentence.Goals as goal

pub returns-in-Ok-clause-read : goal.returns-in-Ok-clause-read
returns-in-Ok-clause-read c =
    let words = c.args.words.now in
    let names = c.args.names.now.list in
    let t = source_with words names c.args.program in
    let text : text_of c.new-parts.result ≡ text_with words names =
    c.new-parts.ensures ∙ ap (λ (kinds : List Kind). let u : Text = record { words = words; kinds = kinds } in u) (c.items.ensures ∙ c.in_ok-kinds.ensures) in
    let same : source_of c.new-sentences.result ≡ t =
    c.new-sentences.ensures
    ∙ ap (λ (u : Text). let v : Source = record { text = u; keywords = c.items-2.result.now; program = c.args.program } in v) text
    ∙ ap (λ (keywords : List Keyword). let v : Source = record { text = text_with words names; keywords = keywords; program = c.args.program } in v) (c.items-2.ensures ∙ c.in_ok-keywords.ensures) in
    read_one t (source_of c.new-sentences.result) c.args.from c.args.first c.in-Ok.sentence c.in-Ok.next same c.in-Ok.ensures.read
