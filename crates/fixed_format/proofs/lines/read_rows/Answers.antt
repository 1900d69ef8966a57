use Rattle.std.proofs.Common.{ap, sym, ◌∙◌}
use Rattle.fixed_format.specs.declared.lines.Reading.{Reading}
use Rattle.fixed_format.specs.Joined.{faults_in}
use Rattle.fixed_format.proofs.FirstLaws.{first_of_all, none_of_all}
use Rattle.fixed_format.proofs.JoinedLaws.{reads_text_words, reads_text_fault}
use Rattle.fixed_format.proofs.lines.read_rows.Goals as goal

pub returns-in-Ok-clause-words : goal.returns-in-Ok-clause-words
returns-in-Ok-clause-words c = ap (λ (r : Reading). r.words) c.in-Ok.ensures ∙ reads_text_words c.args.file c.args.lines.now

pub returns-in-Ok-clause-some : goal.returns-in-Ok-clause-some
returns-in-Ok-clause-some c f e =
    first_of_all (faults_in c.args.lines.now) f (sym (ap (λ (r : Reading). r.fault) c.in-Ok.ensures ∙ reads_text_fault c.args.file c.args.lines.now) ∙ e)

pub returns-in-Ok-clause-none : goal.returns-in-Ok-clause-none
returns-in-Ok-clause-none c e =
    none_of_all (faults_in c.args.lines.now) (sym (ap (λ (r : Reading). r.fault) c.in-Ok.ensures ∙ reads_text_fault c.args.file c.args.lines.now) ∙ e)
