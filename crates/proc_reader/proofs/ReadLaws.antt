-- What the public call answers, by what the reader reads of words that are these.
use Rattle.std.proofs.Common.{◌≡◌, ℕ, Option, Some, None, ap, sym, ◌∙◌}
use Rattle.cobol_syntax.specs.declared.program.Sentence.{Sentence}
use Rattle.cond_reader.specs.declared.fault.UnitFault.{UnitFault}
use Rattle.cond_reader.specs.declared.fault.UnitFault.TheVariants as fault
use Rattle.cond_reader.specs.UnitFaults.{unit_fault}
use Rattle.proc_reader.specs.declared.spot.Spot.{Spot}
use Rattle.proc_reader.specs.Source.{Source}
use Rattle.proc_reader.specs.Reading.{spot}
use Rattle.proc_reader.specs.Sentences.{sentence}
use Rattle.proc_reader.specs.Answers.{IsRead, HasUnitFault}
use Rattle.proc_reader.proofs.SentenceLaws.{sentence-sound}

pub read_one : (t u : Source) (from first : ℕ) (x : Sentence) (s : Spot) → u ≡ t → sentence u 64 (spot from first) ≡ Some (x, s) → IsRead t from first (x, s.at, s.number)
read_one t u from first x s same e =
    let here : sentence t 64 (spot from first) ≡ Some (x, s) = ap (λ v. sentence v 64 (spot from first)) (sym same) ∙ e in
    (sentence-sound t 64 (spot from first) s x here, here)

pub read_none : (t u : Source) (from first : ℕ) (e : UnitFault) → u ≡ t → sentence u 64 (spot from first) ≡ None → e ≡ unit_fault u.text from → HasUnitFault t from first e
read_none t u from first fault.Memory same none is = tt
read_none t u from first (fault.UnitShape origin) same none is = (ap (λ v. sentence v 64 (spot from first)) (sym same) ∙ none, is ∙ ap (λ (v : Source). unit_fault v.text from) same)
read_none t u from first (fault.NestDeep origin) same none is = (ap (λ v. sentence v 64 (spot from first)) (sym same) ∙ none, is ∙ ap (λ (v : Source). unit_fault v.text from) same)
