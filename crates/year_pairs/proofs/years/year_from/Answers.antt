use Rattle.std.proofs.Common.{◌≡◌, refl, sym, ◌∙◌, true, false}
use Rattle.year_pairs.specs.declared.year.Year.{Year}
use Rattle.year_pairs.proofs.Rows.{none_begins}
use Rattle.year_pairs.proofs.years.year_from.Goals as goal

pub returns-else-is_whole-clause-none : goal.returns-else-is_whole-clause-none
returns-else-is_whole-clause-none c = λ year is first.
    let begun : Year = record { place = c.args.fact.place; kind = c.in-Some.kind } in
    none_begins c.args.labelling.now c.args.fact begun year c.in-Some.ensures.found refl
    (λ whole. absurd (let e : false ≡ true = sym c.if-is_whole.false ∙ c.is_whole.ensures.1 whole in cc)) is first
