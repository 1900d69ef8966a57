use Rattle.std.proofs.Common.{Contains, sym, subst, List}
use Rattle.std.proofs.lemmas.List.Elements.{Contains-push}
use Rattle.year_labels.specs.declared.rule.RuleInst.{RuleInst}
use Rattle.date_types.specs.Tables.{table_inst}
use Rattle.date_types.proofs.Occurrences.{occurrences_alike}
use Rattle.date_types.proofs.tables.add_occurrences.Goals as goal

pub returns-clause-alike : goal.returns-clause-alike
returns-clause-alike c =
    let one : RuleInst = table_inst c.args.at c.args.span c.args.step in
    occurrences_alike c.add_next.new.rules c.args.at c.args.span c.args.step
    (subst (λ (rules : List RuleInst). Contains rules one) (sym c.in_ok-add_next.ensures) (Contains-push c.args.rules.now one))
