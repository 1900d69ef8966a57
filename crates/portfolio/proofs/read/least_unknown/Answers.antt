use Rattle.std.proofs.Common.{◌≡◌, Some, None, rules}
use Rattle.portfolio.specs.Keys.{is_word_of, all_keys}
use Rattle.portfolio.proofs.Unknown.{first_unknown, none_unknown, found_unknown}
use Rattle.portfolio.proofs.read.least_unknown.Goals as goal

pub returns-then-not-is_word_of : goal.returns-then-not-is_word_of
returns-then-not-is_word_of c =
    let found : first_unknown (is_word_of all_keys) c.args.table.now.entries ≡ Some c.as_str-then-not-is_word_of.result.now = search rules in
    found_unknown (is_word_of all_keys) c.args.table.now.entries _ c.iter-key-items.ensures.ordered found

pub returns : goal.returns
returns c =
    let none : first_unknown (is_word_of all_keys) c.args.table.now.entries ≡ None = search rules in
    none_unknown (is_word_of all_keys) c.args.table.now.entries none
