use Rattle.std.proofs.Common.{sym, ◌∙◌, arith}
use Rattle.case_tables.proofs.Letters.{role_of-none, by_letter-first}
use Rattle.case_tables.proofs.reserved.role_of.Goals as goal

pub returns-in-empty : goal.returns-in-empty
returns-in-empty c = sym (role_of-none c.args.word.now c.in-empty.len_below)

pub returns-in-len1-up : goal.returns-in-len1-up
returns-in-len1-up c = c.by_letter.ensures ∙ by_letter-first c.args.word.now (omega (arith, c.in-len1-up.len_at_least))
