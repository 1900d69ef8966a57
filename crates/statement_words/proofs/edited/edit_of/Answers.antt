use Rattle.std.proofs.Common.{sym, ◌∙◌}
use Rattle.statement_words.proofs.Search.{found, past, absent}
use Rattle.statement_words.proofs.edited.edit_of.Goals as goal

pub returns-in-None : goal.returns-in-None
returns-in-None c = past c.args.edits.now c.args.word c.count_before.result c.count_before.ensures.point c.in-None.ensures.lookup.3

pub returns-then-is_of : goal.returns-then-is_of
returns-then-is_of c =
    found c.args.edits.now c.args.word c.count_before.result _ c.count_before.ensures.point c.in-Some.ensures.lookup.3.0 c.in-Some.ensures.lookup.1 (sym c.is_of.ensures ∙ c.if-is_of.true)

pub returns-else-is_of : goal.returns-else-is_of
returns-else-is_of c =
    absent c.args.edits.now c.args.word c.count_before.result _ c.requires c.count_before.ensures.point c.in-Some.ensures.lookup.3.0 c.in-Some.ensures.lookup.1 (sym c.is_of.ensures ∙ c.if-is_of.false)
