use Rattle.fixed_format.proofs.ScanLaws.{quote_piece}
use Rattle.fixed_format.proofs.piece.plain_piece.Goals as goal

pub returns-then-is_quote : goal.returns-then-is_quote
returns-then-is_quote c =
    quote_piece c.args.behind_gap c.args.rest.now c.behind.result.now c.first_byte-first.result c.is_quote.result c.literal_piece.result
    c.first_byte-first.ensures c.is_quote.ensures c.if-is_quote.true c.behind.ensures.value c.literal_piece.ensures
