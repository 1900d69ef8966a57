use Rattle.std.proofs.Common.{refl, sym}
use Rattle.std.proofs.lemmas.Option.{slice_get_past, slice_get_read}
use Rattle.statement_words.proofs.edited.word_at.Goals as goal

pub returns-in-None : goal.returns-in-None
returns-in-None c = sym (slice_get_past c.args.words.now c.args.position c.in-None.ensures.lookup.3)

pub returns-in-Some : goal.returns-in-Some
returns-in-Some c = sym (slice_get_read c.args.words.now _ c.args.position _ refl c.in-Some.ensures.lookup.3.0 c.in-Some.ensures.lookup.1)
