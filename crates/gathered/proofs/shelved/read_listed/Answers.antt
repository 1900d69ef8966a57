use Rattle.gathered.proofs.Rest.{texts_read, whole_read, words_read}
use Rattle.gathered.proofs.shelved.read_listed.Goals as goal

pub returns-clause-texts : goal.returns-clause-texts
returns-clause-texts g c = texts_read _ _ _ _ _ _ c.in_default.len_below c.loop-rest.invariant.goes

pub returns-clause-words : goal.returns-clause-words
returns-clause-words g c = words_read _ _ _ _ _ _ c.loop-rest.invariant.goes

pub returns-clause-whole : goal.returns-clause-whole
returns-clause-whole g c = whole_read _ _ _ _ _ _ c.loop-rest.invariant.goes
