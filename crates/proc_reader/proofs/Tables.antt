-- The tables of words are those of the grammar.
use Rattle.std.proofs.Common.{◌≡◌, refl}
use Rattle.std.specs.Prelude.{map}
use Rattle.proc_reader.specs.declared.keyword.TheConstants.{VERBS, PHRASES}
use Rattle.proc_reader.specs.Keywords.{verbs, phrases}

pub verbs-are : map (λ row. (row.0.now, row.1)) VERBS ≡ verbs
verbs-are = refl

pub phrases-are : map (λ row. (row.0.now, row.1)) PHRASES ≡ phrases
phrases-are = refl
