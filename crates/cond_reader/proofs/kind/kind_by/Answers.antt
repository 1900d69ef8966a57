use Rattle.std.proofs.Common.{◌∙◌, sym, refl, true, false, ap}
use Rattle.cond_reader.specs.Kinds.{is_among}
use Rattle.cond_reader.proofs.IndexLaws.{kind-is}
use Rattle.cond_reader.proofs.kind.kind_by.Goals as goal

pub returns-then-same_symbol : goal.returns-then-same_symbol
returns-then-same_symbol c names index =
    kind-is names c.args.word.now c.symbol_of-symbol.result true c.is_found-is_named.result c.symbol_of-symbol.ensures (sym c.if-same_symbol.true ∙ c.same_symbol.ensures.value)
    (c.is_found-is_named.ensures names index ∙ ap (is_among names) c.items.ensures)

pub returns-else-same_symbol : goal.returns-else-same_symbol
returns-else-same_symbol c names index =
    kind-is names c.args.word.now c.symbol_of-symbol.result false false c.symbol_of-symbol.ensures (sym c.if-same_symbol.false ∙ c.same_symbol.ensures.value) refl
