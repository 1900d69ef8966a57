use Rattle.std.proofs.Common.{ℕ, List, length, sym, ap, ◌∙◌, subst, string_bytes}
use Rattle.std.specs.Option.{IfNone}
use Rattle.std.proofs.lemmas.List.{length-map}
use Rattle.annodomini_cli.specs.WriteWords.{IsNoConversion}
use Rattle.annodomini_cli.proofs.write_words.conversion_of.Goals as goal

pub returns-in-Some-clause-none : goal.returns-in-Some-clause-none
returns-in-Some-clause-none c =
    subst (λ (ws : List (List ℕ)). IfNone c.conversion_in.result (IsNoConversion ws)) (sym c.in-Some.ensures.found) c.conversion_in.ensures.none

pub returns-in-None-clause-none : goal.returns-in-None-clause-none
returns-in-None-clause-none c = λ main out is. c.in-None.ensures.none (sym (length-map c.args.words.now string_bytes) ∙ ap length is.are)
