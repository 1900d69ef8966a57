use Rattle.std.proofs.Common.{ℕ, List, length, sym, ap, ◌∙◌, subst, string_bytes}
use Rattle.std.specs.Option.{IfNone}
use Rattle.std.proofs.lemmas.List.{length-map}
use Rattle.annodomini_cli.specs.Command.{IsNoRun}
use Rattle.annodomini_cli.proofs.run_words.run_of.Goals as goal

pub returns-in-Some-clause-none : goal.returns-in-Some-clause-none
returns-in-Some-clause-none c =
    subst (λ (ws : List (List ℕ)). IfNone c.run_in.result (IsNoRun ws)) (sym c.in-Some.ensures.found) c.run_in.ensures.none

pub returns-in-None-clause-none : goal.returns-in-None-clause-none
returns-in-None-clause-none c = λ main job day bound out is. c.in-None.ensures.none (sym (length-map c.args.words.now string_bytes) ∙ ap length is.are)
