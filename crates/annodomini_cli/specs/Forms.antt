-- The forms of the command line.
use Rattle.std.specs.Prelude.{ℕ, List}
use Rattle.annodomini_cli.specs.Command.{IsNoLabelOne, IsNoLabel, IsNoPlan, IsNoRun}
use Rattle.annodomini_cli.specs.WriteWords.{IsNoConversion}

-- the words are none of the forms of the command line
pub record HaveNoForm (words : List (List ℕ)) : Type 0 where
  pub no_label_one : IsNoLabelOne words
  pub no_label : IsNoLabel words
  pub no_plan : IsNoPlan words
  pub no_run : IsNoRun words
  pub no_conversion : IsNoConversion words
