-- The rows of conflicts.
use Rattle.std.specs.Prelude.{ℕ, ◌+◌, List, [], ◌∷◌, ◌++◌, codes, decimal, slice_get, Option, Some, None}
use Rattle.y2k_base.specs.declared.text.Text.{Text}
use Rattle.y2k_base.specs.declared.text.Texts.{Texts}
use Rattle.data_layout.specs.declared.portfolio.Portfolio.{Portfolio}
use Rattle.year_labels.specs.declared.rule.Rule.{Rule}
use Rattle.year_labels.specs.declared.rule.Rule.TheVariants as rules
use Rattle.year_labels.specs.declared.rule.RuleInst.{RuleInst}
use Rattle.conflict_chain.specs.declared.chain.ChainStep.{ChainStep}
use Rattle.conflict_chain.specs.declared.chain.Conflict.{Conflict}
use Rattle.conflict_chain.specs.declared.chain.Why.{Why}
use Rattle.conflict_chain.specs.declared.chain.Why.TheVariants.{Seed, Rule as ByRule}
use Rattle.reports.specs.declared.conflicts.Sources.{Sources}
use Rattle.reports.specs.declared.names.AreaName.{AreaName}
use Rattle.reports.specs.Labels.{label_row}
use Rattle.reports.specs.Names.{names_of}
use Rattle.reports.specs.Places.{place_text}
use Rattle.reports.specs.Rows.{rows_text}

-- what the fields of a step are looked up in: the names of areas, the texts, the rules, and the name of the seed file
pub record Known : Type 0 where
  pub names : List AreaName
  pub texts : List Text
  pub rules : List RuleInst
  pub seeds : List ℕ

abbrev pub known_of : Sources → Known
known_of sources = record { names = sources.names.now; texts = sources.texts.now; rules = sources.rules.now; seeds = sources.seeds.now }

abbrev pub rule_text : Rule → List ℕ
rule_text rules.Register = codes "register"
rule_text rules.Occurs = codes "occurs"
rule_text rules.File = codes "file"
rule_text rules.Origin = codes "origin"
rule_text rules.Bytes = codes "bytes"
rule_text rules.Digits = codes "digits"
rule_text rules.Fill = codes "fill"
rule_text rules.Excess = codes "excess"
rule_text rules.Add = codes "add"
rule_text rules.Subtract = codes "subtract"
rule_text rules.Plain = codes "plain"

-- a seed is named so, and stands at FILE:ROW
abbrev pub seed_fields : List ℕ → ℕ → List (List ℕ)
seed_fields seeds row = codes "seed" ∷ (seeds ++ (codes ":" ++ decimal row)) ∷ []

-- the name of the rule and where it stands; of a rule that isn't there nothing
abbrev pub rule_fields : List Text → Option RuleInst → List (List ℕ)
rule_fields texts None = [] ∷ [] ∷ []
rule_fields texts (Some inst) = rule_text inst.rule ∷ place_text texts inst.at ∷ []

-- why a step holds, and where that stands
abbrev pub why_fields : Known → Why → List (List ℕ)
why_fields known (Seed row) = seed_fields known.seeds row
why_fields known (ByRule index) = rule_fields known.texts (slice_get known.rules index)

-- the numbers of the conflict, of its side and of the step on that side, the fact, and why it holds
abbrev pub step_row : Known → ℕ → ℕ → ℕ → ChainStep → List (List ℕ)
step_row known conflict side number step =
    decimal conflict ∷ decimal side ∷ decimal number ∷ (label_row known.names step.fact ++ why_fields known step.why)

-- the steps of a side, the first of which has this number
abbrev pub side_rows : Known → ℕ → ℕ → ℕ → List ChainStep → List (List (List ℕ))
side_rows known conflict side number [] = []
side_rows known conflict side number (step ∷ steps) =
    step_row known conflict side number step ∷ side_rows known conflict side (number + 1) steps

-- the two sides of a conflict
abbrev pub both_rows : Known → ℕ → Conflict → List (List (List ℕ))
both_rows known number conflict =
    side_rows known number 1 1 conflict.chain1.steps ++ side_rows known number 2 1 conflict.chain2.steps

-- the rows of conflicts, the first of which has this number
abbrev pub rows_from : Known → ℕ → List Conflict → List (List (List ℕ))
rows_from known number [] = []
rows_from known number (conflict ∷ conflicts) = both_rows known number conflict ++ rows_from known (number + 1) conflicts

abbrev pub conflict_header : List (List ℕ)
conflict_header =
    codes "conflict" ∷ codes "side" ∷ codes "step" ∷ codes "program" ∷ codes "area" ∷ codes "offset" ∷ codes "label"
    ∷ codes "rule" ∷ codes "at" ∷ []

abbrev pub known_in : Texts → Portfolio → List RuleInst → List ℕ → Known
known_in texts portfolio rules seeds = record { names = names_of portfolio; texts = texts.list; rules = rules; seeds = seeds }

-- a row for each step, in order of conflicts, of sides and of steps, each numbered from 1
abbrev pub conflict_table : Texts → Portfolio → List RuleInst → List Conflict → List ℕ → List (List (List ℕ))
conflict_table texts portfolio rules conflicts seeds =
    conflict_header ∷ rows_from (known_in texts portfolio rules seeds) 1 conflicts

abbrev pub conflict_report : Texts → Portfolio → List RuleInst → List Conflict → List ℕ → List ℕ
conflict_report texts portfolio rules conflicts seeds = rows_text (conflict_table texts portfolio rules conflicts seeds)
