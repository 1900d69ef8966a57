-- What `plan` answers.
use Rattle.std.specs.Prelude.{◌≡◌, ◌⊎◌, ℕ, List, Option}
use Rattle.convert_plan.specs.Plans.{IsFirstLimit, IsPlanOf}
use Rattle.convert_plan.specs.declared.plan.Plan.{Plan}
use Rattle.data_layout.specs.declared.portfolio.Portfolio.{Portfolio}
use Rattle.label_report.specs.Answer.{IsAnswerBy, IsAnswerForBy, conflicts_text}
use Rattle.labelled_portfolio.specs.declared.labelled.Labelled.{Labelled}
use Rattle.manifest_load.specs.declared.open.Opened.{Opened}
use Rattle.plan_limits.specs.declared.limit.Limit.{Limit}
use Rattle.reports.specs.Limits.{limit_line}
use Rattle.reports.specs.Plans.{IsPlanReport}
use Rattle.shelf.specs.Contents.{Files}
use Rattle.text_conversion.specs.Faults.{IsClashLimit}
use Rattle.year_labels.specs.Facts.{IsClean}

abbrev pub portfolio_of : Labelled → Portfolio
portfolio_of l = l.seeded.gathered.portfolio

-- the line of a limit
abbrev pub line_of : Labelled → Limit → List ℕ
line_of l limit = limit_line l.seeded.gathered.texts (portfolio_of l) limit

-- the rows of the plan with status 0, or with status 4 the line of the first limit, or of a clash of programs that share words
abbrev pub IsPlanned : Labelled → ℕ → List ℕ → Type 0
IsPlanned l status text =
    ((plan : Plan) × IsPlanOf l.labels.labelling (portfolio_of l) l.windows plan × (status ≡ 0) × IsPlanReport l.seeded.gathered.texts (portfolio_of l) plan.index text)
    ⊎ (((limit : Limit) × IsFirstLimit l.labels.labelling (portfolio_of l) l.windows limit × (status ≡ 4) × (text ≡ line_of l limit))
    ⊎ ((limit : Limit) × IsClashLimit l.labels.labelling (portfolio_of l) l.windows limit × (status ≡ 4) × (text ≡ line_of l limit)))

-- where no byte has unlike labels that, and else the conflict rows with status 1
abbrev pub IsReport : Opened → Labelled → ℕ → List ℕ → Type 0
IsReport opened l status text =
    (IsClean l.labels.labelling × IsPlanned l status text)
    ⊎ ((IsClean l.labels.labelling → ⊥) × (status ≡ 1) × (text ≡ conflicts_text opened l))

abbrev pub IsAnswerFor : Option Files → Opened → ℕ → List ℕ → Type 0
IsAnswerFor told opened status text = IsAnswerForBy IsReport told opened status text

-- what is said of the manifest's labelled portfolio, or the line of a refusal that has its cause
abbrev pub IsAnswer : List ℕ → Option Files → ℕ → List ℕ → Type 0
IsAnswer main told status text = IsAnswerBy IsReport main told status text
