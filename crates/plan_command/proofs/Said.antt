-- What is said is an answer.
use Rattle.std.proofs.Common.{◌≡◌, ◌⊎◌, ℕ, List, Option, inl, inr}
use Rattle.answers.specs.Said.{IsSaid}
use Rattle.convert_plan.specs.Plans.{IsFirstLimit, IsPlanOf}
use Rattle.convert_plan.specs.declared.plan.Plan.{Plan}
use Rattle.label_report.specs.Answer.{IsAnswered, conflicts_text}
use Rattle.labelled_portfolio.specs.declared.labelled.Labelled.{Labelled}
use Rattle.manifest_load.specs.declared.open.Opened.{Opened}
use Rattle.plan_limits.specs.declared.limit.Limit.{Limit}
use Rattle.reports.specs.Plans.{IsPlanReport}
use Rattle.year_labels.specs.Facts.{IsClean}
use Rattle.text_conversion.specs.Faults.{IsClashLimit}
use Rattle.plan_command.specs.Answer.{IsPlanned, IsReport, line_of, portfolio_of}

pub plan_said : (l : Labelled) (plan : Plan) (before after : Option (List ℕ)) (text : List ℕ) (status : ℕ) → IsPlanOf l.labels.labelling (portfolio_of l) l.windows plan
    → IsPlanReport l.seeded.gathered.texts (portfolio_of l) plan.index text → IsSaid 0 text before after status → IsAnswered (IsPlanned l) before after status
plan_said l plan before after text status is rows (inl p) = inl (text, p.1, inl (plan, is, p.0, rows))
plan_said l plan before after text status is rows (inr fault) = inr fault

limit_planned : (l : Labelled) (limit : Limit) (text : List ℕ) (status : ℕ)
    → (IsFirstLimit l.labels.labelling (portfolio_of l) l.windows limit ⊎ IsClashLimit l.labels.labelling (portfolio_of l) l.windows limit)
    → status ≡ 4 → text ≡ line_of l limit → IsPlanned l status text
limit_planned l limit text status (inl first) four line = inr (inl (limit, first, four, line))
limit_planned l limit text status (inr clash) four line = inr (inr (limit, clash, four, line))

pub limit_said : (l : Labelled) (limit : Limit) (before after : Option (List ℕ)) (text : List ℕ) (status : ℕ)
    → (IsFirstLimit l.labels.labelling (portfolio_of l) l.windows limit ⊎ IsClashLimit l.labels.labelling (portfolio_of l) l.windows limit)
    → text ≡ line_of l limit → IsSaid 4 text before after status → IsAnswered (IsPlanned l) before after status
limit_said l limit before after text status is line (inl p) = inl (text, p.1, limit_planned l limit text status is p.0 line)
limit_said l limit before after text status is line (inr fault) = inr fault

pub clean_said : (opened : Opened) (l : Labelled) (before after : Option (List ℕ)) (status : ℕ) → IsClean l.labels.labelling
    → IsAnswered (IsPlanned l) before after status → IsAnswered (IsReport opened l) before after status
clean_said opened l before after status clean (inl (text, printed, planned)) = inl (text, printed, inl (clean, planned))
clean_said opened l before after status clean (inr fault) = inr fault

pub conflicts_said : (opened : Opened) (l : Labelled) (before after : Option (List ℕ)) (text : List ℕ) (status : ℕ) → (IsClean l.labels.labelling → ⊥)
    → text ≡ conflicts_text opened l → IsSaid 1 text before after status → IsAnswered (IsReport opened l) before after status
conflicts_said opened l before after text status unclean same (inl p) = inl (text, p.1, inr (unclean, p.0, same))
conflicts_said opened l before after text status unclean same (inr fault) = inr fault
