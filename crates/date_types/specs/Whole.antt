-- All rules of a portfolio.
use Rattle.std.specs.Prelude.{List, ◌++◌}
use Rattle.data_layout.specs.declared.portfolio.Portfolio.{Portfolio}
use Rattle.year_labels.specs.declared.rule.RuleInst.{RuleInst}
use Rattle.date_types.specs.Tables.{file_rules}
use Rattle.date_types.specs.Pictures.{picture_rules}
use Rattle.date_types.specs.Programs.{programs_rules}

abbrev pub rules : Portfolio → List RuleInst
rules portfolio =
    programs_rules portfolio.programs portfolio.layouts
    ++ (file_rules portfolio portfolio.files ++ picture_rules portfolio.programs portfolio.layouts)
