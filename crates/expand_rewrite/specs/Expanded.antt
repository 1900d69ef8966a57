-- The edits by which a portfolio gets its years with their century.
use Rattle.std.specs.Prelude.{ℕ, List, []}
use Rattle.y2k_base.specs.declared.edit.Edit.{Edit}
use Rattle.y2k_base.specs.Edits.{AreJoined}
use Rattle.data_layout.specs.declared.portfolio.Portfolio.{Portfolio}
use Rattle.convert_plan.specs.declared.plan.Plan.{Plan}
use Rattle.word_wishes.specs.Whole.{AreWordEdits}
use Rattle.expand_rewrite.specs.Statements.{Scene, programs_edits}

abbrev pub scene : Plan → List Edit → Scene
scene plan words = record { modes = plan.index; day = plan.day; needed = plan.needed; words = words }

abbrev pub statement_edits : Plan → Portfolio → List Edit → List Edit
statement_edits plan portfolio words = programs_edits (scene plan words) 0 portfolio.programs portfolio.layouts

-- those of single words; in place of these, where a statement is written anew, those of its words, and those that put in areas
pub record IsExpanded (plan : Plan) (portfolio : Portfolio) (edits : List Edit) : Type 0 where
  pub words : List Edit
  pub words_are : AreWordEdits plan.labelling.now plan.index portfolio words
  pub statements : List Edit
  pub statements_are : AreJoined (statement_edits plan portfolio words) [] statements
  pub joined : AreJoined words statements edits
