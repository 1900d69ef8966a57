-- A program that is written anew.
use Rattle.std.specs.Prelude.{ℕ, List}
use Rattle.y2k_base.specs.declared.edit.Edit.{Edit}
use Rattle.y2k_base.specs.declared.word.Word.{Word}
use Rattle.data_layout.specs.declared.item.Layout.{Layout}
use Rattle.window_modes.specs.declared.modes.YearMode.{YearMode}
use Rattle.window_rewrite.specs.declared.site.Site.{Site}

-- its number, its words with the edits that they have already, its layout, and the years of its portfolio
pub record Old : Type 0 where
  pub program : ℕ
  pub words : List Word
  pub edits : List Edit
  pub layout : Layout
  pub modes : List YearMode

abbrev pub old_of : Site → Old
old_of site = record { program = site.source.program; words = site.source.words.now; edits = site.source.edits.now; layout = site.layout.now; modes = site.index.now }
