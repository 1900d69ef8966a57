-- A program that is written anew: its number, its words with the edits of single words, its layout, the years of its portfolio
-- and the pivot of the day.
use Rattle.std.specs.Prelude.{ℕ, List}
use Rattle.y2k_base.specs.declared.edit.Edit.{Edit}
use Rattle.y2k_base.specs.declared.word.Word.{Word}
use Rattle.data_layout.specs.declared.item.Layout.{Layout}
use Rattle.window_modes.specs.declared.modes.YearMode.{YearMode}
use Rattle.expand_rewrite.specs.declared.old.OldProgram.{OldProgram}

pub record Old : Type 0 where
  pub number : ℕ
  pub words : List Word
  pub edits : List Edit
  pub layout : Layout
  pub modes : List YearMode
  pub day : ℕ

abbrev pub known : OldProgram → Old
known p = record {
  number = p.source.program;
  words = p.source.words.now;
  edits = p.source.edits.now;
  layout = p.layout.now;
  modes = p.index.now;
  day = p.day;
}
