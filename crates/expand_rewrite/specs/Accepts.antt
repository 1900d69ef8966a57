-- An ACCEPT that gives an item a year with its century.
use Rattle.std.specs.Prelude.{ℕ, ◌/◌, ◌%◌, false, List, [], ◌++◌, codes, decimal, if◌then◌else◌}
use Rattle.y2k_base.specs.declared.edit.Edit.{Edit}
use Rattle.y2k_base.specs.declared.word.Word.{Word}
use Rattle.cobol_syntax.specs.declared.place.Place.{Place}
use Rattle.cobol_syntax.specs.declared.statement.Register.{Register}
use Rattle.statement_rules.specs.Statements.{origin_at}
use Rattle.window_modes.specs.declared.modes.YearMode.{YearMode}
use Rattle.date_uses.specs.declared.uses.UseForm.{UseForm}
use Rattle.date_uses.specs.declared.uses.UseForm.TheVariants as forms
use Rattle.date_uses.specs.Places.{place_used}
use Rattle.generated_areas.specs.Dates.{accepts_year}
use Rattle.statement_words.specs.Edited.{stretch}
use Rattle.statement_words.specs.Groups.{receiver}
use Rattle.statement_words.specs.NewWords.{text_words}
use Rattle.expand_rewrite.specs.declared.accepts.Accepted.{Accepted}
use Rattle.expand_rewrite.specs.declared.accepts.Accepted.TheVariants as accepted
use Rattle.expand_rewrite.specs.Old.{Old}

-- the year of a date has its units digit at the power 4, that of a day at the power 3
abbrev pub accepted_by : List YearMode → UseForm → Accepted
accepted_by modes form =
    if accepts_year modes 4 form then accepted.Date else (if accepts_year modes 3 form then accepted.Day else accepted.Nothing)

-- a pivot in two digits
abbrev pub date_text : ℕ → List ℕ
date_text day =
    codes "ACCEPT Y2K-DATE FROM DATE IF Y2K-DATE < " ++ (decimal (day / 10) ++ (decimal (day % 10) ++
    codes "0000 COMPUTE Y2K-FULL-DATE = Y2K-DATE + 20000000 ELSE COMPUTE Y2K-FULL-DATE = Y2K-DATE + 19000000 END-IF MOVE Y2K-FULL-DATE TO"))

abbrev pub day_text : ℕ → List ℕ
day_text day =
    codes "ACCEPT Y2K-DAY FROM DAY IF Y2K-DAY < " ++ (decimal (day / 10) ++ (decimal (day % 10) ++
    codes "000 COMPUTE Y2K-FULL-DAY = Y2K-DAY + 2000000 ELSE COMPUTE Y2K-FULL-DAY = Y2K-DAY + 1900000 END-IF MOVE Y2K-FULL-DAY TO"))

-- these words and the item
abbrev pub text_edits : Old → ℕ → ℕ → List ℕ → Place → List Edit
text_edits p at end text to =
    stretch p.number p.words at end (text_words (origin_at p.words at) text ++ receiver p.number p.words p.edits to false)

abbrev pub edits_by : Old → ℕ → ℕ → Place → Accepted → List Edit
edits_by p at end to accepted.Date = text_edits p at end (date_text p.day) to
edits_by p at end to accepted.Day = text_edits p at end (day_text p.day) to
edits_by p at end to accepted.Nothing = []

abbrev pub accept_edits : Old → ℕ → ℕ → Place → Register → List Edit
accept_edits p at end to from = edits_by p at end to (accepted_by p.modes (forms.Accept (place_used p.layout to) from))
