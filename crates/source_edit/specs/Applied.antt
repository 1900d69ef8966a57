-- Texts with their words edited, and the clashes that stand against it.
use Rattle.std.specs.Prelude.{◌≡◌, ◌⊎◌, ℕ, ◌+◌, true, List, [], ◌∷◌, ◌++◌}
use Rattle.y2k_base.specs.declared.edit.Edit.{Edit}
use Rattle.y2k_base.specs.declared.text.Text.{Text}
use Rattle.y2k_base.specs.declared.word.FileId.{FileId}
use Rattle.plan_limits.specs.First.{IsFirst}
use Rattle.plan_limits.specs.declared.limit.Limit.{Limit}
use Rattle.source_edit.specs.declared.whole.EditedTexts.{EditedTexts}
use Rattle.source_edit.specs.declared.fault.EditFault.{EditFault}
use Rattle.source_edit.specs.declared.fault.EditFault.TheVariants as fault
use Rattle.source_edit.specs.Clashes.{changes_of, replacements_of, edit_clashes}
use Rattle.source_edit.specs.Edited.{IsEditedText, ReadsAs, edited_words}
use Rattle.source_edit.specs.Expansions.{AreProgramClashes, sources_of}
use Rattle.source_edit.specs.Faults.{IsFaultOf}
use Rattle.source_edit.specs.Rows.{Changing}

-- the text with its words edited, under its name and key
pub record IsEdited (change : Changing) (file : FileId) (text new : Text) : Type 0 where
  pub name : new.name ≡ text.name
  pub key : new.key ≡ text.key
  pub role : new.role ≡ text.role
  pub bytes : IsEditedText change file text.bytes new.bytes

-- the new text reads as the edited words
abbrev pub IsReadAs : Changing → FileId → Text → Text → Type 0
IsReadAs change file text new = ReadsAs file (edited_words change file text.bytes) new.bytes

-- each text from a number on is edited
abbrev pub AreEditedFrom : Changing → ℕ → List Text → List Text → Type 0
AreEditedFrom change n [] [] = Unit {0}
AreEditedFrom change n [] (u ∷ us) = ⊥
AreEditedFrom change n (t ∷ ts) [] = ⊥
AreEditedFrom change n (t ∷ ts) (u ∷ us) = IsEdited change (record { 0 = n }) t u × AreEditedFrom change (n + 1) ts us

abbrev pub AreReadFrom : Changing → ℕ → List Text → List Text → Type 0
AreReadFrom change n [] [] = Unit {0}
AreReadFrom change n [] (u ∷ us) = ⊥
AreReadFrom change n (t ∷ ts) [] = ⊥
AreReadFrom change n (t ∷ ts) (u ∷ us) = IsReadAs change (record { 0 = n }) t u × AreReadFrom change (n + 1) ts us

-- one text more, and whether all are read as they are to be
pub record AddsText (change : Changing) (file : FileId) (text : Text) (old new : EditedTexts) : Type 0 where
  pub last : Text
  pub list : new.list ≡ old.list ++ last ∷ []
  pub edited : IsEdited change file text last
  pub both : new.read ≡ true → (old.read ≡ true) × IsReadAs change file text last

-- programs whose clashes are these, for texts and new texts
abbrev pub HaveClashes : List Text → List Edit → List Text → List Limit → Type 0
HaveClashes texts edits new clashes =
    AreProgramClashes (replacements_of edits) (sources_of texts).books.list (sources_of new).books.list 0 (sources_of texts).programs (sources_of new).programs clashes

-- No edits clash, each text is edited and reads so, and each program reads as its edits ask for.
pub record AreApplied (texts : List Text) (edits : List Edit) (new : List Text) : Type 0 where
  pub alike : edit_clashes edits ≡ []
  pub edited : AreEditedFrom (changes_of edits) 0 texts new
  pub read : AreReadFrom (changes_of edits) 0 texts new
  pub expanded : HaveClashes texts edits new []

-- the first clash of programs, where no edits clash
pub record IsProgramClash (texts : List Text) (edits : List Edit) (limit : Limit) : Type 0 where
  pub alike : edit_clashes edits ≡ []
  pub new : List Text
  pub edited : AreEditedFrom (changes_of edits) 0 texts new
  pub clashes : List Limit
  pub have : HaveClashes texts edits new clashes
  pub first : IsFirst clashes limit

-- the first clash of edits of one origin, or else of programs
abbrev pub IsClash : List Text → List Edit → Limit → Type 0
IsClash texts edits limit = IsFirst (edit_clashes edits) limit ⊎ IsProgramClash texts edits limit

abbrev pub HasClash : List Text → List Edit → EditFault → Type 0
HasClash texts edits (fault.CopyClash at first second) =
    (limit : Limit) × IsFaultOf limit (fault.CopyClash at first second) × IsClash texts edits limit
HasClash texts edits fault.Memory = Unit {0}
