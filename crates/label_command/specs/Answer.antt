-- What `label-one` answers.
use Rattle.std.specs.Prelude.{◌≡◌, ◌⊎◌, ℕ, Bool, if◌then◌else◌, List, [], ◌∷◌, codes, Option, None}
use Rattle.shelf.specs.Contents.{Files}
use Rattle.answers.specs.Lines.{refused_name_line, refused_place_line, shelf_fault_line}
use Rattle.answers.specs.Said.{IsPrinted}
use Rattle.text_load.specs.Texts.{HasText, HasLoadFault}
use Rattle.text_load.specs.declared.LoadFault.TheVariants as load
use Rattle.data_layout.specs.declared.portfolio.Portfolio.{Portfolio}
use Rattle.gathered.specs.declared.fault.GatherFault.TheVariants as gather
use Rattle.gathered.specs.Portfolios.{IsPortfolio, IsRefused}
use Rattle.program_reader.specs.declared.fault.RefusedKind.{RefusedKind}
use Rattle.program_reader.specs.declared.fault.RefusedKind.TheVariants as kinds
use Rattle.y2k_base.specs.declared.text.Text.{Text}
use Rattle.y2k_base.specs.declared.text.TextRole.TheVariants as role
use Rattle.label_command.specs.declared.refusal.Refusal.{Refusal}
use Rattle.label_command.specs.declared.refusal.Refusal.TheVariants as refusals
use Rattle.label_command.specs.Labels.{AreLabels, seeds_in}

-- the text of a program under its name
abbrev pub the_text : List ℕ → List ℕ → Text
the_text source bytes = record { name = source; key = []; role = role.Program; bytes = bytes }

-- the texts are a portfolio with these label lines; every external name is known
abbrev pub AreLabelsIn : List Text → List ℕ → Bool → List ℕ → Type 0
AreLabelsIn texts item clean text = (p : Portfolio) × IsPortfolio texts None p × AreLabels p item clean text

-- the text is a program with these label lines
abbrev pub IsLabelled : List ℕ → List ℕ → List ℕ → Bool → List ℕ → Type 0
IsLabelled source bytes item clean text = AreLabelsIn (the_text source bytes ∷ []) item clean text

-- the shelf has such a text
abbrev pub AreLabelsOf : List ℕ → List ℕ → Option Files → Bool → List ℕ → Type 0
AreLabelsOf source item told clean text = (bytes : List ℕ) × HasText source 0 bytes told × IsLabelled source bytes item clean text

-- what a portfolio may lead to
abbrev pub HasItemCause : Portfolio → List ℕ → Refusal → Type 0
HasItemCause p item refusals.SeedUnknown = seeds_in p.layouts item ≡ None
HasItemCause p item refusals.Memory = Unit {0}
HasItemCause p item _ = ⊥

-- what texts may lead to
abbrev pub HasTextsCause : List Text → List ℕ → Refusal → Type 0
HasTextsCause texts item (refusals.At kind at) = IsRefused texts None (gather.Refused (record { kind = kind; at = at }))
HasTextsCause texts item (refusals.FileUnknown name) = IsRefused texts None (gather.FileUnknown name)
HasTextsCause texts item (refusals.RecordLengths name) = IsRefused texts None (gather.RecordLengths name)
HasTextsCause texts item refusals.SeedUnknown = (p : Portfolio) × IsPortfolio texts None p × (seeds_in p.layouts item ≡ None)
HasTextsCause texts item refusals.Memory = Unit {0}
HasTextsCause texts item _ = ⊥

-- what a text may lead to
abbrev pub HasTextCause : List ℕ → List ℕ → List ℕ → Refusal → Type 0
HasTextCause source bytes item refusal = HasTextsCause (the_text source bytes ∷ []) item refusal

-- why there are no label lines
abbrev pub HasCause : List ℕ → List ℕ → Option Files → Refusal → Type 0
HasCause source item told refusals.Missing = HasLoadFault source 0 told load.Missing
HasCause source item told refusals.TooLarge = HasLoadFault source 0 told load.TooLarge
HasCause source item told refusals.Shelf = Unit {0}
HasCause source item told refusals.Memory = Unit {0}
HasCause source item told refusal = (bytes : List ℕ) × HasText source 0 bytes told × HasTextCause source bytes item refusal

abbrev pub kind_name : RefusedKind → List ℕ
kind_name kinds.BadByte = codes "BadByte"
kind_name kinds.LineLong = codes "LineLong"
kind_name kinds.OpenLiteral = codes "OpenLiteral"
kind_name kinds.BadContinuation = codes "BadContinuation"
kind_name kinds.WordLong = codes "WordLong"
kind_name kinds.CopyShape = codes "CopyShape"
kind_name kinds.CopyMissing = codes "CopyMissing"
kind_name kinds.NestedCopy = codes "NestedCopy"
kind_name kinds.UnitShape = codes "UnitShape"
kind_name kinds.NestDeep = codes "NestDeep"
kind_name kinds.PictureFull = codes "PictureFull"
kind_name kinds.PictureShape = codes "PictureShape"
kind_name kinds.TooManyDigits = codes "TooManyDigits"
kind_name kinds.LayoutShape = codes "LayoutShape"
kind_name kinds.AreaFull = codes "AreaFull"
kind_name kinds.NameTwice = codes "NameTwice"
kind_name kinds.NameUnknown = codes "NameUnknown"
kind_name kinds.UseShape = codes "UseShape"

abbrev pub line_of : List ℕ → List ℕ → Refusal → List ℕ
line_of source item refusals.Missing = refused_name_line (codes "Missing") source
line_of source item refusals.TooLarge = refused_name_line (codes "TooLarge") source
line_of source item (refusals.At kind at) = refused_place_line (kind_name kind) source at.line at.column
line_of source item (refusals.FileUnknown name) = refused_name_line (codes "FileUnknown") name
line_of source item (refusals.RecordLengths name) = refused_name_line (codes "RecordLengths") name
line_of source item refusals.SeedUnknown = refused_name_line (codes "SeedUnknown") item
line_of source item refusals.Shelf = shelf_fault_line source
line_of source item refusals.Memory = []

abbrev pub status_of : Refusal → ℕ
status_of refusals.Shelf = 6
status_of refusals.Memory = 8
status_of _ = 3

-- the label lines, with status 1 where a byte has unlike labels, or the line of a refusal that has its cause
abbrev pub IsAnswer : List ℕ → List ℕ → Option Files → ℕ → List ℕ → Type 0
IsAnswer source item told status text =
    ((clean : Bool) × AreLabelsOf source item told clean text × (status ≡ (if clean then 0 else 1)))
    ⊎ ((refusal : Refusal) × HasCause source item told refusal × (status ≡ status_of refusal) × (text ≡ line_of source item refusal))

-- the answer is printed, or else the sink failed (7) or memory ran out (8)
abbrev pub IsAnswered : List ℕ → List ℕ → Option Files → Option (List ℕ) → Option (List ℕ) → ℕ → Type 0
IsAnswered source item told before after status =
    ((text : List ℕ) × IsPrinted text before after × IsAnswer source item told status text) ⊎ ((status ≡ 7) ⊎ (status ≡ 8))
