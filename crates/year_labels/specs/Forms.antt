-- What follows by a rule.
use Rattle.std.specs.Prelude.{◌≡◌, ◌⊎◌, ℕ, ◌+◌, ◌/◌, ◌<◌, ◌≤◌, ◌^◌, List, length, Contains}
use Rattle.y2k_base.specs.declared.place.Span.{Span}
use Rattle.year_labels.specs.declared.label.Fact.{Fact}
use Rattle.year_labels.specs.declared.label.Label.{Label}
use Rattle.year_labels.specs.declared.label.Role.{Role}
use Rattle.year_labels.specs.declared.label.Role.TheVariants as roles
use Rattle.case_tables.specs.declared.row_table.Row.{Row}
use Rattle.year_labels.specs.declared.rule.View.{View}
use Rattle.year_labels.specs.declared.rule.View.TheVariants as views
use Rattle.year_labels.specs.declared.rule.RuleForm.{RuleForm}
use Rattle.year_labels.specs.declared.rule.RuleForm.TheVariants as forms
use Rattle.year_labels.specs.Facts.{fact_in}
use Rattle.year_labels.specs.Roles.{HasRole, Gives}
use Rattle.case_tables.specs.Rows.{add_rows, sub_rows}
use Rattle.year_labels.specs.Operands.{IsByRow}

-- a byte of the one span bears the label, and the fact is that the same byte of the other does
abbrev pub IsCopied : Span → Span → List Fact → Fact → Type 0
IsCopied a b known f = (i : ℕ) × (label : Label) × (i < a.length) × Contains known (fact_in a i label) × (f ≡ fact_in b i label)

-- a digit of the one view has a role, and giving it to the digit of the same power of the other adds the fact
abbrev pub IsPassed : View → View → List Fact → Fact → Type 0
IsPassed a b known f = (power : ℕ) × (role : Role) × HasRole known a power role × Gives known b power role f

-- a digit of a year stands at that power
abbrev pub HasYearDigit : List Fact → View → ℕ → Type 0
HasYearDigit known view power = HasRole known view power roles.Tens ⊎ HasRole known view power roles.Units

-- a digit of a year stands at a power from that one on, and making that digit plain adds the fact
abbrev pub IsFilled : View → ℕ → List Fact → Fact → Type 0
IsFilled view from known f = (power : ℕ) × (from ≤ power) × HasYearDigit known view power × Gives known view power roles.Plain f

-- the fact follows by one of the rows
abbrev pub IsByRows : List Row → View → View → View → List Fact → Fact → Type 0
IsByRows rows a b c known f = (row : Row) × Contains rows row × IsByRow a b c row known f

-- the fact follows from the known ones by the rule
abbrev pub Follows : RuleForm → List Fact → Fact → Type 0
Follows (forms.Give fact) known f = f ≡ fact
Follows (forms.GiveDigit view power role) known f = Gives known view power role f
Follows (forms.Alike a b) known f = IsCopied a b known f ⊎ IsCopied b a known f
Follows (forms.Digits a b) known f = IsPassed a b known f ⊎ IsPassed b a known f
Follows (forms.Fill view from) known f = IsFilled view from known f
Follows (forms.Sum a b c) known f = IsByRows add_rows a b c known f
Follows (forms.Difference a b c) known f = IsByRows sub_rows a b c known f

-- the bytes of a span have offsets of 32 bits
abbrev pub IsPlaced : Span → Type 0
IsPlaced span = span.offset + span.length ≤ 2 ^ 32

-- each byte of a view of bytes has its power, or none; a packed number has two digits a byte, and half a byte for its sign
abbrev pub IsFitView : View → Type 0
IsFitView (views.Bytes span powers) = IsPlaced span × (length powers ≡ span.length)
IsFitView (views.Packed span digits) = IsPlaced span × (span.length ≡ digits / 2 + 1)
IsFitView views.Plain = Unit {0}

-- what the calls that take rules ask of them
abbrev pub IsFit : RuleForm → Type 0
IsFit (forms.Give fact) = Unit {0}
IsFit (forms.GiveDigit view power role) = IsFitView view
IsFit (forms.Alike a b) = IsPlaced a × IsPlaced b × (a.length ≡ b.length)
IsFit (forms.Digits a b) = IsFitView a × IsFitView b
IsFit (forms.Fill view from) = IsFitView view
IsFit (forms.Sum a b c) = IsFitView a × IsFitView b × IsFitView c
IsFit (forms.Difference a b c) = IsFitView a × IsFitView b × IsFitView c
