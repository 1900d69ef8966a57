-- The rules of a single operand: uses that no year may have, and what is plain by itself.
use Rattle.std.specs.Prelude.{ℕ, zero, suc, ◌+◌, ◌-◌, Bool, true, false, ◌==◌, min, List, [], ◌∷◌, ◌++◌, if◌then◌else◌}
use Rattle.y2k_base.specs.declared.picture.Run.{Run}
use Rattle.y2k_base.specs.declared.place.Span.{Span}
use Rattle.y2k_base.specs.declared.word.Origin.{Origin}
use Rattle.decimal_bytes.specs.declared.form.NumForm.{NumForm}
use Rattle.cobol_syntax.specs.declared.program.Usage.{Usage}
use Rattle.cobol_syntax.specs.declared.program.Usage.TheVariants as usage
use Rattle.data_layout.specs.declared.item.Item.{Item}
use Rattle.operand_kinds.specs.declared.kind.Kind.{Kind}
use Rattle.operand_kinds.specs.declared.kind.Kind.TheVariants as kind
use Rattle.operand_kinds.specs.Kinds.{is_aligned, kind_of_item}
use Rattle.year_labels.specs.declared.label.Role.TheVariants as roles
use Rattle.year_labels.specs.declared.rule.Rule.{Rule}
use Rattle.year_labels.specs.declared.rule.Rule.TheVariants as rules
use Rattle.year_labels.specs.declared.rule.View.{View}
use Rattle.year_labels.specs.declared.rule.View.TheVariants as views
use Rattle.year_labels.specs.declared.rule.RuleForm.{RuleForm}
use Rattle.year_labels.specs.declared.rule.RuleForm.TheVariants as forms
use Rattle.year_labels.specs.declared.rule.RuleInst.{RuleInst}
use Rattle.date_views.specs.declared.side.Side.{Side}
use Rattle.date_views.specs.declared.side.Side.TheVariants as sides
use Rattle.date_views.specs.Views.{each_byte, decimal_view, runs_of}

abbrev pub inst : Rule → Origin → RuleForm → RuleInst
inst rule at form = record { rule = rule; at = at; form = form }

abbrev pub is_plain : View → Bool
is_plain (views.Bytes span powers) = false
is_plain (views.Packed span digits) = false
is_plain views.Plain = true

-- at most so many bytes from the front
abbrev pub front : Span → ℕ → Span
front span most = record { area = span.area; offset = span.offset; length = min span.length most }

-- all bytes are plain
abbrev pub plain_bytes : Rule → Origin → Span → List RuleInst
plain_bytes rule at span = inst rule at (forms.GiveDigit (each_byte span) 0 roles.Plain) ∷ []

-- all digits are plain
abbrev pub plain_digits : Rule → Origin → View → List RuleInst
plain_digits rule at view = if is_plain view then [] else inst rule at (forms.Digits views.Plain view) ∷ []

-- the operand is plain: each digit of a number or an edited item, each byte of anything else
abbrev pub use_rules : Rule → Origin → Side → List RuleInst
use_rules rule at (sides.Known field) =
    if is_aligned field.kind then plain_digits rule at field.view else plain_bytes rule at field.span
use_rules rule at (sides.Moving most) = []

-- so many digits, from that power on, are plain
abbrev pub plain_powers : Origin → View → ℕ → ℕ → List RuleInst
plain_powers at view low zero = []
plain_powers at view low (suc n) = plain_powers at view low n ++ inst rules.Digits at (forms.GiveDigit view (low + n) roles.Plain) ∷ []

-- the digits of the powers from low on and below high are plain
abbrev pub plain_between : Origin → View → ℕ → ℕ → List RuleInst
plain_between at view low high = if is_plain view then [] else plain_powers at view low (high - low)

-- digits after the point
abbrev pub decimal_rules : Origin → NumForm → List Run → Span → List RuleInst
decimal_rules at form runs span =
    if form.scale == 0 then [] else inst rules.Plain at (forms.GiveDigit (decimal_view form runs span) 0 roles.Plain) ∷ []

abbrev pub number_rules : Origin → Usage → NumForm → List Run → Span → List RuleInst
number_rules at usage.Display form runs span = if form.signed then plain_bytes rules.Plain at span else decimal_rules at form runs span
number_rules at usage.Packed form runs span = if form.scale == 0 then [] else plain_bytes rules.Plain at span
number_rules at usage.Binary form runs span = plain_bytes rules.Plain at span

-- what is plain wherever it is used: the bytes of signed DISPLAY numbers, of binary numbers and of packed numbers with
-- decimals, and digits after the point
abbrev pub kind_rules : Origin → Kind → List Run → Span → List RuleInst
kind_rules at kind.Group runs span = []
kind_rules at kind.Text runs span = []
kind_rules at (kind.Edited form) runs span = decimal_rules at form runs span
kind_rules at (kind.Number usage form) runs span = number_rules at usage form runs span

abbrev pub item_rules : Origin → Item → List RuleInst
item_rules at item = kind_rules at (kind_of_item item) (runs_of item.picture) item.span
