-- The rules of a move and of a comparison of two operands.
use Rattle.std.specs.Prelude.{ℕ, zero, suc, ◌+◌, ◌-◌, ◌==◌, ◌&&◌, min, List, [], ◌∷◌, ◌++◌, if◌then◌else◌}
use Rattle.y2k_base.specs.declared.place.Span.{Span}
use Rattle.y2k_base.specs.declared.word.Origin.{Origin}
use Rattle.cobol_syntax.specs.declared.statement.Register.{Register}
use Rattle.cobol_syntax.specs.declared.statement.Register.TheVariants as register
use Rattle.operand_kinds.specs.Kinds.{is_aligned, copies_bytes, compares_values}
use Rattle.year_labels.specs.declared.label.Role.{Role}
use Rattle.year_labels.specs.declared.label.Role.TheVariants as roles
use Rattle.year_labels.specs.declared.rule.Rule.TheVariants as rules
use Rattle.year_labels.specs.declared.rule.View.{View}
use Rattle.year_labels.specs.declared.rule.RuleForm.TheVariants as forms
use Rattle.year_labels.specs.declared.rule.RuleInst.{RuleInst}
use Rattle.date_views.specs.declared.side.Field.{Field}
use Rattle.date_views.specs.declared.side.Side.{Side}
use Rattle.date_views.specs.declared.side.Side.TheVariants as sides
use Rattle.date_views.specs.Views.{all_digits}
use Rattle.date_views.specs.Sides.{kind_of}
use Rattle.date_views.specs.Uses.{inst, is_plain, front, plain_bytes, plain_between}

-- byte i of both is alike, up to the shorter. A reference that may stand anywhere makes plain each byte that it may meet
abbrev pub span_rules : Origin → Span → Side → List RuleInst
span_rules at a (sides.Known b) = inst rules.Bytes at (forms.Alike (front a b.span.length) (front b.span a.length)) ∷ []
span_rules at a (sides.Moving most) = plain_bytes rules.Bytes at (front a most)

abbrev pub copy_rules : Origin → Side → Side → List RuleInst
copy_rules at (sides.Known a) to = span_rules at a.span to
copy_rules at (sides.Moving most) (sides.Known b) = plain_bytes rules.Bytes at (front b.span most)
copy_rules at (sides.Moving most) (sides.Moving other) = []

-- the digits of one power are alike. A view whose digits are all plain makes plain as many digits of the other as it has
abbrev pub alike : Origin → View → ℕ → View → ℕ → List RuleInst
alike at a m b n =
    if is_plain a then plain_between at b 0 m
    else (if is_plain b then plain_between at a 0 n else inst rules.Digits at (forms.Digits a b) ∷ [])

-- to a number or an edited item: a digit of a year past those of the sender is plain too
abbrev pub aligned_rules : Origin → Field → Field → List RuleInst
aligned_rules at a b = alike at a.view a.digits b.view b.digits ++ inst rules.Fill at (forms.Fill b.view a.digits) ∷ []

-- a number to a text: digit i from the left and byte i
abbrev pub spelled_rules : Origin → Field → Field → List RuleInst
spelled_rules at a b = alike at a.view a.digits (all_digits (front b.span a.digits) a.digits) a.digits

-- a reference that may stand anywhere to a number or an edited item: it makes plain the digits that it may have
abbrev pub moving_rules : Origin → Field → ℕ → List RuleInst
moving_rules at b digits = plain_between at b.view 0 digits ++ inst rules.Fill at (forms.Fill b.view digits) ∷ []

-- a move that isn't a copy of bytes
abbrev pub digit_rules : Origin → Side → Side → List RuleInst
digit_rules at (sides.Known a) (sides.Known b) = if is_aligned b.kind then aligned_rules at a b else spelled_rules at a b
digit_rules at (sides.Known a) (sides.Moving most) = plain_between at a.view (a.digits - most) a.digits
digit_rules at (sides.Moving most) (sides.Known b) = moving_rules at b (min b.digits most)
digit_rules at (sides.Moving most) (sides.Moving other) = []

-- a move of an item or a reference
abbrev pub move_rules : Origin → Side → Side → List RuleInst
move_rules at from to = if copies_bytes (kind_of from) (kind_of to) then copy_rules at from to else digit_rules at from to

-- two numbers: a digit of a year at a power that the other lacks is plain too
abbrev pub value_rules : Origin → Side → Side → List RuleInst
value_rules at (sides.Known a) (sides.Known b) =
    alike at a.view a.digits b.view b.digits ++ inst rules.Excess at (forms.Fill a.view b.digits) ∷ inst rules.Excess at (forms.Fill b.view a.digits) ∷ []
value_rules at (sides.Known a) (sides.Moving most) = []
value_rules at (sides.Moving most) right = []

-- a comparison of two items or references
abbrev pub compare_rules : Origin → Side → Side → List RuleInst
compare_rules at left right = if compares_values (kind_of left) (kind_of right) then value_rules at left right else copy_rules at left right

-- YYMMDD, YYDDD, and a time without a year
abbrev pub register_digits : Register → ℕ
register_digits register.Date = 6
register_digits register.Day = 5
register_digits register.Time = 8

-- a year with its units digit at that power
abbrev pub year_role : ℕ → ℕ → Role
year_role unit power = if power == unit + 1 then roles.Tens else (if power == unit then roles.Units else roles.Plain)

abbrev pub register_role : Register → ℕ → Role
register_role register.Date power = year_role 4 power
register_role register.Day power = year_role 3 power
register_role register.Time power = roles.Plain

-- the roles of so many of its digits, from the units on
abbrev pub given : Origin → Register → View → ℕ → List RuleInst
given at from view zero = []
given at from view (suc n) = given at from view n ++ inst rules.Register at (forms.GiveDigit view n (register_role from n)) ∷ []

abbrev pub register_field : Origin → Register → Field → ℕ → List RuleInst
register_field at from b digits =
    if is_aligned b.kind then given at from b.view digits ++ inst rules.Fill at (forms.Fill b.view digits) ∷ []
    else given at from (all_digits (front b.span digits) digits) digits

-- ACCEPT of a register
abbrev pub register_rules : Origin → Register → Side → List RuleInst
register_rules at from (sides.Known b) = register_field at from b (register_digits from)
register_rules at from (sides.Moving most) = []
