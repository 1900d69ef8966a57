-- The rules of a sum and of a difference of two operands.
use Rattle.std.specs.Prelude.{ℕ, Bool, true, false, not, ◌&&◌, ◌==◌, List, [], ◌∷◌, ◌++◌, Option, Some, None, if◌then◌else◌}
use Rattle.y2k_base.specs.declared.word.Origin.{Origin}
use Rattle.decimal_bytes.specs.declared.form.NumForm.{NumForm}
use Rattle.cobol_syntax.specs.declared.program.Usage.{Usage}
use Rattle.cobol_syntax.specs.declared.program.Usage.TheVariants as usage
use Rattle.operand_kinds.specs.declared.kind.Kind.{Kind}
use Rattle.operand_kinds.specs.declared.kind.Kind.TheVariants as kind
use Rattle.year_labels.specs.declared.rule.Rule.{Rule}
use Rattle.year_labels.specs.declared.rule.Rule.TheVariants as rules
use Rattle.year_labels.specs.declared.rule.View.{View}
use Rattle.year_labels.specs.declared.rule.View.TheVariants as views
use Rattle.year_labels.specs.declared.rule.RuleForm.TheVariants as forms
use Rattle.year_labels.specs.declared.rule.RuleInst.{RuleInst}
use Rattle.date_views.specs.declared.side.Field.{Field}
use Rattle.date_views.specs.declared.side.Side.{Side}
use Rattle.date_views.specs.declared.side.Side.TheVariants as sides
use Rattle.date_views.specs.Uses.{inst, use_rules}

-- unsigned in DISPLAY usage, or packed
abbrev pub may_show_years : Usage → NumForm → Bool
may_show_years usage.Display form = not form.signed
may_show_years usage.Packed form = true
may_show_years usage.Binary form = false

-- an integer of two digits that may be a year
abbrev pub takes_part : Kind → Bool
takes_part kind.Group = false
takes_part kind.Text = false
takes_part (kind.Edited form) = false
takes_part (kind.Number usage form) = (form.digits == 2 && form.scale == 0) && may_show_years usage form

abbrev pub field_part : Field → View
field_part field = if takes_part field.kind then field.view else views.Plain

-- how an operand takes part: as it is, or as one whose digits are plain. A literal, which is no side, is plain
abbrev pub part : Option Side → View
part None = views.Plain
part (Some (sides.Known field)) = field_part field
part (Some (sides.Moving most)) = views.Plain

abbrev pub stands_aside : Side → Bool
stands_aside (sides.Known field) = not (takes_part field.kind)
stands_aside (sides.Moving most) = false

-- an item that doesn't take part as it is, is plain
abbrev pub aside : Rule → Origin → Option Side → List RuleInst
aside rule at None = []
aside rule at (Some side) = if stands_aside side then use_rules rule at side else []

abbrev pub all_aside : Rule → Origin → Option Side → Option Side → Option Side → List RuleInst
all_aside rule at a b c = aside rule at a ++ (aside rule at b ++ aside rule at c)

-- c = a + b
abbrev pub sum_rules : Origin → Option Side → Option Side → Option Side → List RuleInst
sum_rules at a b c = all_aside rules.Add at a b c ++ inst rules.Add at (forms.Sum (part a) (part b) (part c)) ∷ []

-- c = b - a
abbrev pub difference_rules : Origin → Option Side → Option Side → Option Side → List RuleInst
difference_rules at a b c = all_aside rules.Subtract at a b c ++ inst rules.Subtract at (forms.Difference (part a) (part b) (part c)) ∷ []
