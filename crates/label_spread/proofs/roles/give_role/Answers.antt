use Rattle.std.proofs.Common.{◌≡◌, subst, List, Option, ℕ}
use Rattle.year_labels.specs.declared.label.Fact.{Fact}
use Rattle.y2k_base.specs.declared.place.Span.{Span}
use Rattle.year_labels.specs.declared.label.Label.{Label}
use Rattle.year_labels.specs.Facts.{fact_in}
use Rattle.year_labels.specs.Roles.{HoldsPower}
use Rattle.label_spread.specs.Steps.{Adds}
use Rattle.label_spread.proofs.roles.give_role.Goals as goal

abbrev Labels : Span → List (Option ℕ) → ℕ → Label → List Fact → Fact → Type 0
Labels span powers power label known f = (i : ℕ) × HoldsPower powers i power × (f ≡ fact_in span i label)

pub returns-in_ok-label_bytes-in-Bytes : goal.returns-in_ok-label_bytes-in-Bytes
returns-in_ok-label_bytes-in-Bytes c =
    rw c.in-Bytes.is
    (subst (λ (l : Label). Adds (Labels c.in-Bytes.span c.in-Bytes.powers c.args.power l) c.args.known.now c.label_bytes.new.known) c.label_for-label.ensures
    (subst (λ (ps : List (Option ℕ)). Adds (Labels c.in-Bytes.span ps c.args.power c.label_for-label.result) c.args.known.now c.label_bytes.new.known) c.items.ensures c.in_ok-label_bytes-in-Bytes.ensures))
