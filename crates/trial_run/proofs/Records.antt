-- The record that a name means.
use Rattle.std.specs.Prelude.{◌≡◌, ◌≢◌, ℕ, List, [], ◌∷◌}
use Rattle.std.proofs.Common.{ap, sym, ◌∙◌}
use Rattle.data_layout.specs.Find.{meaning}
use Rattle.data_layout.specs.declared.found.Found.TheVariants as found
use Rattle.layout_reading.proofs.Seen.{item-at}
use Rattle.layout_reading.specs.Names.{unnamed}
use Rattle.layout_reading.specs.Reading.{read_item, read_span, first_area}
use Rattle.layout_reading.specs.Values.{values_of, value_at}
use Rattle.program_meaning.specs.Tree.{Name}
use Rattle.y2k_base.specs.declared.place.Span.{Span}
use Rattle.trial_run.specs.Calls.{IsRecord}
use Rattle.trial_run.specs.Plans.{IsPlan, IsSpanOf}
use Rattle.trial_run.specs.declared.plan.Plan.{Plan}

pub is_record : (plan : Plan) (sound : IsPlan plan) (name : Name) (names : List Name) (k : ℕ) (span : Span) → name ≢ unnamed → names ≡ name ∷ []
    → meaning plan.layout.now names ≡ found.Item k → IsSpanOf plan.layout.now k span → IsRecord plan name span
is_record plan sound name names k span word one means there = record {
  item = read_item plan.layout.now there.item (value_at (values_of plan.program.now) k);
  means = item-at plan.program.now plan.layout.now (first_area plan.layout.now.areas) sound.numbered name [] word k there.item (ap (meaning plan.layout.now) (sym one) ∙ means) there.is;
  here = ap (read_span (first_area plan.layout.now.areas)) there.here;
}
