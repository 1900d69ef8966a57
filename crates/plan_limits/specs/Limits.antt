-- Limits by what shows them.
use Rattle.std.specs.Prelude.{ℕ, List}
use Rattle.y2k_base.specs.declared.place.BytePlace.{BytePlace}
use Rattle.y2k_base.specs.declared.word.Origin.{Origin}
use Rattle.plan_limits.specs.declared.limit.Limit.{Limit}
use Rattle.plan_limits.specs.declared.limit.LimitKind.{LimitKind}
use Rattle.plan_limits.specs.declared.limit.Kept.TheVariants as kept

abbrev pub place_limit : LimitKind → Origin → BytePlace → Limit
place_limit kind at place = record { kind = kind; at = at; kept = kept.Place place }

abbrev pub number_limit : LimitKind → Origin → ℕ → Limit
number_limit kind at number = record { kind = kind; at = at; kept = kept.Number number }

abbrev pub word_limit : LimitKind → Origin → List ℕ → Limit
word_limit kind at word = record { kind = kind; at = at; kept = kept.Word word }
