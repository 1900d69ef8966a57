-- What is sent, stored where a place is.
use Rattle.std.specs.Prelude.{ℕ}
use Rattle.y2k_base.specs.declared.place.Span as code
use Rattle.program_meaning.specs.Kind.{Kind}
use Rattle.program_meaning.specs.Moves.{Sent, received}
use Rattle.program_meaning.specs.Storage.{Storage, View, write}
use Rattle.layout_reading.specs.Reading.{read_span}

-- a place of a kind with its bytes in areas, of which the first has this number
abbrev pub view_at : ℕ → Kind → code.Span → View
view_at first k span = record { kind = k; span = read_span first span }

abbrev pub stored : Storage → View → Sent → Storage
stored store v s = write store v.span (received v.kind v.span.count s)
