use Rattle.std.proofs.Common.{◌≡◌, true, false, length}
use Rattle.fixed_format.specs.Runs.{has_letter}
use Rattle.fixed_format.specs.Words.{pieces, pieces_of}
use Rattle.fixed_format.specs.Scanning.{read_parts}
use Rattle.fixed_format.proofs.scan.read_pieces.Given as goal

abbrev pub invariant-loop-rest : goal.invariant-loop-rest
invariant-loop-rest l =
    (read_parts l.file l.is_cut l.found (pieces (length l.rest) l.found.expected l.behind_gap l.rest)
    ≡ read_parts l.file l.is_cut l.fn.start (pieces_of l.fn.start.expected l.chars))
    × (l.unlettered ≡ true → has_letter l.rest ≡ false)

abbrev pub decreases-loop-rest : goal.decreases-loop-rest
decreases-loop-rest l = length l.rest
