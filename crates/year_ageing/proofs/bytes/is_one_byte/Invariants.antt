use Rattle.std.proofs.Common.{◌≡◌, drop}
use Rattle.year_image.specs.Packing.{all_equal}
use Rattle.year_ageing.proofs.bytes.is_one_byte.Given as goal

abbrev pub invariant-loop-byte : goal.invariant-loop-byte
invariant-loop-byte l = all_equal l.first (drop l.byte-index l.bytes) ≡ all_equal l.first l.bytes
