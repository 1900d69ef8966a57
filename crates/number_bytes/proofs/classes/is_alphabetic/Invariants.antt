use Rattle.std.proofs.Common.{◌≡◌, drop}
use Rattle.program_meaning.specs.Compare.{is_alphabetic}
use Rattle.number_bytes.proofs.classes.is_alphabetic.Given as goal

abbrev pub invariant-loop-byte : goal.invariant-loop-byte
invariant-loop-byte l = is_alphabetic (drop l.byte-index l.bytes) ≡ is_alphabetic l.bytes
