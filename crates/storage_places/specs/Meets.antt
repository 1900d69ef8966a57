-- A fault of the code as the fault that an answer is.
use Rattle.std.specs.Prelude.{◌≡◌}
use Rattle.program_meaning.specs.Answer.{Answer, Fails, Data, Range, Zero, Wide}
use Rattle.storage_places.specs.declared.fault.RunFault.{RunFault}
use Rattle.storage_places.specs.declared.fault.RunFault.TheVariants as fault

-- of a call that takes no memory
abbrev pub Meets : {A : Type 0} → Answer A → RunFault → Type 0
Meets answer fault.Data = answer ≡ Fails Data
Meets answer fault.Range = answer ≡ Fails Range
Meets answer fault.Zero = answer ≡ Fails Zero
Meets answer fault.Wide = answer ≡ Fails Wide
Meets answer fault.Memory = ⊥

-- of a call that may want memory
abbrev pub MayMeet : {A : Type 0} → Answer A → RunFault → Type 0
MayMeet answer fault.Data = answer ≡ Fails Data
MayMeet answer fault.Range = answer ≡ Fails Range
MayMeet answer fault.Zero = answer ≡ Fails Zero
MayMeet answer fault.Wide = answer ≡ Fails Wide
MayMeet answer fault.Memory = Unit {0}
