-- Faults of what is done one after the other.
use Rattle.std.proofs.Common.{◌≡◌, Result, Ok, Err, IfErr, refl, ap, sym, subst}
use Rattle.std.specs.Result.{IsErrAnd}
use Rattle.program_meaning.specs.Answer.{Answer, Gives, Fails, and_then}
use Rattle.storage_places.specs.declared.fault.RunFault.{RunFault}
use Rattle.storage_places.specs.declared.fault.RunFault.TheVariants as fault
use Rattle.storage_places.specs.Meets.{Meets, MayMeet}

-- of a call that takes no memory
pub meets : {A : Type 0} (a : Answer A) (e : RunFault) → Meets a e → MayMeet a e
meets a fault.Data h = h
meets a fault.Range h = h
meets a fault.Zero h = h
meets a fault.Wide h = h
meets a fault.Memory h = absurd h

-- what comes first fails
pub fails_first : {A B : Type 0} (a : Answer A) (f : A → Answer B) (e : RunFault) → MayMeet a e → MayMeet (and_then a f) e
fails_first {B = B} a f fault.Data h = ap (λ x. and_then {B = B} x f) h
fails_first {B = B} a f fault.Range h = ap (λ x. and_then {B = B} x f) h
fails_first {B = B} a f fault.Zero h = ap (λ x. and_then {B = B} x f) h
fails_first {B = B} a f fault.Wide h = ap (λ x. and_then {B = B} x f) h
fails_first a f fault.Memory h = h

-- what comes then fails
pub fails_then : {A B : Type 0} (a : Answer A) (f : A → Answer B) (x : A) (e : RunFault) → a ≡ Gives x → MayMeet (f x) e → MayMeet (and_then a f) e
fails_then {B = B} a f x e gives h = subst (λ y. MayMeet (and_then {B = B} y f) e) (sym gives) h

-- both give
pub gives_then : {A B : Type 0} (a : Answer A) (f : A → Answer B) (x : A) (y : B) → a ≡ Gives x → f x ≡ Gives y → and_then a f ≡ Gives y
gives_then {B = B} a f x y gives h = subst (λ z. and_then {B = B} z f ≡ Gives y) (sym gives) h

-- the same answer in another form
pub fails_by : {A : Type 0} (a b : Answer A) (e : RunFault) → a ≡ b → MayMeet b e → MayMeet a e
fails_by a b e same h = subst (λ x. MayMeet x e) (sym same) h

pub meets_by : {A : Type 0} (a b : Answer A) (e : RunFault) → a ≡ b → Meets a e → MayMeet b e
meets_by a b e same h = subst (λ x. MayMeet x e) same (meets a e h)

-- what is made of an answer, and then what depends on it
pub then_made : {A B C : Type 0} (a : Answer A) (f : A → B) (g : B → Answer C) → and_then a (λ x. g (f x)) ≡ and_then (and_then a (λ x. Gives (f x))) g
then_made (Gives x) f g = refl
then_made (Fails e) f g = refl

-- an error that is handed on
pub err_carried : {T : Type 0} (P : RunFault → Type 0) (result : Result T RunFault) (e : RunFault) → IsErrAnd result (λ x. x ≡ e) → P e → IfErr result P
err_carried P (Ok x) e h p = tt
err_carried P (Err x) e h p = subst P (sym h) p
