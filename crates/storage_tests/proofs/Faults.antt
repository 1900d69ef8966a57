-- A fault that is met at a part of what is computed is the fault of the whole.
use Rattle.std.proofs.Common.{◌≡◌, sym, ap, subst, Result, Err, IfErr}
use Rattle.data_layout.specs.declared.item.Layout.{Layout}
use Rattle.program_meaning.specs.Answer.{Answer, Gives, and_then}
use Rattle.program_meaning.specs.Layout as meant
use Rattle.storage_places.specs.declared.fault.RunFault.{RunFault}
use Rattle.storage_places.specs.declared.fault.RunFault.TheVariants as fault
use Rattle.storage_places.specs.Meets.{Meets, MayMeet}
use Rattle.place_table.specs.Tables.{Gave, Failed}

-- a fault of the first is that of both
pub fails-first : {A B : Type 0} (a : Answer A) (f : A → Answer B) (e : RunFault) → MayMeet a e → MayMeet (and_then a f) e
fails-first {A} {B} a f fault.Data h = ap (λ (x : Answer A). and_then x f) h
fails-first {A} {B} a f fault.Range h = ap (λ (x : Answer A). and_then x f) h
fails-first {A} {B} a f fault.Zero h = ap (λ (x : Answer A). and_then x f) h
fails-first {A} {B} a f fault.Wide h = ap (λ (x : Answer A). and_then x f) h
fails-first {A} {B} a f fault.Memory h = tt

-- where the first gives what it gives, a fault of the second is that of both
pub fails-then : {A B : Type 0} (a : Answer A) (f : A → Answer B) (x : A) (e : RunFault) → a ≡ Gives x → MayMeet (f x) e → MayMeet (and_then a f) e
fails-then {A} {B} a f x e gives h = subst (λ (z : Answer A). MayMeet (and_then z f) e) (sym gives) h

pub same-fault : {A : Type 0} (a b : Answer A) (e : RunFault) → a ≡ b → MayMeet b e → MayMeet a e
same-fault {A} a b e same h = subst (λ (z : Answer A). MayMeet z e) (sym same) h

pub same-meets : {A : Type 0} (a b : Answer A) (e : RunFault) → a ≡ b → Meets b e → Meets a e
same-meets {A} a b e same h = subst (λ (z : Answer A). Meets z e) (sym same) h

pub meets-may : {A : Type 0} (a : Answer A) (e : RunFault) → Meets a e → MayMeet a e
meets-may a fault.Data h = h
meets-may a fault.Range h = h
meets-may a fault.Zero h = h
meets-may a fault.Wide h = h
meets-may a fault.Memory h = tt

-- the layout of places that have grown is that from before
pub failed-before : {A : Type 0} (m : meant.Layout → Answer A) (new old : Layout) (e : RunFault) → new ≡ old → Failed new m e → Failed old m e
failed-before m new old e same h = subst (λ (l : Layout). Failed l m e) same h

pub gave-before : {A : Type 0} (m : meant.Layout → Answer A) (new old : Layout) (a : A) → new ≡ old → Gave new m a → Gave old m a
gave-before m new old a same h = subst (λ (l : Layout). Gave l m a) same h

-- what is answered where a call before met a fault
pub exits : {A : Type 0} (r : Result A RunFault) (P : RunFault → Type 0) (e : RunFault) → r ≡ Err e → P e → IfErr r P
exits {A} r P e same h = subst (λ (x : Result A RunFault). IfErr x P) (sym same) h

-- a fault at what stands for another
pub failed-at : {A X : Type 0} (m : X → meant.Layout → Answer A) (x y : X) (layout : Layout) (e : RunFault) → x ≡ y → Failed layout (m y) e → Failed layout (m x) e
failed-at {A} {X} m x y layout e same h = subst (λ (z : X). Failed layout (m z) e) (sym same) h
