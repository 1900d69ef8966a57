-- A fault that is met first is the fault of all that comes after it.
use Rattle.std.proofs.Common.{◌≡◌, sym, ap, subst}
use Rattle.std.specs.Prelude.{IfErr, IsErrAnd, Result, Ok, Err}
use Rattle.cobol_syntax.specs.declared.program.Program.{Program}
use Rattle.data_layout.specs.declared.item.Layout.{Layout}
use Rattle.layout_reading.specs.Reading.{read_layout}
use Rattle.program_meaning.specs.Answer.{Answer, and_then}
use Rattle.program_meaning.specs.Kind.{Kind}
use Rattle.program_meaning.specs.Layout as meant
use Rattle.program_meaning.specs.Moves as moves
use Rattle.program_meaning.specs.Storage.{Storage, kind_of}
use Rattle.program_meaning.specs.Tree.{Operand, Place}
use Rattle.place_table.specs.Tables.{Failed}
use Rattle.storage_places.specs.declared.fault.RunFault.{RunFault}
use Rattle.storage_places.specs.declared.fault.RunFault.TheVariants as fault
use Rattle.storage_places.specs.Meets.{MayMeet}
use Rattle.value_moves.specs.Given.{receiver_of, IsGiven}
use Rattle.value_moves.specs.declared.sent.Receiver.{Receiver}
use Rattle.value_moves.specs.declared.sent.Sent.{Sent}
use Rattle.storage_moves.specs.Given.{IsGivenTo, FailsTo}

pub may-meet-then : {A B : Type 0} (a : Answer A) (f : A → Answer B) (e : RunFault) → MayMeet a e → MayMeet (and_then a f) e
may-meet-then {A} {B} a f fault.Data met = ap (λ (x : Answer A). and_then x f) met
may-meet-then {A} {B} a f fault.Range met = ap (λ (x : Answer A). and_then x f) met
may-meet-then {A} {B} a f fault.Zero met = ap (λ (x : Answer A). and_then x f) met
may-meet-then {A} {B} a f fault.Wide met = ap (λ (x : Answer A). and_then x f) met
may-meet-then {A} {B} a f fault.Memory met = met

-- a fault that is passed on
pub carried : {T : Type 0} (P : RunFault → Type 0) (result : Result T RunFault) (e : RunFault) → IsErrAnd result (λ f. f ≡ e) → P e → IfErr result P
carried P (Ok x) e h p = tt
carried P (Err f) e h p = subst P (sym h) p

-- what comes first fails so, and so does all
pub fails-first : {A B : Type 0} (layout : Layout) (first : meant.Layout → Answer A) (rest : meant.Layout → A → Answer B) (e : RunFault)
    → Failed layout first e → Failed layout (λ l. and_then (first l) (rest l)) e
fails-first layout first rest e failed = λ program. may-meet-then _ _ e (failed program)

module _ (layout : Layout) (store : Storage) (from : Operand) (to : Place) (class : Receiver) (e : RunFault)
    (is : (program : Program) → receiver_of (kind_of (read_layout program layout) to) ≡ class) where
  -- nothing is sent, and so nothing moved
  pub unsent : (other : Layout) → other ≡ layout → FailsTo other store from class e → Failed layout (λ l. moves.move l store from to) e
  unsent other same fails = λ program.
      let l : meant.Layout = read_layout program layout in
      let k : Kind = kind_of l to in
      may-meet-then (moves.sent l store from k) (λ (s : moves.Sent). moves.deliver l store to s) e (subst (λ (x : Layout). FailsTo x store from class e) same fails program k (is program))

  -- what is sent is not delivered
  pub undelivered : (one two : Layout) (sent : Sent) → one ≡ layout → two ≡ layout → IsGivenTo one store from class sent
      → ((m : moves.Sent) → Failed two (λ l. moves.deliver l store to m) e) → Failed layout (λ l. moves.move l store from to) e
  undelivered one two sent first second given fails = λ program.
      let l : meant.Layout = read_layout program layout in
      let k : Kind = kind_of l to in
      let g : IsGiven sent (moves.sent l store from k) = subst (λ (x : Layout). IsGivenTo x store from class sent) first given program k (is program) in
      let delivered : MayMeet (moves.deliver l store to g.meant) e = subst (λ (x : Layout). Failed x (λ l. moves.deliver l store to g.meant) e) second (fails g.meant) program in
      subst (λ (a : Answer Storage). MayMeet a e) (sym (ap (λ (a : Answer moves.Sent). and_then a (λ (s : moves.Sent). moves.deliver l store to s)) g.gives)) delivered
