use Rattle.std.proofs.Common.{◌≡◌, ◌<◌, ℕ, rules, ap, sym, ◌∙◌, subst}
use Rattle.cobol_syntax.specs.declared.expr.Expr.{size-Expr}
use Rattle.data_layout.specs.declared.item.Layout.{Layout}
use Rattle.layout_reading.specs.Reading.{read_layout}
use Rattle.number_bytes.specs.Held.{read_scaled}
use Rattle.place_table.specs.Tables.{layout_of, Failed}
use Rattle.program_meaning.specs.Answer.{Answer, Gives}
use Rattle.program_meaning.specs.Arithmetic as meant
use Rattle.program_meaning.specs.Storage.{Storage}
use Rattle.storage_places.specs.declared.fault.RunFault.{RunFault}
use Rattle.storage_places.specs.Held.{held}
use Rattle.storage_places.specs.Meets.{MayMeet}
use Rattle.tree_reading.specs.Reading.{read_expr, read_operand}
use Rattle.storage_sums.specs.declared.chain.Term.{Term}
use Rattle.storage_sums.specs.Chains.{operated, all_operated, size-Term}
use Rattle.storage_sums.proofs.ChainLaws.{below_popped, value_whole, value_popped, fails_through}
use Rattle.storage_sums.proofs.FailLaws.{fails_first, fails_then, fails_by, meets_by, err_carried}
use Rattle.storage_sums.proofs.GrowLaws.{grown_again, still_storage}
use Rattle.storage_sums.proofs.values.+value.Goals as goal

-- how an operation on a number fails
abbrev operation_fails : Layout → Storage → meant.Scaled → Term → RunFault → Type 0
operation_fails places store first t e = Failed places (λ l. operated l store t (Gives first)) e

pub operated-returns-in_err-second-in-Add-clause-err :
    goal.operated-returns-in_err-second-in-Add-clause-err
operated-returns-in_err-second-in-Add-clause-err t c =
    let e : RunFault = c.in_err-second-in-Add.field-0.0 in
    let fails : Term → RunFault → Type 0 = operation_fails (layout_of c.args.places.now) (held c.args.storage.now) (read_scaled c.args.first) in
    err_carried (fails c.args.term) c.from_residual-in_err-second-in-Add.result e c.from_residual-in_err-second-in-Add.ensures.1
    (subst (λ (x : Term). fails x e) (sym c.in-Add.is) (λ program. fails_first _ _ e (c.in_err-second-in-Add.ensures.err program)))

pub operated-returns-in_err-number-in-Add-clause-err :
    goal.operated-returns-in_err-number-in-Add-clause-err
operated-returns-in_err-number-in-Add-clause-err t c =
    let e : RunFault = c.in_err-number-in-Add.field-0.0 in
    let fails : Term → RunFault → Type 0 = operation_fails (layout_of c.args.places.now) (held c.args.storage.now) (read_scaled c.args.first) in
    err_carried (fails c.args.term) c.from_residual-in_err-number-in-Add.result e c.from_residual-in_err-number-in-Add.ensures.1
    (subst (λ (x : Term). fails x e) (sym c.in-Add.is)
    (λ program. fails_then _ _ (read_scaled c.in_ok-second-in-Add.second) e (c.in_ok-second-in-Add.ensures.ok program) (meets_by _ _ e c.add.ensures c.in_err-number-in-Add.ensures.err)))

pub operated-returns-in_err-second-in-Sub-clause-err :
    goal.operated-returns-in_err-second-in-Sub-clause-err
operated-returns-in_err-second-in-Sub-clause-err t c =
    let e : RunFault = c.in_err-second-in-Sub.field-0.0 in
    let fails : Term → RunFault → Type 0 = operation_fails (layout_of c.args.places.now) (held c.args.storage.now) (read_scaled c.args.first) in
    err_carried (fails c.args.term) c.from_residual-in_err-second-in-Sub.result e c.from_residual-in_err-second-in-Sub.ensures.1
    (subst (λ (x : Term). fails x e) (sym c.in-Sub.is) (λ program. fails_first _ _ e (c.in_err-second-in-Sub.ensures.err program)))

pub operated-returns-in_err-number-in-Sub-clause-err :
    goal.operated-returns-in_err-number-in-Sub-clause-err
operated-returns-in_err-number-in-Sub-clause-err t c =
    let e : RunFault = c.in_err-number-in-Sub.field-0.0 in
    let fails : Term → RunFault → Type 0 = operation_fails (layout_of c.args.places.now) (held c.args.storage.now) (read_scaled c.args.first) in
    err_carried (fails c.args.term) c.from_residual-in_err-number-in-Sub.result e c.from_residual-in_err-number-in-Sub.ensures.1
    (subst (λ (x : Term). fails x e) (sym c.in-Sub.is)
    (λ program. fails_then _ _ (read_scaled c.in_ok-second-in-Sub.second) e (c.in_ok-second-in-Sub.ensures.ok program) (meets_by _ _ e c.subtract.ensures c.in_err-number-in-Sub.ensures.err)))

pub operated-returns-in_err-second-in-Mul-clause-err :
    goal.operated-returns-in_err-second-in-Mul-clause-err
operated-returns-in_err-second-in-Mul-clause-err t c =
    let e : RunFault = c.in_err-second-in-Mul.field-0.0 in
    let fails : Term → RunFault → Type 0 = operation_fails (layout_of c.args.places.now) (held c.args.storage.now) (read_scaled c.args.first) in
    err_carried (fails c.args.term) c.from_residual-in_err-second-in-Mul.result e c.from_residual-in_err-second-in-Mul.ensures.1
    (subst (λ (x : Term). fails x e) (sym c.in-Mul.is) (λ program. fails_first _ _ e (c.in_err-second-in-Mul.ensures.err program)))

pub operated-returns-in_err-number-in-Mul-clause-err :
    goal.operated-returns-in_err-number-in-Mul-clause-err
operated-returns-in_err-number-in-Mul-clause-err t c =
    let e : RunFault = c.in_err-number-in-Mul.field-0.0 in
    let fails : Term → RunFault → Type 0 = operation_fails (layout_of c.args.places.now) (held c.args.storage.now) (read_scaled c.args.first) in
    err_carried (fails c.args.term) c.from_residual-in_err-number-in-Mul.result e c.from_residual-in_err-number-in-Mul.ensures.1
    (subst (λ (x : Term). fails x e) (sym c.in-Mul.is)
    (λ program. fails_then _ _ (read_scaled c.in_ok-second-in-Mul.second) e (c.in_ok-second-in-Mul.ensures.ok program) (meets_by _ _ e c.multiply.ensures c.in_err-number-in-Mul.ensures.err)))

pub operated-returns-in_err-second-in-Div-clause-err :
    goal.operated-returns-in_err-second-in-Div-clause-err
operated-returns-in_err-second-in-Div-clause-err t c =
    let e : RunFault = c.in_err-second-in-Div.field-0.0 in
    let fails : Term → RunFault → Type 0 = operation_fails (layout_of c.args.places.now) (held c.args.storage.now) (read_scaled c.args.first) in
    err_carried (fails c.args.term) c.from_residual-in_err-second-in-Div.result e c.from_residual-in_err-second-in-Div.ensures.1
    (subst (λ (x : Term). fails x e) (sym c.in-Div.is) (λ program. fails_first _ _ e (c.in_err-second-in-Div.ensures.err program)))

pub operated-returns-in_err-number-in-Div-clause-err :
    goal.operated-returns-in_err-number-in-Div-clause-err
operated-returns-in_err-number-in-Div-clause-err t c =
    let e : RunFault = c.in_err-number-in-Div.field-0.0 in
    let fails : Term → RunFault → Type 0 = operation_fails (layout_of c.args.places.now) (held c.args.storage.now) (read_scaled c.args.first) in
    err_carried (fails c.args.term) c.from_residual-in_err-number-in-Div.result e c.from_residual-in_err-number-in-Div.ensures.1
    (subst (λ (x : Term). fails x e) (sym c.in-Div.is)
    (λ program. fails_then _ _ (read_scaled c.in_ok-second-in-Div.second) e (c.in_ok-second-in-Div.ensures.ok program) (meets_by _ _ e c.divide.ensures c.in_err-number-in-Div.ensures.err)))

pub value-returns-in_err-number-in-Ok-clause-err : goal.value-returns-in_err-number-in-Ok-clause-err
value-returns-in_err-number-in-Ok-clause-err t c =
    let e : RunFault = c.in_err-number-in-Ok.field-0.0 in
    let store : Storage = held c.args.storage.now in
    let ts = c.in-Ok.chain.terms.items in
    err_carried (Failed (layout_of c.args.places.now) (λ l. meant.value l store (read_expr c.args.expr.now))) c.from_residual.result e c.from_residual.ensures.1
    (λ program.
    let l = read_layout program (layout_of c.args.places.now) in
    fails_by _ _ e (value_whole l store ts (read_operand c.in-Ok.chain.first.now) (read_expr c.args.expr.now) c.in-Ok.ensures.chain)
    (fails_through l store ts _ e (c.in_err-number-in-Ok.ensures.err program)))

pub value-loop-term-init : goal.value-loop-term-init
value-loop-term-init t c = (
  c.in-Ok.ensures.below,
  c.in_ok-number-in-Ok.ensures.grown,
  λ program.
      let l = read_layout program (layout_of c.args.places.now) in
      let store : Storage = held c.args.storage.now in
      let ts = c.in-Ok.chain.terms.items in
      value_whole l store ts (read_operand c.in-Ok.chain.first.now) (read_expr c.args.expr.now) c.in-Ok.ensures.chain ∙ ap (all_operated l store ts) (c.in_ok-number-in-Ok.ensures.ok program),
)

pub value-operated-requires : goal.value-operated-requires
value-operated-requires t c =
    let size : ℕ = size-Expr c.args.expr.now in
    let below : size-Term c.in-Some.term < size = (below_popped size c.loop-term.terms.items c.pop.new.self.items c.in-Some.term c.in-Some.ensures.items c.loop-term.invariant.0).1 in
    (search rules, still_storage c.args.places.now c.loop-term.places c.args.storage.now c.loop-term.invariant.1 c.requires.storage)

pub value-returns-in_err-number-in-Ok-2-clause-err : goal.value-returns-in_err-number-in-Ok-2-clause-err
value-returns-in_err-number-in-Ok-2-clause-err t c =
    let e : RunFault = c.in_err-number-in-Ok-2.field-0.0 in
    let store : Storage = held c.args.storage.now in
    let first : Answer meant.Scaled = Gives (read_scaled c.loop-term.number) in
    err_carried (Failed (layout_of c.args.places.now) (λ l. meant.value l store (read_expr c.args.expr.now))) c.from_residual-in_err-number-in-Ok-2.result e c.from_residual-in_err-number-in-Ok-2.ensures.1
    (λ program.
    let l = read_layout program (layout_of c.args.places.now) in
    let fails : MayMeet (operated l store c.in-Some.term first) e =
    subst (λ (places : Layout). MayMeet (operated (read_layout program places) store c.in-Some.term first) e) c.loop-term.invariant.1.layout (c.in_err-number-in-Ok-2.ensures.err program) in
    fails_by _ _ e (value_popped l store c.loop-term.terms.items c.pop.new.self.items c.in-Some.term first (meant.value l store (read_expr c.args.expr.now)) c.in-Some.ensures.items (c.loop-term.invariant.2 program))
    (fails_through l store c.pop.new.self.items _ e fails))

pub value-loop-term-preserved : goal.value-loop-term-preserved
value-loop-term-preserved t c = (
  (below_popped (size-Expr c.args.expr.now) c.loop-term.terms.items c.pop.new.self.items c.in-Some.term c.in-Some.ensures.items c.loop-term.invariant.0).0,
  grown_again c.args.places.now c.loop-term.places c.operated.new.places c.loop-term.invariant.1 c.in_ok-number-in-Ok-2.ensures.grown,
  λ program.
      let l = read_layout program (layout_of c.args.places.now) in
      let store : Storage = held c.args.storage.now in
      let first : Answer meant.Scaled = Gives (read_scaled c.loop-term.number) in
      let second : Answer meant.Scaled = Gives (read_scaled c.in_ok-number-in-Ok-2.number) in
      let gives : operated l store c.in-Some.term first ≡ second =
      subst (λ (places : Layout). operated (read_layout program places) store c.in-Some.term first ≡ second) c.loop-term.invariant.1.layout (c.in_ok-number-in-Ok-2.ensures.ok program) in
      value_popped l store c.loop-term.terms.items c.pop.new.self.items c.in-Some.term first (meant.value l store (read_expr c.args.expr.now)) c.in-Some.ensures.items (c.loop-term.invariant.2 program) ∙ ap (all_operated l store c.pop.new.self.items) gives,
)
