use Rattle.std.proofs.Common.{◌≡◌, ◌<◌, List, [], ◌∷◌, ◌++◌, Option, Bool, true, false, Err, sym, ap, ap₂, subst, ◌∙◌, rules}
use Rattle.std.specs.Option.{option_to_list}
use Rattle.cobol_syntax.specs.declared.cond.Condition.{Condition, size-Condition, the_lemmas}
use Rattle.data_layout.specs.declared.item.Layout as tables
use Rattle.program_meaning.specs.Answer.{Answer, Gives}
use Rattle.program_meaning.specs.Compare.{test}
use Rattle.program_meaning.specs.Layout.{Layout}
use Rattle.program_meaning.specs.Tree as tree
use Rattle.layout_reading.specs.Reading.{read_layout}
use Rattle.place_table.specs.Tables.{layout_of, IsStorageOf}
use Rattle.storage_places.specs.Held.{held}
use Rattle.tree_reading.specs.Reading.{read_condition}
use Rattle.storage_tests.specs.declared.joint.Joint.{Joint}
use Rattle.storage_tests.specs.Joints.{read_asked, AreLess, after}
use Rattle.storage_tests.proofs.Faults.{fails-first, fails-then, same-fault, failed-at, failed-before, exits}
use Rattle.storage_tests.proofs.JointLaws.{last-less, goes-on, test-joined, after-last, after-fails}
use Rattle.storage_tests.proofs.TreeLaws.{asked-Relation, asked-Class, asked-Sign, asked-Named, asked-Not, asked-And, asked-Or, condition-asked}
use Rattle.storage_tests.proofs.testing.+test.Goals as goal

pub test_form-returns-in_err-order-in-Relation-clause-err : goal.test_form-returns-in_err-order-in-Relation-clause-err
test_form-returns-in_err-order-in-Relation-clause-err t c =
    let e : c.from_residual.result ≡ Err c.in_err-order-in-Relation.field-0.0 = search rules in
    exits _ _ _ e
    (failed-at (λ (x : tree.Condition) (l : Layout). test l (held c.args.storage.now) x) _ _ (layout_of c.args.places.now) _ (ap read_asked c.in-Relation.is ∙ asked-Relation c.in-Relation.left c.in-Relation.rel c.in-Relation.right)
    (λ program. fails-first _ _ _ (c.in_err-order-in-Relation.ensures.err program)))

pub test_form-returns-in_err-holds-in-Class-clause-err : goal.test_form-returns-in_err-holds-in-Class-clause-err
test_form-returns-in_err-holds-in-Class-clause-err t c =
    let e : c.from_residual-in_err-holds-in-Class.result ≡ Err c.in_err-holds-in-Class.field-0.0 = search rules in
    exits _ _ _ e
    (failed-at (λ (x : tree.Condition) (l : Layout). test l (held c.args.storage.now) x) _ _ (layout_of c.args.places.now) _ (ap read_asked c.in-Class.is ∙ asked-Class c.in-Class.of c.in-Class.numeric)
    (λ program. c.in_err-holds-in-Class.ensures.err program))

pub test_form-returns-in_err-number-in-Sign-clause-err : goal.test_form-returns-in_err-number-in-Sign-clause-err
test_form-returns-in_err-number-in-Sign-clause-err t c =
    let e : c.from_residual-in_err-number-in-Sign.result ≡ Err c.in_err-number-in-Sign.field-0.0 = search rules in
    exits _ _ _ e
    (failed-at (λ (x : tree.Condition) (l : Layout). test l (held c.args.storage.now) x) _ _ (layout_of c.args.places.now) _ (ap read_asked c.in-Sign.is ∙ asked-Sign c.in-Sign.of c.in-Sign.sign)
    (λ program. fails-first _ _ _ (c.in_err-number-in-Sign.ensures.err program)))

pub test_form-returns-in_err-holds-in-Named-clause-err : goal.test_form-returns-in_err-holds-in-Named-clause-err
test_form-returns-in_err-holds-in-Named-clause-err t c =
    let e : c.from_residual-in_err-holds-in-Named.result ≡ Err c.in_err-holds-in-Named.field-0.0 = search rules in
    exits _ _ _ e
    (failed-at (λ (x : tree.Condition) (l : Layout). test l (held c.args.storage.now) x) _ _ (layout_of c.args.places.now) _ (ap read_asked c.in-Named.is ∙ asked-Named c.in-Named.place)
    (λ program. c.in_err-holds-in-Named.ensures.err program))

pub test_form-returns-in_err-holds-in-Not-clause-err : goal.test_form-returns-in_err-holds-in-Not-clause-err
test_form-returns-in_err-holds-in-Not-clause-err t c =
    let e : c.from_residual-in_err-holds-in-Not.result ≡ Err c.in_err-holds-in-Not.field-0.0 = search rules in
    exits _ _ _ e
    (failed-at (λ (x : tree.Condition) (l : Layout). test l (held c.args.storage.now) x) _ _ (layout_of c.args.places.now) _ (ap read_asked c.in-Not.is ∙ asked-Not c.in-Not.inner ∙ ap (λ (x : Condition). tree.Not (read_condition x)) (sym c.get.ensures))
    (λ program. fails-first _ _ _ (c.in_err-holds-in-Not.ensures.err program)))

pub test_form-returns-in_err-test-in-And-clause-err : goal.test_form-returns-in_err-test-in-And-clause-err
test_form-returns-in_err-test-in-And-clause-err t c =
    let e : c.from_residual-in_err-test-in-And.result ≡ Err c.in_err-test-in-And.field-0.0 = search rules in
    exits _ _ _ e
    (failed-at (λ (x : tree.Condition) (l : Layout). test l (held c.args.storage.now) x) _ _ (layout_of c.args.places.now) _ (ap read_asked c.in-And.is ∙ asked-And c.in-And.left c.in-And.right ∙ ap (λ (x : Condition). tree.And (read_condition x) (read_condition c.in-And.right)) (sym c.get-in-And.ensures))
    (λ program. fails-first _ _ _ (c.in_err-test-in-And.ensures.err program)))

pub test_form-returns-in_err-test-in-Or-clause-err : goal.test_form-returns-in_err-test-in-Or-clause-err
test_form-returns-in_err-test-in-Or-clause-err t c =
    let e : c.from_residual-in_err-test-in-Or.result ≡ Err c.in_err-test-in-Or.field-0.0 = search rules in
    exits _ _ _ e
    (failed-at (λ (x : tree.Condition) (l : Layout). test l (held c.args.storage.now) x) _ _ (layout_of c.args.places.now) _ (ap read_asked c.in-Or.is ∙ asked-Or c.in-Or.left c.in-Or.right ∙ ap (λ (x : Condition). tree.Or (read_condition x) (read_condition c.in-Or.right)) (sym c.get-in-Or.ensures))
    (λ program. fails-first _ _ _ (c.in_err-test-in-Or.ensures.err program)))

pub test_form-returns-in_err-holds-in-And-clause-err : goal.test_form-returns-in_err-holds-in-And-clause-err
test_form-returns-in_err-holds-in-And-clause-err t c =
    let e : c.from_residual-in_err-holds-in-And.result ≡ Err c.in_err-holds-in-And.field-0.0 = search rules in
    exits _ _ _ e
    (failed-at (λ (x : tree.Condition) (l : Layout). test l (held c.args.storage.now) x) _ (tree.And (read_condition c.get-in-And.result.now) (read_condition c.get-then-branch.result.now))
    (layout_of c.args.places.now) _
    (ap read_asked c.in-And.is ∙ asked-And c.in-And.left c.in-And.right ∙ ap₂ (λ (x y : Condition). tree.And (read_condition x) (read_condition y)) (sym c.get-in-And.ensures) (sym c.get-then-branch.ensures))
    (λ program.
    fails-then _ _ true _ (c.in_ok-test-in-And.ensures.ok program ∙ ap (λ (b : Bool). Gives b) c.if-branch.true)
    (failed-before (λ (l : Layout). test l (held c.args.storage.now) (read_condition c.get-then-branch.result.now)) _ _ _ c.test-in-And.ensures.grown.layout c.in_err-holds-in-And.ensures.err program)))

pub test_form-returns-in_err-holds-in-Or-clause-err : goal.test_form-returns-in_err-holds-in-Or-clause-err
test_form-returns-in_err-holds-in-Or-clause-err t c =
    let e : c.from_residual-in_err-holds-in-Or.result ≡ Err c.in_err-holds-in-Or.field-0.0 = search rules in
    exits _ _ _ e
    (failed-at (λ (x : tree.Condition) (l : Layout). test l (held c.args.storage.now) x) _ (tree.Or (read_condition c.get-in-Or.result.now) (read_condition c.get-in-Or-2.result.now))
    (layout_of c.args.places.now) _
    (ap read_asked c.in-Or.is ∙ asked-Or c.in-Or.left c.in-Or.right ∙ ap₂ (λ (x y : Condition). tree.Or (read_condition x) (read_condition y)) (sym c.get-in-Or.ensures) (sym c.get-in-Or-2.ensures))
    (λ program.
    fails-then _ _ false _ (c.in_ok-test-in-Or.ensures.ok program ∙ ap (λ (b : Bool). Gives b) c.if-branch-2.false)
    (failed-before (λ (l : Layout). test l (held c.args.storage.now) (read_condition c.get-in-Or-2.result.now)) _ _ _ c.test-in-Or.ensures.grown.layout c.in_err-holds-in-Or.ensures.err program)))

pub test-returns-in_err-holds-in-Ok-clause-err : goal.test-returns-in_err-holds-in-Ok-clause-err
test-returns-in_err-holds-in-Ok-clause-err t c =
    let e : c.from_residual.result ≡ Err c.in_err-holds-in-Ok.field-0.0 = search rules in
    exits _ _ _ e (λ program.
    let l = read_layout program (layout_of c.args.places.now) in
    let st = held c.args.storage.now in
    same-fault _ _ _
    (ap (λ (x : tree.Condition). test l st x) (sym c.in-Ok.ensures.joined)
    ∙ test-joined l st c.in-Ok.joints.items (read_condition c.in-Ok.first.now)
    ∙ ap (λ (x : tree.Condition). after l st c.in-Ok.joints.items (test l st x)) (condition-asked c.in-Ok.first.now))
    (after-fails l st c.in-Ok.joints.items _ _ (c.in_err-holds-in-Ok.ensures.err program)))

pub test-loop-joint-init : goal.test-loop-joint-init
test-loop-joint-init t c = record {
  grown = c.test_form.ensures.grown;
  less = c.in-Ok.ensures.less;
  means = λ program.
      let l = read_layout program (layout_of c.args.places.now) in
      let st = held c.args.storage.now in
      ap (λ (x : tree.Condition). test l st x) (sym c.in-Ok.ensures.joined)
      ∙ test-joined l st c.in-Ok.joints.items (read_condition c.in-Ok.first.now)
      ∙ ap (λ (x : tree.Condition). after l st c.in-Ok.joints.items (test l st x)) (condition-asked c.in-Ok.first.now)
      ∙ ap (λ (a : Answer Bool). after l st c.in-Ok.joints.items a) (c.in_ok-holds-in-Ok.ensures.ok program);
}

pub test-test-requires : goal.test-test-requires
test-test-requires t c =
    let last : c.loop-joint.joints.items ≡ c.pop.new.self.items ++ c.in-Some.joint ∷ [] =
    c.pop.ensures.items ∙ ap (λ (r : Option Joint). c.pop.new.self.items ++ option_to_list r) c.in-Some.is in
    let less : size-Condition c.in-Some.joint.right.now < size-Condition c.args.condition.now =
    last-less (size-Condition c.args.condition.now) c.pop.new.self.items c.in-Some.joint (subst (λ (js : List Joint). AreLess (size-Condition c.args.condition.now) js) last c.loop-joint.invariant.less) in
    (search (rules, the_lemmas, less), subst (λ (l : tables.Layout). IsStorageOf l c.args.storage.now) (sym c.loop-joint.invariant.grown.layout) c.requires.storage)

pub test-returns-in_err-holds-in-Ok-2-clause-err : goal.test-returns-in_err-holds-in-Ok-2-clause-err
test-returns-in_err-holds-in-Ok-2-clause-err t c =
    let e : c.from_residual-in_err-holds-in-Ok-2.result ≡ Err c.in_err-holds-in-Ok-2.field-0.0 = search rules in
    let last : c.loop-joint.joints.items ≡ c.pop.new.self.items ++ c.in-Some.joint ∷ [] =
    c.pop.ensures.items ∙ ap (λ (r : Option Joint). c.pop.new.self.items ++ option_to_list r) c.in-Some.is in
    exits _ _ _ e (λ program.
    let l = read_layout program (layout_of c.args.places.now) in
    let st = held c.args.storage.now in
    same-fault _ _ _
    (c.loop-joint.invariant.means program
    ∙ ap (λ (js : List Joint). after l st js (Gives c.loop-joint.holds)) last
    ∙ after-last l st c.pop.new.self.items c.in-Some.joint (Gives c.loop-joint.holds)
    ∙ ap (λ (a : Answer Bool). after l st c.pop.new.self.items a)
    (goes-on c.in-Some.joint.operator c.loop-joint.holds (test l st (read_condition c.in-Some.joint.right.now)) (sym c.decides.ensures ∙ c.if-not-decides.true)))
    (after-fails l st c.pop.new.self.items _ _
    (failed-before (λ (l : Layout). test l (held c.args.storage.now) (read_condition c.in-Some.joint.right.now)) _ _ _ c.loop-joint.invariant.grown.layout c.in_err-holds-in-Ok-2.ensures.err program)))
