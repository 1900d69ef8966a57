-- Conditions with AND and OR behind a first condition.
use Rattle.std.proofs.Common.{◌≡◌, ℕ, ◌<◌, Bool, true, false, List, [], ◌∷◌, ◌++◌, refl, ap, ◌∙◌}
use Rattle.std.specs.List.{fold}
use Rattle.std.proofs.lemmas.List.Sums.{fold-append}
use Rattle.y2k_base.proofs.Each.{each-rest}
use Rattle.cobol_syntax.specs.declared.cond.Condition.{size-Condition}
use Rattle.program_meaning.specs.Answer.{Answer, and_then}
use Rattle.program_meaning.specs.Compare.{test}
use Rattle.program_meaning.specs.Layout.{Layout}
use Rattle.program_meaning.specs.Storage.{Storage}
use Rattle.program_meaning.specs.Tree as tree
use Rattle.tree_reading.specs.Reading.{read_condition}
use Rattle.storage_places.specs.declared.fault.RunFault.{RunFault}
use Rattle.storage_places.specs.Meets.{MayMeet}
use Rattle.storage_tests.specs.declared.joint.Joint.{Joint}
use Rattle.storage_tests.specs.declared.joint.Operator.{Operator}
use Rattle.storage_tests.specs.declared.joint.Operator.TheVariants as o
use Rattle.storage_tests.specs.Joints.{AreLess, operated, junction, joined, decides, decided, after_one, after}
use Rattle.storage_tests.proofs.Faults.{fails-first}

pub last-less : (size : ℕ) (js : List Joint) (j : Joint) → AreLess size (js ++ j ∷ []) → size-Condition j.right.now < size
last-less size js j less = (each-rest (λ (i : Joint). size-Condition i.right.now < size) js (j ∷ []) less).0

-- where the first condition doesn't decide, the second one does
pub goes-on : (op : Operator) (b : Bool) (a : Answer Bool) → decides op b ≡ false → decided op b a ≡ a
goes-on o.And true a h = refl
goes-on o.And false a h = absurd (let none : ⊥ = cc in none)
goes-on o.Or false a h = refl
goes-on o.Or true a h = absurd (let none : ⊥ = cc in none)

module _ (l : Layout) (st : Storage) where
  operated-test : (op : Operator) (right first : tree.Condition) → test l st (operated op right first) ≡ and_then (test l st first) (λ b. decided op b (test l st right))
  operated-test o.And right first = refl
  operated-test o.Or right first = refl

  fold-test : (js : List Joint) (rest : tree.Condition → tree.Condition) (k : Answer Bool → Answer Bool) →
      ((c : tree.Condition) → test l st (rest c) ≡ k (test l st c)) → (c : tree.Condition) →
      test l st (fold (λ (r : tree.Condition → tree.Condition) (j : Joint). λ first. r (junction j first)) rest js c)
      ≡ fold (λ (r : Answer Bool → Answer Bool) (j : Joint). λ a. r (and_then a (after_one l st j))) k js (test l st c)
  fold-test [] rest k h c = h c
  fold-test (j ∷ js) rest k h c =
      fold-test js (λ first. rest (junction j first)) (λ a. k (and_then a (after_one l st j)))
      (λ d. h (junction j d) ∙ ap k (operated-test j.operator (read_condition j.right.now) d)) c

  -- the whole is tested from its first condition on
  pub test-joined : (js : List Joint) (c : tree.Condition) → test l st (joined js c) ≡ after l st js (test l st c)
  test-joined js c = fold-test js (λ d. d) (λ a. a) (λ d. refl) c

  -- the last joint is the nearest
  pub after-last : (js : List Joint) (j : Joint) (a : Answer Bool) → after l st (js ++ j ∷ []) a ≡ after l st js (and_then a (after_one l st j))
  after-last js j a =
      ap (λ (f : Answer Bool → Answer Bool). f a)
      (fold-append (λ (r : Answer Bool → Answer Bool) (i : Joint). λ x. r (and_then x (after_one l st i))) (λ x. x) js (j ∷ []))

  fold-fails : (js : List Joint) (k : Answer Bool → Answer Bool) (e : RunFault) → ((a : Answer Bool) → MayMeet a e → MayMeet (k a) e) →
      (a : Answer Bool) → MayMeet a e → MayMeet (fold (λ (r : Answer Bool → Answer Bool) (j : Joint). λ x. r (and_then x (after_one l st j))) k js a) e
  fold-fails [] k e h a m = h a m
  fold-fails (j ∷ js) k e h a m =
      fold-fails js (λ x. k (and_then x (after_one l st j))) e (λ x n. h (and_then x (after_one l st j)) (fails-first _ _ _ n)) a m

  -- a fault before is the fault of the whole
  pub after-fails : (js : List Joint) (a : Answer Bool) (e : RunFault) → MayMeet a e → MayMeet (after l st js a) e
  after-fails js a e m = fold-fails js (λ x. x) e (λ x n. n) a m
