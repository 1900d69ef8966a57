-- Steps over entries that are checked.
use Rattle.std.specs.Prelude.{Result, Ok, Err, IsErr, IsErrAnd}
use Rattle.std.proofs.Common.{not, ◌||◌, ◌≡◌, ◌≢◌, ℕ, Bool, List, [], ◌++◌, sym, ap, ◌∙◌, subst, if◌then◌else◌}
use Rattle.y2k_base.specs.declared.word.Word.{Word}
use Rattle.cobol_syntax.specs.declared.program.Entry.{Entry}
use Rattle.data_layout.specs.declared.fault.LayoutFault.{LayoutFault}
use Rattle.data_layout.specs.declared.rules.Setting.{Setting}
use Rattle.data_layout.specs.declared.rules.Objects.{Objects}
use Rattle.data_layout.specs.Tree.{rank, Forest, within, forest, parts_of, beside, BeginsWithin, GoesOn}
use Rattle.data_layout.specs.Sizes.{whole}
use Rattle.data_layout.specs.Rules.{objects_after, holds_items}
use Rattle.data_layout.specs.Faults.{Known, with_name, faults, names_after, faults_of_name, faults_of_item, IsFirst, Tells}
use Rattle.data_layout.proofs.Laid.{named, not_named, beside-named}

-- the faults of a row, at a condition-name that has none
pub at-name : (words : List Word) (setting : Setting) (names : Known) (objects : Objects) (r : ℕ) (rest inner : List Entry) (e : Entry) → BeginsWithin r rest e inner → e.level ≡ 88
    → faults words setting names objects (within r (forest rest)) ≡ faults_of_name words setting names e ++ faults words setting (with_name names e.name) objects (within r (forest inner))
at-name words setting names objects r rest inner e b h =
    ap (λ (f : Forest). faults words setting names objects f) b.parts
    ∙ ap (λ (t : Bool). if t then faults_of_name words setting names e ++ faults words setting (with_name names e.name) objects (within r (beside e inner))
    else faults_of_item words setting names objects e (parts_of e inner) ++ faults words setting (with_name names e.name) (objects_after objects e (whole e (parts_of e inner))) (within r (beside e inner))) (named e h)
    ∙ ap (λ (f : Forest). faults_of_name words setting names e ++ faults words setting (with_name names e.name) objects (within r f)) (beside-named e inner h)

pub at-item-front : (words : List Word) (setting : Setting) (names : Known) (objects : Objects) (r : ℕ) (rest inner : List Entry) (e : Entry) → BeginsWithin r rest e inner → e.level ≢ 88
    → faults words setting names objects (within r (forest rest))
    ≡ faults_of_item words setting names objects e (parts_of e inner) ++ faults words setting (with_name names e.name) (objects_after objects e (whole e (parts_of e inner))) (within r (beside e inner))
at-item-front words setting names objects r rest inner e b h =
    ap (λ (f : Forest). faults words setting names objects f) b.parts
    ∙ ap (λ (t : Bool). if t then faults_of_name words setting names e ++ faults words setting (with_name names e.name) objects (within r (beside e inner))
    else faults_of_item words setting names objects e (parts_of e inner) ++ faults words setting (with_name names e.name) (objects_after objects e (whole e (parts_of e inner))) (within r (beside e inner))) (not_named e.level h)

pub at-item : (words : List Word) (setting : Setting) (names : Known) (objects : Objects) (r : ℕ) (rest inner after : List Entry) (e : Entry) → BeginsWithin r rest e inner → e.level ≢ 88 → GoesOn (rank e.level) inner after
    → faults words setting names objects (within r (forest rest))
    ≡ faults_of_item words setting names objects e (parts_of e inner) ++ faults words setting (with_name names e.name) (objects_after objects e (whole e (parts_of e inner))) (within r (forest after))
at-item words setting names objects r rest inner after e b h goes =
    at-item-front words setting names objects r rest inner e b h
    ∙ ap (λ (f : Forest). faults_of_item words setting names objects e (parts_of e inner) ++ faults words setting (with_name names e.name) (objects_after objects e (whole e (parts_of e inner))) (within r f)) (sym goes.others)

-- the condition-name has no fault, and the rest is checked with its name
pub past-name : (words : List Word) (setting : Setting) (names onward : Known) (objects : Objects) (r : ℕ) (rest inner : List Entry) (e : Entry) → BeginsWithin r rest e inner → e.level ≡ 88
    → faults_of_name words setting names e ≡ [] → onward ≡ with_name names e.name
    → faults words setting onward objects (within r (forest inner)) ≡ faults words setting names objects (within r (forest rest))
past-name words setting names onward objects r rest inner e b h none goes_on =
    ap (λ (n : Known). faults words setting n objects (within r (forest inner))) goes_on
    ∙ sym (at-name words setting names objects r rest inner e b h
    ∙ ap (λ (fs : List LayoutFault). fs ++ faults words setting (with_name names e.name) objects (within r (forest inner))) none)

pub past-item : (words : List Word) (setting : Setting) (names onward : Known) (objects later : Objects) (all r : ℕ) (rest inner after : List Entry) (e : Entry) → BeginsWithin r rest e inner → e.level ≢ 88 → GoesOn (rank e.level) inner after
    → faults_of_item words setting names objects e (parts_of e inner) ≡ [] → onward ≡ with_name names e.name → later ≡ objects_after objects e all → all ≡ whole e (parts_of e inner)
    → faults words setting onward later (within r (forest after)) ≡ faults words setting names objects (within r (forest rest))
past-item words setting names onward objects later all r rest inner after e b h goes none goes_on next_objects bytes =
    ap (λ (n : Known). faults words setting n later (within r (forest after))) goes_on
    ∙ ap (λ (o : Objects). faults words setting (with_name names e.name) o (within r (forest after))) (next_objects ∙ ap (λ (n : ℕ). objects_after objects e n) bytes)
    ∙ sym (at-item words setting names objects r rest inner after e b h goes
    ∙ ap (λ (fs : List LayoutFault). fs ++ faults words setting (with_name names e.name) (objects_after objects e (whole e (parts_of e inner))) (within r (forest after))) none)

pub names-past-name : (names onward : Known) (r : ℕ) (rest inner : List Entry) (e : Entry) → BeginsWithin r rest e inner → e.level ≡ 88 → onward ≡ with_name names e.name
    → names_after onward (within r (forest inner)) ≡ names_after names (within r (forest rest))
names-past-name names onward r rest inner e b h goes_on =
    ap (λ (n : Known). names_after n (within r (forest inner))) goes_on
    ∙ sym (ap (names_after names) b.parts ∙ ap (λ (f : Forest). names_after (with_name names e.name) (within r f)) (beside-named e inner h))

pub names-past-item : (names onward : Known) (r : ℕ) (rest inner after : List Entry) (e : Entry) → BeginsWithin r rest e inner → GoesOn (rank e.level) inner after → onward ≡ with_name names e.name
    → names_after onward (within r (forest after)) ≡ names_after names (within r (forest rest))
names-past-item names onward r rest inner after e b goes goes_on =
    ap (λ (n : Known). names_after n (within r (forest after))) goes_on
    ∙ sym (ap (names_after names) b.parts ∙ ap (λ (f : Forest). names_after (with_name names e.name) (within r f)) (sym goes.others))

-- an error that was handed on
pub carried : {A : Type 0} (result : Result A LayoutFault) (fault : LayoutFault) (fs : List LayoutFault) → IsErr result → IsErrAnd result (λ e. e ≡ fault) → IsFirst fault fs → Tells result fs
carried {A} (Ok x) fault fs is_err h p = absurd h
carried {A} (Err e) fault fs is_err h p = subst (λ (f : LayoutFault). IsFirst f fs) (sym h) p

pub items-past-name : (r : ℕ) (rest inner : List Entry) (e : Entry) → BeginsWithin r rest e inner → e.level ≡ 88 → holds_items (within r (forest inner)) ≡ holds_items (within r (forest rest))
items-past-name r rest inner e b h =
    sym (ap holds_items b.parts ∙ ap (λ (t : Bool). not t || holds_items (within r (beside e inner))) (named e h)
    ∙ ap (λ (f : Forest). holds_items (within r f)) (beside-named e inner h))
