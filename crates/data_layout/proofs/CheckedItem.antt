-- The faults of an item, from the checks of its parts.
use Rattle.std.proofs.Common.{◌≡◌, ℕ, Bool, List, [], ◌++◌, sym, ap, ◌∙◌, subst}
use Rattle.y2k_base.specs.declared.word.Word.{Word}
use Rattle.cobol_syntax.specs.declared.program.Entry.{Entry}
use Rattle.data_layout.specs.declared.fault.LayoutFault.{LayoutFault}
use Rattle.data_layout.specs.declared.rules.Setting.{Setting}
use Rattle.data_layout.specs.declared.rules.Objects.{Objects}
use Rattle.data_layout.specs.Tree.{rank, within, forest, parts_of}
use Rattle.data_layout.specs.Sizes.{total, once, bytes_of, whole, size}
use Rattle.data_layout.specs.Rules.{holds_items, setting_in, no_objects}
use Rattle.data_layout.specs.Faults.{Known, no_names, faults, faults_before, faults_after, faults_of_item, IsFirst}
use Rattle.data_layout.proofs.Telling.{IsFirst-front, IsFirst-rest, none-both}

module _ (words : List Word) (setting : Setting) (names : Known) (objects : Objects) (e : Entry) (inner : List Entry) (r : ℕ) (at : r ≡ rank e.level) where
  abbrev before : List LayoutFault
  before = faults_before words setting names objects e (holds_items (parts_of e inner))

  abbrev under : List LayoutFault
  under = faults words (setting_in setting e) no_names no_objects (parts_of e inner)

  abbrev after : List LayoutFault
  after = faults_after words setting objects e (size e (parts_of e inner)) (whole e (parts_of e inner))

  before-is : (items : Bool) → items ≡ holds_items (within r (forest inner)) → faults_before words setting names objects e items ≡ before
  before-is items is = ap (λ (t : Bool). faults_before words setting names objects e t) (is ∙ ap (λ (k : ℕ). holds_items (within k (forest inner))) at)

  under-is : (s : Setting) (n : Known) → s ≡ setting_in setting e → n ≡ no_names → faults words s n no_objects (within r (forest inner)) ≡ under
  under-is s n es en =
      ap (λ (x : Setting). faults words x n no_objects (within r (forest inner))) es
      ∙ ap (λ (x : Known). faults words (setting_in setting e) x no_objects (within r (forest inner))) en
      ∙ ap (λ (k : ℕ). faults words (setting_in setting e) no_names no_objects (within k (forest inner))) at

  pub whole-is : (of_parts all : ℕ) → of_parts ≡ total (within r (forest inner)) → all ≡ bytes_of e of_parts → all ≡ whole e (parts_of e inner)
  whole-is of_parts all parts is = is ∙ ap (λ (n : ℕ). bytes_of e n) (parts ∙ ap (λ (k : ℕ). total (within k (forest inner))) at)

  after-is : (of_parts one all : ℕ) → of_parts ≡ total (within r (forest inner)) → one ≡ once e.picture e of_parts → all ≡ bytes_of e of_parts
      → faults_after words setting objects e one all ≡ after
  after-is of_parts one all parts single is =
      ap (λ (n : ℕ). faults_after words setting objects e n all) (single ∙ ap (λ (n : ℕ). once e.picture e n) (parts ∙ ap (λ (k : ℕ). total (within k (forest inner))) at))
      ∙ ap (λ (n : ℕ). faults_after words setting objects e (size e (parts_of e inner)) n) (whole-is of_parts all parts is)

  pub fails-before : (items : Bool) (fault : LayoutFault) → items ≡ holds_items (within r (forest inner)) → IsFirst fault (faults_before words setting names objects e items)
      → IsFirst fault (faults_of_item words setting names objects e (parts_of e inner))
  fails-before items fault is h =
      IsFirst-front before (under ++ after) fault (subst (λ (fs : List LayoutFault). IsFirst fault fs) (before-is items is) h)

  pub fails-under : (items : Bool) (s : Setting) (n : Known) (fault : LayoutFault) → items ≡ holds_items (within r (forest inner)) → s ≡ setting_in setting e → n ≡ no_names
      → faults_before words setting names objects e items ≡ [] → IsFirst fault (faults words s n no_objects (within r (forest inner)))
      → IsFirst fault (faults_of_item words setting names objects e (parts_of e inner))
  fails-under items s n fault is es en none h =
      IsFirst-rest before (under ++ after) fault (sym (before-is items is) ∙ none)
      (IsFirst-front under after fault (subst (λ (fs : List LayoutFault). IsFirst fault fs) (under-is s n es en) h))

  pub fails-after : (items : Bool) (s : Setting) (n : Known) (of_parts one all : ℕ) (fault : LayoutFault) → items ≡ holds_items (within r (forest inner)) → s ≡ setting_in setting e → n ≡ no_names
      → of_parts ≡ total (within r (forest inner)) → one ≡ once e.picture e of_parts → all ≡ bytes_of e of_parts
      → faults_before words setting names objects e items ≡ [] → faults words s n no_objects (within r (forest inner)) ≡ [] → IsFirst fault (faults_after words setting objects e one all)
      → IsFirst fault (faults_of_item words setting names objects e (parts_of e inner))
  fails-after items s n of_parts one all fault is es en parts single bytes none none_under h =
      IsFirst-rest before (under ++ after) fault (sym (before-is items is) ∙ none)
      (IsFirst-rest under after fault (sym (under-is s n es en) ∙ none_under) (subst (λ (fs : List LayoutFault). IsFirst fault fs) (after-is of_parts one all parts single bytes) h))

  pub has-none : (items : Bool) (s : Setting) (n : Known) (of_parts one all : ℕ) → items ≡ holds_items (within r (forest inner)) → s ≡ setting_in setting e → n ≡ no_names
      → of_parts ≡ total (within r (forest inner)) → one ≡ once e.picture e of_parts → all ≡ bytes_of e of_parts
      → faults_before words setting names objects e items ≡ [] → faults words s n no_objects (within r (forest inner)) ≡ [] → faults_after words setting objects e one all ≡ []
      → faults_of_item words setting names objects e (parts_of e inner) ≡ []
  has-none items s n of_parts one all is es en parts single bytes none none_under none_after =
      none-both before (under ++ after) (sym (before-is items is) ∙ none)
      (none-both under after (sym (under-is s n es en) ∙ none_under) (sym (after-is of_parts one all parts single bytes) ∙ none_after))
