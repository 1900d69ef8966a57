-- What is read of the rest is of the whole.
use Rattle.std.proofs.Common.{◌≡◌, ℕ, ◌-◌, ◌<◌, ◌≤◌, Bool, true, false, cond, List, [], ◌∷◌, ◌++◌, length, map, take, drop, get_or, Option, Some, None, is_none, refl, ap, sym, ◌∙◌, subst, append_assoc, arith}
use Rattle.std.proofs.Math.Seq.{take-length}
use Rattle.std.proofs.lemmas.List.{append-nil}
use Rattle.std.specs.List.{find, flat_map}
use Rattle.data_layout.specs.declared.portfolio.ItemRef.{ItemRef}
use Rattle.portfolio.specs.declared.manifest.WindowGroup.{WindowGroup}
use Rattle.window_items.specs.Windows.{AreItems, AreWindows, IsAdded, IsFirstUnknown, IsWindow, is_unknown, items_of}
use Rattle.window_items.specs.declared.fault.WindowFault.{WindowFault}
use Rattle.window_items.specs.declared.fault.WindowFault.TheVariants as fault
use Rattle.window_items.specs.declared.window.Window.{Window}

head_same : {A : Type 0} (x y : A) (xs ys : List A) → x ∷ xs ≡ y ∷ ys → x ≡ y
head_same x y xs ys e = cc

tail_same : {A : Type 0} (x y : A) (xs ys : List A) → x ∷ xs ≡ y ∷ ys → xs ≡ ys
tail_same x y xs ys e = cc

no_cons : {A : Type 0} (x : A) (xs : List A) → [] ≡ x ∷ xs → ⊥
no_cons x xs e = cc

module _ (means : List ℕ → Option ItemRef) where
  -- a text with a meaning is passed over
  known : (text : List ℕ) (item : ItemRef) (more : List (List ℕ)) → means text ≡ Some item → find (is_unknown means) (text ∷ more) ≡ find (is_unknown means) more
  known text item more is = ap (λ (o : Option ItemRef). cond (is_none o) (Some text) (find (is_unknown means) more)) is

  all_known : (texts : List (List ℕ)) (items : List ItemRef) (more : List (List ℕ)) → AreItems means texts items
      → find (is_unknown means) (texts ++ more) ≡ find (is_unknown means) more
  all_known [] items more is = refl
  all_known (t ∷ ts) [] more is = absurd (no_cons _ _ (sym is))
  all_known (t ∷ ts) (x ∷ xs) more is =
      known t x (ts ++ more) (head_same (means t) (Some x) (map means ts) (map Some xs) is)
      ∙ all_known ts xs more (tail_same (means t) (Some x) (map means ts) (map Some xs) is)

  none_some : (text : List ℕ) → None ≡ Some text → ⊥
  none_some text e = cc

  unknown_by : (b : Bool) (t : List ℕ) (ts more : List (List ℕ)) (text : List ℕ)
      → (find (is_unknown means) ts ≡ Some text → find (is_unknown means) (ts ++ more) ≡ Some text)
      → cond b (Some t) (find (is_unknown means) ts) ≡ Some text → cond b (Some t) (find (is_unknown means) (ts ++ more)) ≡ Some text
  unknown_by true t ts more text ih e = e
  unknown_by false t ts more text ih e = ih e

  -- the first text without a meaning is so whatever follows
  unknown_in : (texts more : List (List ℕ)) (text : List ℕ) → find (is_unknown means) texts ≡ Some text → find (is_unknown means) (texts ++ more) ≡ Some text
  unknown_in [] more text e = absurd (none_some text e)
  unknown_in (t ∷ ts) more text e = unknown_by (is_unknown means t) t ts more text (λ h. unknown_in ts more text h) e

  fault_in : (texts more : List (List ℕ)) (f : WindowFault) → IsFirstUnknown means texts f → IsFirstUnknown means (texts ++ more) f
  fault_in texts more (fault.Unknown text) h = unknown_in texts more text h
  fault_in texts more fault.Memory h = tt

  fault_after : (texts : List (List ℕ)) (items : List ItemRef) (more : List (List ℕ)) (f : WindowFault) → AreItems means texts items
      → IsFirstUnknown means more f → IsFirstUnknown means (texts ++ more) f
  fault_after texts items more (fault.Unknown text) is h = all_known texts items more is ∙ h
  fault_after texts items more fault.Memory is h = tt

-- with these items of the texts before the rest, what the rest is the whole is
pub record GoesItems (means : List ℕ → Option ItemRef) (texts : List (List ℕ)) (done : List ItemRef) (rest : List (List ℕ)) : Type 0 where
  pub items : (more : List ItemRef) → AreItems means rest more → AreItems means texts (done ++ more)
  pub fault : find (is_unknown means) rest ≡ find (is_unknown means) texts

-- the same of windows and groups
pub record GoesGroups (means : List ℕ → Option ItemRef) (groups : List WindowGroup) (done : List Window) (rest : List WindowGroup) : Type 0 where
  pub windows : (more : List Window) → AreWindows means rest more → AreWindows means groups (done ++ more)
  pub fault : (f : WindowFault) → IsFirstUnknown means (flat_map items_of rest) f → IsFirstUnknown means (flat_map items_of groups) f

module _ (means : List ℕ → Option ItemRef) (texts : List (List ℕ)) where
  pub next_item : (done : List ItemRef) (text : List ℕ) (item : ItemRef) (more : List (List ℕ)) → means text ≡ Some item
      → GoesItems means texts done (text ∷ more) → GoesItems means texts (done ++ item ∷ []) more
  next_item done text item more is g = record {
    items = λ xs h. subst (AreItems means texts) (sym (append_assoc done (item ∷ []) xs)) (g.items (item ∷ xs) (λ i. is i ∷ h i));
    fault = sym (known means text item more is) ∙ g.fault;
  }

  pub all_items : (done : List ItemRef) (rest : List (List ℕ)) → length rest < 1 → GoesItems means texts done rest → AreItems means texts done
  all_items done [] few g = subst (AreItems means texts) (append-nil done) (g.items [] refl)
  all_items done (t ∷ ts) few g = absurd (omega (arith, few))

  pub unknown_item : (done : List ItemRef) (text : List ℕ) (more : List (List ℕ)) → means text ≡ None
      → GoesItems means texts done (text ∷ more) → find (is_unknown means) texts ≡ Some text
  unknown_item done text more is g =
      sym g.fault ∙ ap (λ (o : Option ItemRef). cond (is_none o) (Some text) (find (is_unknown means) more)) is

-- a list that isn't empty is its first item and the rest
split : {A : Type 0} (xs : List A) (x : A) → 1 ≤ length xs → x ≡ get_or xs 0 x → xs ≡ x ∷ take (length xs - 1) (drop 1 xs)
split [] x some is = absurd (omega (arith, some))
split {A} (y ∷ ys) x some is =
    let n : length (y ∷ ys) - 1 ≡ length ys = omega arith in
    ap (λ (z : A). z ∷ ys) (sym is) ∙ ap (λ (zs : List A). x ∷ zs) (sym (take-length ys)) ∙ ap (λ (k : ℕ). x ∷ take k ys) (sym n)

module _ (means : List ℕ → Option ItemRef) (groups : List WindowGroup) where
  next_group : (done : List Window) (group : WindowGroup) (window : Window) (more : List WindowGroup) → IsWindow means group window
      → GoesGroups means groups done (group ∷ more) → GoesGroups means groups (done ++ window ∷ []) more
  next_group done group window more is g = record {
    windows = λ ws h. subst (AreWindows means groups) (sym (append_assoc done (window ∷ []) ws)) (g.windows (window ∷ ws) (is, h));
    fault = λ f h. g.fault f (fault_after means group.items window.items (flat_map items_of more) f is.1 h);
  }

  goes_on : (done next : List Window) (group : WindowGroup) (more : List WindowGroup) → IsAdded means group done next
      → GoesGroups means groups done (group ∷ more) → GoesGroups means groups next more
  goes_on done next group more (window, is, added) g =
      subst (λ (ws : List Window). GoesGroups means groups ws more) (sym added) (next_group done group window more is g)

  pub goes_to : (done next : List Window) (group : WindowGroup) (rest : List WindowGroup) → 1 ≤ length rest → group ≡ get_or rest 0 group
      → IsAdded means group done next → GoesGroups means groups done rest → GoesGroups means groups next (take (length rest - 1) (drop 1 rest))
  goes_to done next group rest some is added g =
      goes_on done next group (take (length rest - 1) (drop 1 rest)) added (subst (GoesGroups means groups done) (split rest group some is) g)

  pub all_groups : (done : List Window) (rest : List WindowGroup) → length rest < 1 → GoesGroups means groups done rest → AreWindows means groups done
  all_groups done [] few g = subst (AreWindows means groups) (append-nil done) (g.windows [] tt)
  all_groups done (t ∷ ts) few g = absurd (omega (arith, few))

  fault_here : (done : List Window) (group : WindowGroup) (more : List WindowGroup) (f : WindowFault) → IsFirstUnknown means group.items f
      → GoesGroups means groups done (group ∷ more) → IsFirstUnknown means (flat_map items_of groups) f
  fault_here done group more f h g = g.fault f (fault_in means group.items (flat_map items_of more) f h)

  pub fault_of_group : (done : List Window) (group : WindowGroup) (rest : List WindowGroup) (f : WindowFault) → 1 ≤ length rest → group ≡ get_or rest 0 group
      → IsFirstUnknown means group.items f → GoesGroups means groups done rest → IsFirstUnknown means (flat_map items_of groups) f
  fault_of_group done group rest f some is h g =
      fault_here done group (take (length rest - 1) (drop 1 rest)) f h (subst (GoesGroups means groups done) (split rest group some is) g)
