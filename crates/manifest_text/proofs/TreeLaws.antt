-- The members of a map from which an entry is taken, or in which one is put.
use Rattle.std.proofs.Common.{◌≡◌, ℕ, Bool, true, false, cond, List, [], ◌∷◌, String, Global, Ordering, Less, Equal, Greater, string_bytes, nat_cmp, ℤ, refl, ap, ◌∙◌}
use Rattle.std.specs.Cmp.Lexicographic.{slice_cmp}
use Rattle.std.specs.Map.{remove_entry}
use Rattle.std.specs.Ordering.{match_ordering}
use Rattle.std.specs.String.{string_cmp}
use Rattle.std.specs.BTreeMap.{insert_entry, is_at}
use Rattle.toml.specs.Data.{Data, Members, integer, member, same_key}
use Rattle.toml.specs.View.{view, members_view}
use Rattle.toml.specs.declared.value.Value.{Value, Integer as IntegerCase}
use Rattle.toml.proofs.Views.{Entry, view-Integer}
use Rattle.manifest_text.specs.Converted.{without, with_member}

taken : (b : Bool) (e : Entry) (es rest : List Entry) (ms : Members) → members_view rest ≡ ms
    → members_view (cond b es (e ∷ rest)) ≡ cond b (members_view es) (member (string_bytes e.0) (view e.1) ms)
taken true e es rest ms same = refl
taken false e es rest ms same = ap (member (string_bytes e.0) (view e.1)) same

pub removed : (key : List ℕ) (es : List Entry) → members_view (remove_entry (is_at (λ (k : String Global). slice_cmp nat_cmp key (string_bytes k))) es) ≡ without key (members_view es)
removed key [] = refl
removed key (e ∷ es) = taken (same_key key (string_bytes e.0)) e es _ _ (removed key es)

put : (o : Ordering) (k : String Global) (v : Value) (e : Entry) (es rest : List Entry) (ms : Members) → members_view rest ≡ ms
    → members_view (match_ordering o ((k, v) ∷ e ∷ es) ((e.0, v) ∷ es) (e ∷ rest))
    ≡ match_ordering o (member (string_bytes k) (view v) (member (string_bytes e.0) (view e.1) (members_view es))) (member (string_bytes e.0) (view v) (members_view es)) (member (string_bytes e.0) (view e.1) ms)
put Less k v e es rest ms same = refl
put Equal k v e es rest ms same = refl
put Greater k v e es rest ms same = ap (member (string_bytes e.0) (view e.1)) same

pub inserted : (k : String Global) (v : Value) (es : List Entry) → members_view (insert_entry string_cmp es k v) ≡ with_member (string_bytes k) (view v) (members_view es)
inserted k v [] = refl
inserted k v (e ∷ es) = put (string_cmp k e.0) k v e es _ _ (inserted k v es)

pub numbered : (k : String Global) (name : List ℕ) (z : ℤ) (es : List Entry) → string_bytes k ≡ name
    → members_view (insert_entry string_cmp es k (IntegerCase z)) ≡ with_member name (integer z) (members_view es)
numbered k name z es same =
    inserted k (IntegerCase z) es
    ∙ ap (λ (d : Data). with_member (string_bytes k) d (members_view es)) (view-Integer z)
    ∙ ap (λ (n : List ℕ). with_member n (integer z) (members_view es)) same
