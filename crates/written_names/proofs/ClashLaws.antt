-- Names that are added one after the other, and the clashes that are found so.
use Rattle.std.proofs.Common.{◌≡◌, ◌&&◌, ◌||◌, ◌++◌, ℕ, Bool, true, false, cond, List, [], ◌∷◌, map, refl, sym, ap, ◌∙◌, subst}
use Rattle.std.proofs.Math.Path.{fun_ext}
use Rattle.std.specs.Str.{bytes_eq}
use Rattle.std.proofs.lemmas.Slice.Eq.{bytes_eq-Decides}
use Rattle.name_tables.specs.Names.{Known, no_names, with_name}
use Rattle.written_names.specs.Clashes.{stands, stands_twice, is_clash, with_all, with_known, found_in}

with_mapped : (known : Known) (f : List ℕ → List ℕ) (xs ys : List (List ℕ)) → with_all (with_all known (map f xs)) (map f ys) ≡ with_all known (map f (xs ++ ys))
with_mapped known f [] ys = refl
with_mapped known f (x ∷ xs) ys = with_mapped (with_name known (f x)) f xs ys

-- four lists of names in a folder, one after the other
with_four : (known : Known) (f : List ℕ → List ℕ) (ws xs ys zs : List (List ℕ))
    → with_all (with_all (with_all (with_all known (map f ws)) (map f xs)) (map f ys)) (map f zs) ≡ with_all known (map f (ws ++ (xs ++ (ys ++ zs))))
with_four known f ws xs ys zs =
    with_mapped (with_all (with_all known (map f ws)) (map f xs)) f ys zs
    ∙ with_mapped (with_all known (map f ws)) f xs (ys ++ zs)
    ∙ with_mapped known f ws (xs ++ (ys ++ zs))

pub all_read : (f : List ℕ → List ℕ) (k k0 k1 k2 k3 k4 : Known) (ws xs ys zs : List (List ℕ)) → k0 ≡ k
    → k1 ≡ with_all k0 (map f ws) → k2 ≡ with_all k1 (map f xs) → k3 ≡ with_all k2 (map f ys) → k4 ≡ with_all k3 (map f zs)
    → k4 ≡ with_all k (map f (ws ++ (xs ++ (ys ++ zs))))
all_read f k k0 k1 k2 k3 k4 ws xs ys zs e0 e1 e2 e3 e4 =
    e4
    ∙ ap (λ (x : Known). with_all x (map f zs)) (e3 ∙ ap (λ (x : Known). with_all x (map f ys)) (e2 ∙ ap (λ (x : Known). with_all x (map f xs)) (e1 ∙ ap (λ (x : Known). with_all x (map f ws)) e0)))
    ∙ with_four k f ws xs ys zs

other_way : (a b t : Bool) → (b || (a || t)) ≡ ((a || b) || t)
other_way true true t = refl
other_way true false t = refl
other_way false true t = refl
other_way false false t = refl

all_stand : (known : Known) (ns : List (List ℕ)) (q : List ℕ) → with_all known ns q ≡ (stands ns q || known q)
all_stand known [] q = refl
all_stand known (n ∷ ns) q = all_stand (with_name known n) ns q ∙ other_way (bytes_eq q n) (stands ns q) (known q)

or_none : (f : Bool) → f ≡ (f || false)
or_none true = refl
or_none false = refl

shown : (k : Bool) (found : Known) (n q : List ℕ) → (cond k (with_name found n) found) q ≡ cond k (bytes_eq q n || found q) (found q)
shown true found n q = refl
shown false found n q = refl

same_name : (t b w f : Bool) → (cond t true f || ((b && true) || w)) ≡ (f || (t || (b || w)))
same_name true b w true = refl
same_name true b w false = refl
same_name false true w true = refl
same_name false true w false = refl
same_name false false w true = refl
same_name false false w false = refl

other_name : (k b t w f : Bool) → (cond k f f || ((b && t) || w)) ≡ (f || ((b && t) || w))
other_name true b t w f = refl
other_name false b t w f = refl

either : (a k b t w f : Bool) → (a ≡ true → k ≡ t) → (cond k (a || f) f || ((b && (a || t)) || w)) ≡ (f || (((a || b) && t) || ((a && b) || w)))
either true k b t w f same = subst (λ (x : Bool). (cond x true f || ((b && true) || w)) ≡ (f || (t || (b || w)))) (sym (same refl)) (same_name t b w f)
either false k b t w f same = other_name k b t w f

found_next : (known found : Known) (n q : List ℕ) (b w : Bool)
    → (with_known known n found q || ((b && (bytes_eq q n || known q)) || w)) ≡ (found q || (((bytes_eq q n || b) && known q) || ((bytes_eq q n && b) || w)))
found_next known found n q b w =
    ap (λ (x : Bool). x || ((b && (bytes_eq q n || known q)) || w)) (shown (known n) found n q)
    ∙ either (bytes_eq q n) (known n) b (known q) w (found q) (λ e. ap known (sym ((bytes_eq-Decides q n).0 e)))

all_found : (known found : Known) (ns : List (List ℕ)) (q : List ℕ) → found_in known found ns q ≡ (found q || ((stands ns q && known q) || stands_twice ns q))
all_found known found [] q = or_none (found q)
all_found known found (n ∷ ns) q = all_found (with_name known n) (with_known known n found) ns q ∙ found_next known found n q (stands ns q) (stands_twice ns q)

-- a name is known, or one after the other, exactly where it clashes
pub found_clashes : (read written : List (List ℕ)) → found_in (with_all no_names read) no_names written ≡ is_clash read written
found_clashes read written = fun_ext (λ (q : List ℕ).
    all_found (with_all no_names read) no_names written q
    ∙ ap (λ (t : Bool). (stands written q && t) || stands_twice written q) (all_stand no_names read q ∙ sym (or_none (stands read q))))
