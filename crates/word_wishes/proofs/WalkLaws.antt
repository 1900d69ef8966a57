-- The walk along wishes in order gives at each place what the wishes for it come to.
use Rattle.std.proofs.Common.{◌≡◌, ℕ, suc, ◌+◌, ◌==◌, ◌&&◌, ◌++◌, ◌<◌, ◌≤◌, Bool, true, false, not, cond, List, [], ◌∷◌, length, refl, sym, ap, ◌∙◌, subst, arith}
use Rattle.std.specs.List.{filter, list_any, AllByRecursion}
use Rattle.std.specs.declared.cmp.Ordering.{Ordering}
use Rattle.std.specs.declared.cmp.Ordering.TheVariants.{Less, Equal, Greater}
use Rattle.std.specs.Ordering.{nat_cmp, ordering_reverse, is_lt, is_eq}
use Rattle.std.specs.Cmp.{unsigned_ties, tied_then}
use Rattle.std.proofs.lemmas.Bool.{eqb-true, eq-eqb, true≢false}
use Rattle.std.proofs.lemmas.List.{append-nil}
use Rattle.std.proofs.lemmas.List.Elements.{filter-append, recursion_from_All}
use Rattle.std.proofs.lemmas.List.Sorted.{sorted_far, ranks_by}
use Rattle.y2k_base.specs.declared.edit.Edit.{Edit}
use Rattle.y2k_base.specs.declared.edit.WordPlace.{WordPlace}
use Rattle.y2k_base.specs.Edits.{word_of, place_cmp, AreInOrder, is_of, edits_of, AreJoined}
use Rattle.y2k_base.proofs.EditLaws.{place_total}
use Rattle.y2k_base.proofs.Each.{each-more}
use Rattle.cobol_syntax.specs.declared.program.Program.{Program}
use Rattle.word_wishes.specs.Chosen.{wants, with_wish, different, are_kept, unless_kept, come_to, AreChosen}
use Rattle.word_wishes.specs.Walk.{edits_from}

-- Places.

abbrev before : Edit → Edit → Bool
before x y = is_lt (place_cmp (word_of x) (word_of y))

is_of-cmp : (p : WordPlace) (e : Edit) → is_of p e ≡ is_eq (place_cmp (word_of e) p)
is_of-cmp p e =
    ap (λ (b : Bool). b && (e.position == p.position)) (unsigned_ties e.program p.program)
    ∙ ap (λ (b : Bool). is_eq (nat_cmp e.program p.program) && b) (unsigned_ties e.position p.position)
    ∙ tied_then (nat_cmp e.program p.program) (nat_cmp e.position p.position)

place-is : (p : WordPlace) (e : Edit) → is_of p e ≡ true → word_of e ≡ p
place-is p e same =
    elim (e.program == p.program) as (λ (b : Bool). (e.program == p.program) ≡ b → (b && (e.position == p.position)) ≡ true → word_of e ≡ p) [
      | true ↦ λ left right.
          ap (λ (n : ℕ). let w : WordPlace = record { program = n; position = e.position } in w) (eqb-true e.program p.program left)
          ∙ ap (λ (n : ℕ). let w : WordPlace = record { program = p.program; position = n } in w) (eqb-true e.position p.position right)
      | false ↦ λ left right. absurd (true≢false (sym right))
    ] refl same

of-itself : (e : Edit) → is_of (word_of e) e ≡ true
of-itself e =
    ap (λ (b : Bool). b && (e.position == e.position)) (eq-eqb e.program e.program refl)
    ∙ eq-eqb e.position e.position refl

level : (r s : Ordering) → r ≡ ordering_reverse s → is_lt r ≡ false → is_lt s ≡ false → is_eq r ≡ true
level Less s e l m = absurd (true≢false l)
level Equal s e l m = refl
level Greater Less e l m = absurd (true≢false m)
level Greater Equal e l m = absurd (true≢false (sym (ap is_eq e)))
level Greater Greater e l m = absurd (true≢false (sym (ap is_lt e)))

-- neither of the two stands before the other
together : (p e : Edit) → before e p ≡ false → before p e ≡ false → is_of (word_of p) e ≡ true
together p e first second =
    is_of-cmp (word_of p) e ∙ level (place_cmp (word_of e) (word_of p)) (place_cmp (word_of p) (word_of e)) (place_total.antisymm (word_of e) (word_of p)) first second

-- Order.

abbrev AreBehind : Edit → List Edit → Type 0
AreBehind p es = AllByRecursion (λ e. before e p ≡ false) es

abbrev Rises : List Edit → Type 0
Rises [] = Unit {0}
Rises (e ∷ es) = AreBehind e es × Rises es

behind-first : (e : Edit) (es : List Edit) → AreInOrder (e ∷ es) → AreBehind e es
behind-first e es sorted =
    recursion_from_All (λ x. before x e ≡ false) es
    (λ k d lt. sorted_far before (ranks_by place_total word_of) (e ∷ es) sorted 0 (suc k) d (omega arith) (omega (arith, lt)))

rises : (es : List Edit) → AreInOrder es → Rises es
rises [] sorted = tt
rises (e ∷ es) sorted = (
  behind-first e es sorted,
  rises es (λ k d low high.
      sorted_far before (ranks_by place_total word_of) (e ∷ es) sorted (suc k) (suc (k + 1)) d (omega arith) (omega (arith, high))),
)

-- What passes.

abbrev AreAt : Edit → List Edit → Type 0
AreAt p es = AllByRecursion (λ e. is_of (word_of p) e ≡ true) es

pick : (b : Bool) (x : Edit) (xs : List Edit) → b ≡ true → cond b (x ∷ xs) xs ≡ x ∷ xs
pick true x xs e = refl
pick false x xs e = absurd (true≢false (sym e))

leave : (b : Bool) (x : Edit) (xs : List Edit) → b ≡ false → cond b (x ∷ xs) xs ≡ xs
leave false x xs e = refl
leave true x xs e = absurd (true≢false e)

all-pass : (p : Edit) (es : List Edit) → AreAt p es → edits_of (word_of p) es ≡ es
all-pass p [] at = refl
all-pass p (e ∷ es) at = pick (is_of (word_of p) e) e (edits_of (word_of p) es) at.0 ∙ ap (λ (xs : List Edit). e ∷ xs) (all-pass p es at.1)

-- an edit at the place of another is at no other place than that
elsewhere-too : (q : WordPlace) (p e : Edit) → is_of q p ≡ false → is_of (word_of p) e ≡ true → is_of q e ≡ false
elsewhere-too q p e other at =
    ap (λ (w : WordPlace). w.program == q.program && w.position == q.position) (place-is (word_of p) e at) ∙ other

none-pass : (q : WordPlace) (p : Edit) (es : List Edit) → is_of q p ≡ false → AreAt p es → edits_of q es ≡ []
none-pass q p [] other at = refl
none-pass q p (e ∷ es) other at =
    leave (is_of q e) e (edits_of q es) (elsewhere-too q p e other at.0) ∙ none-pass q p es other at.1

-- behind an edit past a place nothing is at that place
absent : (p e : Edit) (es : List Edit) → before e p ≡ false → is_of (word_of p) e ≡ false → AreBehind e es → edits_of (word_of p) es ≡ []
absent p e [] past other behind = refl
absent p e (x ∷ es) past other behind =
    elim (is_of (word_of p) x) as (λ (b : Bool). is_of (word_of p) x ≡ b → cond b (x ∷ edits_of (word_of p) es) (edits_of (word_of p) es) ≡ []) [
      | true ↦ λ at. absurd (true≢false (sym (together p e past (subst (λ (w : WordPlace). is_lt (place_cmp w (word_of e)) ≡ false) (place-is (word_of p) x at) behind.0)) ∙ other))
      | false ↦ λ _. absent p e es past other behind.1
    ] refl

kept-pass : (programs : List Program) (p : Edit) (es : List Edit) → AreAt p es → edits_of (word_of p) (unless_kept programs es) ≡ unless_kept programs es
kept-pass programs p es at =
    elim (are_kept programs es) as (λ (b : Bool). edits_of (word_of p) (cond b [] es) ≡ cond b [] es) [
      | true ↦ refl
      | false ↦ all-pass p es at
    ]

kept-none : (programs : List Program) (q : WordPlace) (p : Edit) (es : List Edit) → is_of q p ≡ false → AreAt p es → edits_of q (unless_kept programs es) ≡ []
kept-none programs q p es other at =
    elim (are_kept programs es) as (λ (b : Bool). edits_of q (cond b [] es) ≡ []) [
      | true ↦ refl
      | false ↦ none-pass q p es other at
    ]

-- The walk.

abbrev Here : List Program → Edit → List Edit → List Edit → Type 0
Here programs p seen es = edits_of (word_of p) (edits_from programs seen es) ≡ unless_kept programs (different seen (edits_of (word_of p) es))

abbrev There : List Program → Edit → List Edit → List Edit → Type 0
There programs p seen es = (q : WordPlace) → is_of q p ≡ false → edits_of q (edits_from programs seen es) ≡ come_to programs (edits_of q es)

abbrev Both : List Program → Edit → List Edit → List Edit → Type 0
Both programs p seen es = Here programs p seen es × There programs p seen es

at-itself : (p : Edit) (seen : List Edit) → AreAt p seen → AreAt p (p ∷ seen)
at-itself p seen at = (of-itself p, at)

-- it goes on at the place
stays : (programs : List Program) (p : Edit) (seen : List Edit) (w : Edit) (es : List Edit) → is_of (word_of p) w ≡ true
    → Both programs p (with_wish (p ∷ seen) w) es → Both programs p (p ∷ seen) (w ∷ es)
stays programs p seen w es at rest = (
  subst (λ (b : Bool). edits_of (word_of p) (cond (not b) (unless_kept programs (p ∷ seen) ++ edits_from programs (with_wish [] w) es) (edits_from programs (with_wish (p ∷ seen) w) es))
      ≡ unless_kept programs (different (p ∷ seen) (cond b (w ∷ edits_of (word_of p) es) (edits_of (word_of p) es)))) (sym at) rest.0,
  λ q other.
      subst (λ (b : Bool). edits_of q (cond (not b) (unless_kept programs (p ∷ seen) ++ edits_from programs (with_wish [] w) es) (edits_from programs (with_wish (p ∷ seen) w) es))
      ≡ come_to programs (edits_of q (w ∷ es))) (sym at)
      (rest.1 q other ∙ ap (come_to programs) (sym (leave (is_of q w) w (edits_of q es) (elsewhere-too q p w other at)))),
)

-- it goes on at another place
leaves-here : (programs : List Program) (p : Edit) (seen : List Edit) (w : Edit) (es : List Edit) → is_of (word_of p) w ≡ false
    → AreAt p seen → before w p ≡ false → AreBehind w es → There programs w (w ∷ []) es
    → edits_of (word_of p) (unless_kept programs (p ∷ seen) ++ edits_from programs (w ∷ []) es) ≡ unless_kept programs (different (p ∷ seen) (edits_of (word_of p) es))
leaves-here programs p seen w es other at past behind rest =
    filter-append (is_of (word_of p)) (unless_kept programs (p ∷ seen)) (edits_from programs (w ∷ []) es)
    ∙ ap (λ (xs : List Edit). xs ++ edits_of (word_of p) (edits_from programs (w ∷ []) es)) (kept-pass programs p (p ∷ seen) (at-itself p seen at))
    ∙ ap (λ (xs : List Edit). unless_kept programs (p ∷ seen) ++ xs) (rest (word_of p) other ∙ ap (come_to programs) (absent p w es past other behind))
    ∙ append-nil (unless_kept programs (p ∷ seen))
    ∙ ap (λ (xs : List Edit). unless_kept programs (different (p ∷ seen) xs)) (sym (absent p w es past other behind))

leaves-there : (programs : List Program) (p : Edit) (seen : List Edit) (w : Edit) (es : List Edit) → AreAt p seen → Both programs w (w ∷ []) es
    → (q : WordPlace) → is_of q p ≡ false → edits_of q (unless_kept programs (p ∷ seen) ++ edits_from programs (w ∷ []) es) ≡ come_to programs (edits_of q (w ∷ es))
leaves-there programs p seen w es at rest q other =
    filter-append (is_of q) (unless_kept programs (p ∷ seen)) (edits_from programs (w ∷ []) es)
    ∙ ap (λ (xs : List Edit). xs ++ edits_of q (edits_from programs (w ∷ []) es)) (kept-none programs q p (p ∷ seen) other (at-itself p seen at))
    ∙ elim (is_of q w) as (λ (b : Bool). is_of q w ≡ b → edits_of q (edits_from programs (w ∷ []) es) ≡ come_to programs (cond b (w ∷ edits_of q es) (edits_of q es))) [
      | true ↦ λ here. subst (λ (x : WordPlace). edits_of x (edits_from programs (w ∷ []) es) ≡ come_to programs (w ∷ edits_of x es)) (place-is q w here) rest.0
      | false ↦ λ none. rest.1 q none
    ] refl

leaves : (programs : List Program) (p : Edit) (seen : List Edit) (w : Edit) (es : List Edit) → is_of (word_of p) w ≡ false
    → AreAt p seen → before w p ≡ false → AreBehind w es → Both programs w (w ∷ []) es → Both programs p (p ∷ seen) (w ∷ es)
leaves programs p seen w es other at past behind rest = (
  subst (λ (b : Bool). edits_of (word_of p) (cond (not b) (unless_kept programs (p ∷ seen) ++ edits_from programs (w ∷ []) es) (edits_from programs (with_wish (p ∷ seen) w) es))
      ≡ unless_kept programs (different (p ∷ seen) (cond b (w ∷ edits_of (word_of p) es) (edits_of (word_of p) es)))) (sym other)
      (leaves-here programs p seen w es other at past behind rest.1),
  λ q far.
      subst (λ (b : Bool). edits_of q (cond (not b) (unless_kept programs (p ∷ seen) ++ edits_from programs (w ∷ []) es) (edits_from programs (with_wish (p ∷ seen) w) es))
      ≡ come_to programs (edits_of q (w ∷ es))) (sym other) (leaves-there programs p seen w es at rest q far),
)

walked : (programs : List Program) (p : Edit) (seen es : List Edit) → AreAt p seen → AreBehind p es → Rises es → Both programs p (p ∷ seen) es
walked programs p seen [] at behind rising = (
  kept-pass programs p (p ∷ seen) (at-itself p seen at),
  λ q other. kept-none programs q p (p ∷ seen) other (at-itself p seen at),
)
walked programs p seen (w ∷ es) at behind rising =
    elim (is_of (word_of p) w) as (λ (b : Bool). is_of (word_of p) w ≡ b → Both programs p (p ∷ seen) (w ∷ es)) [
      | true ↦ λ here. stays programs p seen w es here
          (elim (list_any (wants w.words) (p ∷ seen)) as (λ (c : Bool). Both programs p (cond c (p ∷ seen) (p ∷ (seen ++ w ∷ []))) es) [
            | true ↦ walked programs p seen es at behind.1 rising.1
            | false ↦ walked programs p (seen ++ w ∷ []) es (each-more (λ e. is_of (word_of p) e ≡ true) seen w at here) behind.1 rising.1
          ])
      | false ↦ λ other. leaves programs p seen w es other at behind.0 rising.0 (walked programs w [] es tt rising.0 rising.1)
    ] refl

from-start : (programs : List Program) (es : List Edit) → Rises es → (q : WordPlace) → edits_of q (edits_from programs [] es) ≡ come_to programs (edits_of q es)
from-start programs [] rising q = refl
from-start programs (w ∷ es) rising q =
    let rest = walked programs w [] es tt rising.0 rising.1 in
    elim (is_of q w) as (λ (b : Bool). is_of q w ≡ b → edits_of q (edits_from programs (w ∷ []) es) ≡ come_to programs (cond b (w ∷ edits_of q es) (edits_of q es))) [
      | true ↦ λ here. subst (λ (x : WordPlace). edits_of x (edits_from programs (w ∷ []) es) ≡ come_to programs (w ∷ edits_of x es)) (place-is q w here) rest.0
      | false ↦ λ none. rest.1 q none
    ] refl

pub chosen-are : (programs : List Program) (wishes ordered edits chosen : List Edit) → AreJoined wishes [] ordered
    → edits ≡ edits_from programs [] ordered → AreJoined edits [] chosen → AreChosen programs wishes chosen
chosen-are programs wishes ordered edits chosen first is second = record {
  ordered = second.ordered;
  chosen = λ q.
      second.chosen q ∙ ap (edits_of q) is ∙ from-start programs ordered (rises ordered first.ordered) q ∙ ap (come_to programs) (first.chosen q);
}
