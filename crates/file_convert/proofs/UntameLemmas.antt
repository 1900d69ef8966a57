-- A record is tame where no cut is untame.
use Rattle.std.proofs.Common.{◌≡◌, ℕ, ◌+◌, ◌-◌, ◌≤◌, cond, inl, inr, List, [], ◌∷◌, ◌++◌, length, take, drop, Some, None, refl, sym, ap, ◌∙◌, subst, arith, length-drop}
use Rattle.std.specs.Prelude.{replicate}
use Rattle.std.proofs.lemmas.Bool.{cases_Bool}
use Rattle.std.proofs.lemmas.List.{drop-drop, length-take-le, take-append-drop}
use Rattle.year_image.specs.Piece.{Keep, width}
use Rattle.year_image.specs.Image.{tame, IsTame}
use Rattle.byte_lists.specs.Part.{part}
use Rattle.year_image.proofs.Spans.{tame-append}
use Rattle.year_image.proofs.NumberImages.{size-keep, tame-keep, tame-join}
use Rattle.file_convert.specs.declared.cut.Cut.{Cut}
use Rattle.file_convert.specs.Cuts.{piece_of, pieces_from, IsInOrderFrom, first_untame, is_tame_at}
use Rattle.file_convert.proofs.CutLemmas.{order_end}

pub tame_from_none : (at end : ℕ) (cs : List Cut) (source : List ℕ) → IsInOrderFrom at end cs → length source ≡ end → first_untame cs source ≡ None → IsTame 48 (pieces_from at end cs) (drop at source)
tame_from_none at end [] source h ls e = tame-keep 48 (end - at) (drop at source) (omega (arith, length-drop at source))
tame_from_none at end (c ∷ cs) source h ls e =
    let p = piece_of c in
    let gap = c.offset - at in
    let ps = pieces_from (c.offset + width p) end cs in
    let bytes = part source c.offset (width p) in
    let inside : c.offset + width p ≤ end = order_end (c.offset + width p) end cs h.2 in
    let xs = take gap (drop at source) in
    let lx : length xs ≡ gap = length-take-le gap (drop at source) (omega (arith, h.0, length-drop at source)) in
    let sum : at + gap ≡ c.offset = omega (arith, h.0) in
    let back : drop gap (drop at source) ≡ drop c.offset source = drop-drop gap at source ∙ ap (λ n. drop n source) sum in
    elim (cases_Bool (tame 48 p bytes)) [
      | inl calm ↦
          let later : first_untame cs source ≡ None = ap (λ t. cond t (first_untame cs source) (Some c)) (sym calm) ∙ e in
          let P : List ℕ → Type 0 = λ l. IsTame 48 ps l in
          let Q : List ℕ → Type 0 = λ l. IsTame 48 (p ∷ ps) l in
          let R : List ℕ → Type 0 = λ l. IsTame 48 (replicate gap Keep ++ (p ∷ ps)) l in
          let rest : IsTame 48 (p ∷ ps) (drop c.offset source) = (calm, subst P (sym (drop-drop (width p) c.offset source)) (tame_from_none (c.offset + width p) end cs source h.2 ls later)) in
          subst R (take-append-drop gap (drop at source))
          (tame-join 48 (replicate gap Keep) (p ∷ ps) xs (drop gap (drop at source)) (lx ∙ sym (size-keep gap)) (tame-keep 48 gap xs lx) (subst Q (sym back) rest))
      | inr wild ↦
          let found : Some c ≡ None = ap (λ t. cond t (first_untame cs source) (Some c)) (sym wild) ∙ e in
          absurd (cc)
    ]

pub none_from_tame : (at end : ℕ) (cs : List Cut) (source : List ℕ) → IsInOrderFrom at end cs → length source ≡ end → IsTame 48 (pieces_from at end cs) (drop at source) → first_untame cs source ≡ None
none_from_tame at end [] source h ls t = refl
none_from_tame at end (c ∷ cs) source h ls t =
    let p = piece_of c in
    let gap = c.offset - at in
    let ps = pieces_from (c.offset + width p) end cs in
    let bytes = part source c.offset (width p) in
    let inside : c.offset + width p ≤ end = order_end (c.offset + width p) end cs h.2 in
    let xs = take gap (drop at source) in
    let lx : length xs ≡ gap = length-take-le gap (drop at source) (omega (arith, h.0, length-drop at source)) in
    let sum : at + gap ≡ c.offset = omega (arith, h.0) in
    let back : drop gap (drop at source) ≡ drop c.offset source = drop-drop gap at source ∙ ap (λ n. drop n source) sum in
    let P : List ℕ → Type 0 = λ l. IsTame 48 ps l in
    let Q : List ℕ → Type 0 = λ l. IsTame 48 (p ∷ ps) l in
    let R : List ℕ → Type 0 = λ l. IsTame 48 (replicate gap Keep ++ (p ∷ ps)) l in
    let parts = tame-append 48 (replicate gap Keep) (p ∷ ps) xs (drop gap (drop at source)) (lx ∙ sym (size-keep gap)) (subst R (sym (take-append-drop gap (drop at source))) t) in
    let rest : IsTame 48 (p ∷ ps) (drop c.offset source) = subst Q back parts.1 in
    ap (λ b. cond b (first_untame cs source) (Some c)) rest.0
    ∙ none_from_tame (c.offset + width p) end cs source h.2 ls (subst P (drop-drop (width p) c.offset source) rest.1)

-- the first cut that is not tame lies within the record
pub first_inside : (at end : ℕ) (cs : List Cut) (source : List ℕ) (c : Cut) → IsInOrderFrom at end cs → first_untame cs source ≡ Some c → c.offset + width (piece_of c) ≤ end
first_inside at end [] source c h e = absurd (cc)
first_inside at end (d ∷ cs) source c h e =
    elim (cases_Bool (is_tame_at d source)) [
      | inl calm ↦ first_inside (d.offset + width (piece_of d)) end cs source c h.2 (ap (λ t. cond t (first_untame cs source) (Some d)) (sym calm) ∙ e)
      | inr wild ↦
          let found : Some d ≡ Some c = ap (λ t. cond t (first_untame cs source) (Some d)) (sym wild) ∙ e in
          let same : d ≡ c = cc in
          let P : Cut → Type 0 = λ x. x.offset + width (piece_of x) ≤ end in
          subst P same (order_end (d.offset + width (piece_of d)) end cs h.2)
    ]
