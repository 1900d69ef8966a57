-- Where the cuts of a record stand, one after the other.
use Rattle.std.proofs.Common.{◌≡◌, ℕ, zero, suc, ◌+◌, ◌-◌, ◌<◌, ◌≤◌, ◌&&◌, Bool, true, false, cond, ltb, inl, inr, List, [], ◌∷◌, length, take, drop, None, Some, slice_get, get_or, refl, sym, ap, ◌∙◌, arith, Contains}
use Rattle.std.specs.List.Sorted.{IsNonDecreasingBy}
use Rattle.std.specs.Prelude.{filter, IfNone, Option}
use Rattle.std.proofs.lemmas.Bool.{cases_lt, lt-leb, le-leb, le-ltb, lt-ltb}
use Rattle.std.proofs.lemmas.Option.{slice_get-get_or}
use Rattle.year_image.specs.Piece.{width}
use Rattle.file_convert.specs.declared.cut.Cut.{Cut}
use Rattle.file_convert.specs.declared.cut.CutKind.TheVariants as kinds
use Rattle.file_convert.specs.Cuts.{piece_of, IsInOrderFrom}
use Rattle.plan_images.specs.Edges.{begins_between, IsLast}

-- the first `count` cuts are those that begin before that offset
abbrev pub AreBegun : List Cut → ℕ → ℕ → Type 0
AreBegun cs count s = (count ≤ length cs) × ((i : ℕ) (d : Cut) → i < count → (get_or cs i d).offset < s) × ((i : ℕ) (d : Cut) → count ≤ i → i < length cs → s ≤ (get_or cs i d).offset)

pub begun_rest : (c : Cut) (cs : List Cut) (count s : ℕ) → AreBegun (c ∷ cs) (suc count) s → AreBegun cs count s
begun_rest c cs count s b = (omega (arith, b.0), λ i d l. b.1 (suc i) d (omega arith), λ i d l m. b.2 (suc i) d (omega arith) (omega arith))

-- no cut begins before the first offset
pub starts_from : (at end : ℕ) (cs : List Cut) (i : ℕ) (d : Cut) → IsInOrderFrom at end cs → i < length cs → at ≤ (get_or cs i d).offset
starts_from at end [] i d h l = absurd (omega arith)
starts_from at end (c ∷ cs) zero d h l = h.0
starts_from at end (c ∷ cs) (suc i) d h l =
    let later : c.offset + width (piece_of c) ≤ (get_or cs i d).offset = starts_from (c.offset + width (piece_of c)) end cs i d h.2 (omega arith) in
    omega (arith, later, h.0)

-- each ends before those behind it begin
pub ends_before : (at end : ℕ) (cs : List Cut) (i j : ℕ) (d : Cut) → IsInOrderFrom at end cs → i < j → j < length cs → (get_or cs i d).offset + width (piece_of (get_or cs i d)) ≤ (get_or cs j d).offset
ends_before at end [] i j d h l m = absurd (omega arith)
ends_before at end (c ∷ cs) i zero d h l m = absurd (omega arith)
ends_before at end (c ∷ cs) zero (suc j) d h l m = starts_from (c.offset + width (piece_of c)) end cs j d h.2 (omega arith)
ends_before at end (c ∷ cs) (suc i) (suc j) d h l m = ends_before (c.offset + width (piece_of c)) end cs i j d h.2 (omega arith) (omega arith)

pub rising : (at end : ℕ) (cs : List Cut) → IsInOrderFrom at end cs → IsNonDecreasingBy (λ (c : Cut). c.offset) cs
rising at end cs h i j d l m = elim (cases_lt i j) [
  | inl less ↦ omega (arith, ends_before at end cs i j d h less m)
  | inr same ↦ let e : i ≡ j = omega arith in let f : (get_or cs i d).offset ≡ (get_or cs j d).offset = ap (λ (n : ℕ). (get_or cs n d).offset) e in omega (arith, f)
]

-- where the next cut begins before the offset, this one ends before it
pub first_ended : (at end s : ℕ) (c : Cut) (cs : List Cut) (count : ℕ) → IsInOrderFrom at end (c ∷ cs) → AreBegun (c ∷ cs) (suc count) s → ((x : Cut) → IsLast (c ∷ cs) (suc count) x → x.offset + width (piece_of x) ≤ s) → c.offset + width (piece_of c) ≤ s
first_ended at end s c cs zero h b ended = ended c (0, refl, refl)
first_ended at end s c [] (suc count) h b ended = absurd (omega (arith, b.0))
first_ended at end s c (n ∷ cs) (suc count) h b ended = omega (arith, h.2.0, b.1 1 n (omega arith))

-- no other begins before the end of this one
pub none_begun : (at end s : ℕ) (c : Cut) (cs : List Cut) (count : ℕ) → IsInOrderFrom at end (c ∷ cs) → AreBegun (c ∷ cs) (suc count) s → s ≤ c.offset + width (piece_of c) → count ≡ 0
none_begun at end s c cs zero h b low = refl
none_begun at end s c [] (suc count) h b low = absurd (omega (arith, b.0))
none_begun at end s c (n ∷ cs) (suc count) h b low = absurd (omega (arith, h.2.0, b.1 1 n (omega arith), low))

-- of the cuts that begin before an offset only the last can end behind it
pub only_last : (at end s t count : ℕ) (cs : List Cut) → IsInOrderFrom at end cs → AreBegun cs count s → s ≤ t + 1 → ((x : Cut) → IsLast cs count x → x.offset + width (piece_of x) ≤ t) → (c : Cut) → Contains cs c → c.offset < s → t < c.offset + width (piece_of c) → ⊥
only_last at end s t count cs h b near ended c there begins ends =
    let i = there.0 in
    let same : (get_or cs i c).offset ≡ c.offset = ap (λ (x : Cut). x.offset) there.2 in
    let last_byte : (get_or cs i c).offset + width (piece_of (get_or cs i c)) ≡ c.offset + width (piece_of c) = ap (λ (x : Cut). x.offset + width (piece_of x)) there.2 in
    elim (cases_lt i count) [
      | inl begun ↦ elim (cases_lt (i + 1) count) [
        | inl before ↦
            let next : (get_or cs i c).offset + width (piece_of (get_or cs i c)) ≤ (get_or cs (i + 1) c).offset = ends_before at end cs i (i + 1) c h (omega arith) (omega (arith, b.0)) in
            let low : (get_or cs (i + 1) c).offset < s = b.1 (i + 1) c before in
            omega (arith, next, low, last_byte, ends, near)
        | inr last ↦
            let is : slice_get cs i ≡ Some c = slice_get-get_or cs i c there.1 ∙ ap (λ (x : Cut). Some x) there.2 in
            let low : c.offset + width (piece_of c) ≤ t = ended c (i, omega arith, is) in
            omega (arith, low, ends)
      ]
      | inr later ↦ let low : s ≤ (get_or cs i c).offset = b.2 i c later there.1 in omega (arith, low, same, begins)
    ]

-- fewer cuts begin before an earlier offset
pub fewer : (cs : List Cut) (first last s e : ℕ) → AreBegun cs first s → AreBegun cs last e → s ≤ e → first ≤ last
fewer cs first last s e b c l = elim (cases_lt last first) [
  | inl more ↦ absurd (
      let none : Cut = record { offset = 0; kind = kinds.Pair; pivot = None } in
      omega (arith, b.1 last none more, c.2 last none (omega arith) (omega (arith, b.0)), l))
  | inr at_most ↦ at_most
]

begun_none : (c : Cut) (cs : List Cut) (s : ℕ) → AreBegun (c ∷ cs) 0 s → AreBegun cs 0 s
begun_none c cs s b = (omega arith, λ i d l. absurd (omega (arith, l)), λ i d l m. b.2 (suc i) d (omega arith) (omega (arith, m)))

not_yet : (s e : ℕ) (c : Cut) → c.offset < s → begins_between s e c ≡ false
not_yet s e c l = ap (λ (b : Bool). b && ltb c.offset e) (lt-leb s c.offset l)

no_more : (s e : ℕ) (c : Cut) → s ≤ c.offset → e ≤ c.offset → begins_between s e c ≡ false
no_more s e c l m = ap (λ (b : Bool). b && ltb c.offset e) (le-leb s c.offset l) ∙ le-ltb c.offset e m

now : (s e : ℕ) (c : Cut) → s ≤ c.offset → c.offset < e → begins_between s e c ≡ true
now s e c l m = ap (λ (b : Bool). b && ltb c.offset e) (le-leb s c.offset l) ∙ lt-ltb c.offset e m

-- the cuts that begin between two offsets
pub between : (cs : List Cut) (first last s e : ℕ) → AreBegun cs first s → AreBegun cs last e → s ≤ e → take (last - first) (drop first cs) ≡ filter (begins_between s e) cs
between [] zero zero s e b f l = refl
between [] zero (suc last) s e b f l = absurd (omega (arith, f.0))
between [] (suc first) last s e b f l = absurd (omega (arith, b.0))
between (c ∷ cs) zero zero s e b f l =
    let low : s ≤ c.offset = b.2 0 c (omega arith) (omega arith) in
    let high : e ≤ c.offset = f.2 0 c (omega arith) (omega arith) in
    let rest : take 0 (drop 0 cs) ≡ filter (begins_between s e) cs = between cs 0 0 s e (begun_none c cs s b) (begun_none c cs e f) l in
    rest ∙ ap (λ (t : Bool). cond t (c ∷ filter (begins_between s e) cs) (filter (begins_between s e) cs)) (sym (no_more s e c low high))
between (c ∷ cs) zero (suc last) s e b f l =
    let low : s ≤ c.offset = b.2 0 c (omega arith) (omega arith) in
    let high : c.offset < e = f.1 0 c (omega arith) in
    let rest : take (last - 0) cs ≡ filter (begins_between s e) cs = between cs 0 last s e (begun_none c cs s b) (begun_rest c cs last e f) l in
    let one : suc last - 0 ≡ suc (last - 0) = omega arith in
    ap (λ (n : ℕ). take n (c ∷ cs)) one ∙ ap (λ (l : List Cut). c ∷ l) rest
    ∙ ap (λ (t : Bool). cond t (c ∷ filter (begins_between s e) cs) (filter (begins_between s e) cs)) (sym (now s e c low high))
between (c ∷ cs) (suc first) zero s e b f l = absurd (omega (arith, b.1 0 c (omega arith), f.2 0 c (omega arith) (omega arith), l))
between (c ∷ cs) (suc first) (suc last) s e b f l =
    let rest : take (last - first) (drop first cs) ≡ filter (begins_between s e) cs = between cs first last s e (begun_rest c cs first s b) (begun_rest c cs last e f) l in
    let same : suc last - suc first ≡ last - first = omega arith in
    ap (λ (n : ℕ). take n (drop first cs)) same ∙ rest
    ∙ ap (λ (t : Bool). cond t (c ∷ filter (begins_between s e) cs) (filter (begins_between s e) cs)) (sym (not_yet s e c (b.1 0 c (omega arith))))

-- what is said where there is none
pub if_none : {P Q : Type 0} (r : Option Cut) → (P → Q) → IfNone r P → IfNone r Q
if_none None f h = f h
if_none (Some x) f h = h
