-- The files of a sound portfolio have names of their own.
use Rattle.std.proofs.Common.{◌≡◌, ℕ, zero, suc, Bool, true, false, List, [], ◌∷◌, Option, Some, None, refl, sym, ap, ◌∙◌, subst}
use Rattle.std.specs.Prelude.{if◌then◌else◌, option_map, slice_get}
use Rattle.std.specs.Str.{bytes_eq}
use Rattle.std.proofs.lemmas.Slice.Eq.{bytes_eq-Decides}
use Rattle.data_layout.specs.declared.portfolio.FileUse.{FileUse}
use Rattle.data_layout.specs.declared.portfolio.Portfolio.{Portfolio}
use Rattle.file_uses.specs.Records.{records_from, with_place, with_record, with_records}
use Rattle.file_uses.specs.declared.record.FileRecord.{FileRecord}
use Rattle.gathered.specs.Sound.{IsSound}
use Rattle.job_files.specs.Numbers.{AreApart, external_of}

-- no file has that name
abbrev pub IsUnused : List ℕ → List FileUse → Type 0
IsUnused name [] = Unit {0}
IsUnused name (f ∷ fs) = (bytes_eq name f.external ≡ false) × IsUnused name fs

-- no name stands twice
abbrev pub AreOwn : List FileUse → Type 0
AreOwn [] = Unit {0}
AreOwn (f ∷ fs) = IsUnused f.external fs × AreOwn fs

true-false : ◌≡◌ {A = Bool} true false → ⊥
true-false e = cc e

none-some : {A : Type 0} {x : A} → ◌≡◌ {A = Option A} None (Some x) → ⊥
none-some e = cc e

some-same : {A : Type 0} {x y : A} → ◌≡◌ {A = Option A} (Some x) (Some y) → x ≡ y
some-same e = cc e

equal-itself : (name : List ℕ) → bytes_eq name name ≡ true
equal-itself name = (bytes_eq-Decides name name).1 refl

other-way : (a b : List ℕ) (x : Bool) → bytes_eq b a ≡ x → bytes_eq a b ≡ false → bytes_eq b a ≡ false
other-way a b true e h = absurd (true-false (sym (subst (λ (c : List ℕ). bytes_eq a c ≡ true) (sym ((bytes_eq-Decides b a).0 e)) (equal-itself a)) ∙ h))
other-way a b false e h = e

unused-with : (names : List ℕ → List ℕ) (name : List ℕ) (fs : List FileUse) (r : FileRecord) → bytes_eq name r.external ≡ false → IsUnused name fs → IsUnused name (with_record names fs r)
unused-with names name [] r other free = (other, tt)
unused-with names name (f ∷ fs) r other free = by_test (bytes_eq r.external f.external) (unused-with names name fs r other free.1) where
  by_test : (b : Bool) → IsUnused name (with_record names fs r) → IsUnused name (if b then with_place f r.place ∷ fs else f ∷ with_record names fs r)
  by_test true later = free
  by_test false later = (free.0, later)

own-with : (names : List ℕ → List ℕ) (fs : List FileUse) (r : FileRecord) → AreOwn fs → AreOwn (with_record names fs r)
own-with names [] r own = (tt, tt)
own-with names (f ∷ fs) r own = by_test (bytes_eq r.external f.external) refl (own-with names fs r own.1) where
  by_test : (b : Bool) → bytes_eq r.external f.external ≡ b → AreOwn (with_record names fs r) → AreOwn (if b then with_place f r.place ∷ fs else f ∷ with_record names fs r)
  by_test true e later = own
  by_test false e later = (unused-with names f.external fs r (other-way r.external f.external (bytes_eq f.external r.external) refl e) own.0, later)

own-all : (names : List ℕ → List ℕ) (fs : List FileUse) (rs : List FileRecord) → AreOwn fs → AreOwn (with_records names fs rs)
own-all names fs [] own = own
own-all names fs (r ∷ rs) own = own-all names (with_record names fs r) rs (own-with names fs r own)

unused-at : (name : List ℕ) (fs : List FileUse) (i : ℕ) → IsUnused name fs → option_map external_of (slice_get fs i) ≡ Some name → ⊥
unused-at name [] i free e = none-some e
unused-at name (f ∷ fs) zero free e =
    true-false (sym (subst (λ (c : List ℕ). bytes_eq name c ≡ true) (sym (some-same e)) (equal-itself name)) ∙ free.0)
unused-at name (f ∷ fs) (suc i) free e = unused-at name fs i free.1 e

own-apart : (fs : List FileUse) → AreOwn fs → AreApart fs
own-apart [] own i j name first second = absurd (none-some first)
own-apart (f ∷ fs) own zero zero name first second = refl
own-apart (f ∷ fs) own zero (suc j) name first second =
    absurd (unused-at f.external fs j own.0 (second ∙ sym first))
own-apart (f ∷ fs) own (suc i) zero name first second =
    absurd (unused-at f.external fs i own.0 (first ∙ sym second))
own-apart (f ∷ fs) own (suc i) (suc j) name first second = ap suc (own-apart fs own.1 i j name first second)

pub sound-apart : (p : Portfolio) → IsSound p → AreApart p.files
sound-apart p sound = subst AreApart (sym sound.listed) (own-apart (with_records sound.names [] (records_from 0 p.programs p.layouts)) (own-all sound.names [] (records_from 0 p.programs p.layouts) tt))
