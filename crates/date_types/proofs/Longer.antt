-- Items with one PICTURE word are alike, since each is tied to the longest before it.
use Rattle.std.proofs.Common.{◌≡◌, ◌⊎◌, inl, inr, ℕ, zero, suc, ◌+◌, ◌<◌, ◌≤◌, min, Bool, true, false, List, [], ◌∷◌, ◌++◌, length, Contains, Option, Some, None, sym, ap, ◌∙◌, subst, refl, arith, if◌then◌else◌}
use Rattle.std.specs.Prelude.{nat_lt, slice_index_or}
use Rattle.std.specs.declared.cmp.Ordering.{Ordering}
use Rattle.std.specs.declared.cmp.Ordering.TheVariants.{Less, Equal, Greater}
use Rattle.std.specs.Ordering.{nat_cmp, ordering_then, is_eq}
use Rattle.std.specs.Cmp.{tied_itself, nat_cmp_total}
use Rattle.std.proofs.lemmas.Bool.{ltb-true, ltb-false}
use Rattle.std.proofs.lemmas.Map.Lookups.{exact_unsigned}
use Rattle.std.proofs.lemmas.List.Elements.{Contains-push, Contains-append_left, Contains-append_right}
use Rattle.y2k_base.specs.declared.place.Span.{Span}
use Rattle.y2k_base.specs.declared.word.Origin.{Origin}
use Rattle.year_labels.specs.declared.label.Fact.{Fact}
use Rattle.year_labels.specs.declared.label.Label.{Label}
use Rattle.year_labels.specs.declared.rule.Rule.TheVariants as rule_names
use Rattle.year_labels.specs.declared.rule.RuleForm.TheVariants as forms
use Rattle.year_labels.specs.declared.rule.RuleInst.{RuleInst}
use Rattle.year_labels.specs.Facts.{fact_in}
use Rattle.date_views.specs.Uses.{inst, front}
use Rattle.date_types.specs.declared.pictures.Pictured.{Pictured}
use Rattle.date_types.specs.Pictures.{are_one, longer, after, tie, ties, none, pictured, picture_rules}
use Rattle.date_types.specs.Tables.{file_rules}
use Rattle.date_types.specs.Programs.{programs_rules}
use Rattle.date_types.specs.Whole.{rules}
use Rattle.date_types.specs.Alike.{IsClosedUnder, AreAlike}
use Rattle.date_types.specs.Laws.{ArePicturesAlike}
use Rattle.data_layout.specs.declared.portfolio.Portfolio.{Portfolio}
use Rattle.date_types.proofs.Among.{first_or_later}

then_equal : (r s : Ordering) → is_eq (ordering_then r s) ≡ true → (r ≡ Equal) × (s ≡ Equal)
then_equal Less s e = absurd (let f : false ≡ true = e in cc)
then_equal Equal Less e = absurd (let f : false ≡ true = e in cc)
then_equal Equal Equal e = (refl, refl)
then_equal Equal Greater e = absurd (let f : false ≡ true = e in cc)
then_equal Greater s e = absurd (let f : false ≡ true = e in cc)

is_equal : (r : Ordering) → r ≡ Equal → is_eq r ≡ true
is_equal r e = ap is_eq e

-- places that compare equal are one
one_place : (a b : Origin) → are_one a b ≡ true → a ≡ b
one_place a b e =
    let first = then_equal (nat_cmp a.file.0 b.file.0) (ordering_then (nat_cmp a.line b.line) (nat_cmp a.column b.column)) e in
    let second = then_equal (nat_cmp a.line b.line) (nat_cmp a.column b.column) (is_equal _ first.1) in
    let file : a.file.0 ≡ b.file.0 = exact_unsigned a.file.0 b.file.0 first.0 in
    let line : a.line ≡ b.line = exact_unsigned a.line b.line second.0 in
    let column : a.column ≡ b.column = exact_unsigned a.column b.column second.1 in
    λ i. record { file = record { 0 = file i }; line = line i; column = column i }

itself : (a : Origin) → are_one a a ≡ true
itself a =
    let file : nat_cmp a.file.0 a.file.0 ≡ Equal = tied_itself nat_cmp_total a.file.0 in
    let line : nat_cmp a.line a.line ≡ Equal = tied_itself nat_cmp_total a.line in
    let column : nat_cmp a.column a.column ≡ Equal = tied_itself nat_cmp_total a.column in
    ap (λ (r : Ordering). is_eq (ordering_then r (ordering_then (nat_cmp a.line a.line) (nat_cmp a.column a.column)))) file
    ∙ ap (λ (r : Ordering). is_eq (ordering_then r (nat_cmp a.column a.column))) line
    ∙ ap is_eq column

-- the first bytes of both are known to have the same labels
abbrev Same : List Fact → Span → Span → ℕ → Type 0
Same facts a b n = (k : ℕ) (label : Label) → k < n → (Contains facts (fact_in a k label) → Contains facts (fact_in b k label)) × (Contains facts (fact_in b k label) → Contains facts (fact_in a k label))

-- the longest item so far with the PICTURE word of x has the same labels as x
abbrev Covered : List Fact → (Origin → Option Pictured) → Pictured → Type 0
Covered facts before x = (m : Pictured) × (before x.origin ≡ Some m) × (x.span.length ≤ m.span.length) × Same facts x.span m.span x.span.length

abbrev tie_inst : Pictured → Pictured → RuleInst
tie_inst m one = inst rule_names.Origin one.at (forms.Alike (front m.span one.span.length) (front one.span m.span.length))

abbrev ends : (Origin → Option Pictured) → List Pictured → Origin → Option Pictured
ends before [] = before
ends before (one ∷ more) = ends (after before one) more

module _ (given : List RuleInst) (facts : List Fact) (closed : IsClosedUnder given facts) where
  by_tie : (m one : Pictured) → Contains given (tie_inst m one) → (n : ℕ) → n ≤ m.span.length → n ≤ one.span.length → Same facts m.span one.span n
  by_tie m one there n short small = λ k label lt.
      let left : k < min m.span.length one.span.length = omega (arith, lt, short, small) in
      let right : k < min one.span.length m.span.length = omega (arith, lt, short, small) in (
        λ known. closed (tie_inst m one) (fact_in one.span k label) there (inl (k, label, left, known, refl)),
        λ known. closed (tie_inst m one) (fact_in m.span k label) there (inr (k, label, right, known, refl)),
      )

  tied : (before : Origin → Option Pictured) (one m : Pictured) → ((r : RuleInst) → Contains (tie (before one.origin) one) r → Contains given r) → before one.origin ≡ Some m → Contains given (tie_inst m one)
  tied before one m sub e = sub (tie_inst m one) (subst (λ (q : Option Pictured). Contains (tie q one) (tie_inst m one)) (sym e) (Contains-push [] (tie_inst m one)))

  keeps : (before : Origin → Option Pictured) (one x : Pictured) → ((r : RuleInst) → Contains (tie (before one.origin) one) r → Contains given r) → Covered facts before x → Covered facts (after before one) x
  keeps before one x sub covered =
      let m : Pictured = covered.0 in
      let e : before x.origin ≡ Some m = covered.1 in
      let le : x.span.length ≤ m.span.length = covered.2 in
      let same : Same facts x.span m.span x.span.length = covered.3 in
      elim (are_one one.origin x.origin) as (λ (b : Bool). are_one one.origin x.origin ≡ b → (n : Pictured) × ((if b then Some (longer (before one.origin) one) else before x.origin) ≡ Some n) × (x.span.length ≤ n.span.length) × Same facts x.span n.span x.span.length) [
        | true ↦ λ h.
            let found : before one.origin ≡ Some m = ap before (one_place one.origin x.origin h) ∙ e in
            let chosen : Some (longer (before one.origin) one) ≡ Some (longer (Some m) one) = ap (λ (q : Option Pictured). Some (longer q one)) found in
            elim (nat_lt m.span.length one.span.length) as (λ (b : Bool). nat_lt m.span.length one.span.length ≡ b → (n : Pictured) × (Some (longer (before one.origin) one) ≡ Some n) × (x.span.length ≤ n.span.length) × Same facts x.span n.span x.span.length) [
              | true ↦ λ l.
                  let less : m.span.length < one.span.length = ltb-true m.span.length one.span.length l in
                  let next : Same facts m.span one.span x.span.length = by_tie m one (tied before one m sub found) x.span.length le (omega (arith, le, less)) in
                  (one, chosen ∙ ap (λ (b : Bool). Some (if b then one else m)) l, omega (arith, le, less), λ k label lt. (λ known. (next k label lt).0 ((same k label lt).0 known), λ known. (same k label lt).1 ((next k label lt).1 known)))
              | false ↦ λ l. (m, chosen ∙ ap (λ (b : Bool). Some (if b then one else m)) l, le, same)
            ] refl
        | false ↦ λ h. (m, e, le, same)
      ] refl

  begins : (before : Origin → Option Pictured) (one : Pictured) → ((r : RuleInst) → Contains (tie (before one.origin) one) r → Contains given r) → Covered facts (after before one) one
  begins before one sub =
      let there : after before one one.origin ≡ Some (longer (before one.origin) one) = ap (λ (b : Bool). if b then Some (longer (before one.origin) one) else before one.origin) (itself one.origin) in
      elim (before one.origin) as (λ (q : Option Pictured). before one.origin ≡ q → Covered facts (after before one) one) [
        | None ↦ λ e. (one, there ∙ ap (λ (q : Option Pictured). Some (longer q one)) e, omega arith, λ k label lt. (λ known. known, λ known. known))
        | Some m ↦ λ e.
            let chosen : after before one one.origin ≡ Some (longer (Some m) one) = there ∙ ap (λ (q : Option Pictured). Some (longer q one)) e in
            elim (nat_lt m.span.length one.span.length) as (λ (b : Bool). nat_lt m.span.length one.span.length ≡ b → Covered facts (after before one) one) [
              | true ↦ λ l. (one, chosen ∙ ap (λ (b : Bool). Some (if b then one else m)) l, omega arith, λ k label lt. (λ known. known, λ known. known))
              | false ↦ λ l.
                  let long : one.span.length ≤ m.span.length = ltb-false m.span.length one.span.length l in
                  let next : Same facts m.span one.span one.span.length = by_tie m one (tied before one m sub e) one.span.length long (omega arith) in
                  (m, chosen ∙ ap (λ (b : Bool). Some (if b then one else m)) l, long, λ k label lt. ((next k label lt).1, (next k label lt).0))
            ] refl
      ] refl

  stays : (more : List Pictured) (before : Origin → Option Pictured) (x : Pictured) → ((r : RuleInst) → Contains (ties before more) r → Contains given r) → Covered facts before x → Covered facts (ends before more) x
  stays [] before x sub h = h
  stays (one ∷ more) before x sub h =
      stays more (after before one) x (λ r there. sub r (Contains-append_right (tie (before one.origin) one) (ties (after before one) more) r there))
      (keeps before one x (λ r there. sub r (Contains-append_left (tie (before one.origin) one) (ties (after before one) more) r there)) h)

  covers : (more : List Pictured) (before : Origin → Option Pictured) (x : Pictured) → ((r : RuleInst) → Contains (ties before more) r → Contains given r) → Contains more x → Covered facts (ends before more) x
  covers [] before x sub h = absurd (omega (arith, h.1))
  covers (one ∷ more) before x sub h =
      let later : (r : RuleInst) → Contains (ties (after before one) more) r → Contains given r = λ r there. sub r (Contains-append_right (tie (before one.origin) one) (ties (after before one) more) r there) in
      elim (first_or_later one x more h) [
        | inl is ↦ subst (λ (y : Pictured). Covered facts (ends (after before one) more) y) is
            (stays more (after before one) one later (begins before one (λ r there. sub r (Contains-append_left (tie (before one.origin) one) (ties (after before one) more) r there))))
        | inr rest ↦ covers more (after before one) x later rest
      ]

  both : (last : Origin → Option Pictured) (a b : Pictured) → a.origin ≡ b.origin → Covered facts last a → Covered facts last b → (k : ℕ) (label : Label) → k < a.span.length → k < b.span.length → Contains facts (fact_in a.span k label) → Contains facts (fact_in b.span k label)
  both last a b o first second k label short small known =
      let m : Pictured = first.0 in
      let n : Pictured = second.0 in
      let one : Some m ≡ Some n = sym first.1 ∙ ap last o ∙ second.1 in
      let is : m ≡ n = cc in
      (second.3 k label small).1 (subst (λ (x : Pictured). Contains facts (fact_in x.span k label)) is ((first.3 k label short).0 known))

-- any two of one place are alike up to the shorter
pub pictured_alike : (given : List RuleInst) (before : Origin → Option Pictured) (all : List Pictured) → ((r : RuleInst) → Contains (ties before all) r → Contains given r) → (a b : Pictured) → Contains all a → Contains all b → a.origin ≡ b.origin
    → AreAlike given (front a.span b.span.length) (front b.span a.span.length)
pictured_alike given before all sub a b ha hb o = λ facts closed k label lt known.
    both given facts closed (ends before all) a b o (covers given facts closed all before a sub ha) (covers given facts closed all before b sub hb) k label (omega (arith, lt)) (omega (arith, lt)) known

pub pictures_alike : (portfolio : Portfolio) → ArePicturesAlike portfolio (rules portfolio)
pictures_alike portfolio = λ a b ha hb one.
    pictured_alike (rules portfolio) none (pictured portfolio.programs portfolio.layouts)
    (λ r h. Contains-append_right (programs_rules portfolio.programs portfolio.layouts) (file_rules portfolio portfolio.files ++ picture_rules portfolio.programs portfolio.layouts) r
    (Contains-append_right (file_rules portfolio portfolio.files) (picture_rules portfolio.programs portfolio.layouts) r h))
    a b ha hb one
