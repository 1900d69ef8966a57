-- Spans that a rule makes alike are made of the same pieces.
use Rattle.std.proofs.Common.{◌≡◌, ℕ, ◌+◌, ◌<◌, IsTrue, inl, inr, List, [], ◌∷◌, ◌++◌, length, get_or, Option, Some, refl, sym, ap, ◌∙◌, subst, arith, Contains}
use Rattle.std.proofs.lemmas.List.{get_or_append_left, get_or_default}
use Rattle.y2k_base.specs.declared.place.BytePlace.{BytePlace}
use Rattle.y2k_base.specs.declared.place.Span.{Span}
use Rattle.year_labels.specs.declared.label.Fact.{Fact}
use Rattle.year_labels.specs.declared.label.Label.{Label}
use Rattle.year_labels.specs.declared.rule.RuleForm.{RuleForm}
use Rattle.year_labels.specs.declared.rule.RuleForm.TheVariants as forms
use Rattle.year_labels.specs.declared.rule.RuleInst.{RuleInst}
use Rattle.year_labels.specs.Facts.{place_in, fact_in, IsClean}
use Rattle.year_labels.specs.Forms.{Follows}
use Rattle.year_labels.specs.Derivation.{FollowsByOne}
use Rattle.year_pairs.specs.declared.year.Year.{Year}
use Rattle.window_modes.specs.declared.modes.WindowGroup.{WindowGroup}
use Rattle.window_modes.specs.declared.modes.YearMode.{YearMode}
use Rattle.window_modes.specs.Links.{HasByte}
use Rattle.window_modes.specs.Modes.{AreLinked, IsInSet, IsPivotOf, AreModesOf}
use Rattle.year_pairs.specs.Years.{AreYearsOf}
use Rattle.year_image.specs.Piece.{Piece, size}
use Rattle.year_image.specs.Marks.{Mark, Still, marks}
use Rattle.year_image.proofs.MarkLemmas.{length-marks, marks-append, marks-same}
use Rattle.year_image.proofs.Spans.{size-append}
use Rattle.file_convert.specs.declared.cut.Cuts.{Cuts}
use Rattle.file_convert.specs.Cuts.{pieces}
use Rattle.plan_images.specs.Edges.{IsMoved}
use Rattle.plan_images.specs.Marks.{mark_of, IsLabelled}
use Rattle.plan_images.specs.Tables.{byte_at, years_of, cuts_at, AreLabelled}
use Rattle.plan_images.specs.Laws.{ArePlanned, AreTied}
use Rattle.plan_images.proofs.MarkLaws.{same_place, past_mark}
use Rattle.plan_images.proofs.OnlyPieces.{same_marks}
use Rattle.plan_images.proofs.Filling.{labelled, years_of-modes}

-- Linked years have one pivot.

same_pivot : (P Q : WindowGroup → Type 0) → ((g : WindowGroup) → P g → Q g) → ((g : WindowGroup) → Q g → P g) → (groups : List WindowGroup) (p q : Option ℕ) → IsPivotOf P groups p → IsPivotOf Q groups q → p ≡ q
same_pivot P Q to from [] p q e f = e ∙ sym f
same_pivot P Q to from (g ∷ gs) p q (inl e) (inl f) = e.1 ∙ sym f.1
same_pivot P Q to from (g ∷ gs) p q (inl e) (inr f) = absurd (f.0 (to g e.0))
same_pivot P Q to from (g ∷ gs) p q (inr e) (inl f) = absurd (e.0 (from g f.0))
same_pivot P Q to from (g ∷ gs) p q (inr e) (inr f) = same_pivot P Q to from gs p q e.1 f.1

linked_pivot : (years : List Year) (links : List RuleForm) (groups : List WindowGroup) (modes : List YearMode) (i j : ℕ) (d : YearMode) → AreModesOf years links groups modes → i < length years → j < length years → AreLinked years links i j
    → (get_or modes i d).pivot ≡ (get_or modes j d).pivot
linked_pivot years links groups modes i j d h l m linked = same_pivot (λ g. IsInSet years links g i) (λ g. IsInSet years links g j)
    (λ g in_i set closed holds. subst IsTrue (closed i j linked) (in_i set closed holds))
    (λ g in_j set closed holds. subst IsTrue (sym (closed i j linked)) (in_j set closed holds))
    groups (get_or modes i d).pivot (get_or modes j d).pivot (h.each i d l).pivot (h.each j d m).pivot

-- two years with the same byte of spans that a rule makes alike
tied_pivot : (years : List Year) (links : List RuleForm) (groups : List WindowGroup) (modes : List YearMode) (a b : Span) (k : ℕ) (m n : YearMode) → AreModesOf years links groups modes → Contains links (forms.Alike a b) → k < a.length
    → Contains modes m → Contains modes n → HasByte m.year (place_in a k) → HasByte n.year (place_in b k) → m.pivot ≡ n.pivot
tied_pivot years links groups modes a b k m n h link l at there of_m of_n =
    let i = at.0 in
    let j = there.0 in
    let li : i < length years = omega (arith, at.1, h.long) in
    let lj : j < length years = omega (arith, there.1, h.long) in
    let is_m = (h.each i m li).year ∙ ap (λ (x : YearMode). Some x.year) at.2 in
    let is_n = (h.each j n lj).year ∙ ap (λ (x : YearMode). Some x.year) there.2 in
    let linked : AreLinked years links i j = (m.year, is_m, (n.year, is_n, (forms.Alike a b, link, (k, l, of_m, of_n)))) in
    let other : get_or modes j m ≡ n = get_or_default modes j m n there.1 ∙ there.2 in
    ap (λ (x : YearMode). x.pivot) (sym at.2) ∙ linked_pivot years links groups modes i j m h li lj linked ∙ ap (λ (x : YearMode). x.pivot) other

-- Bytes that a rule makes alike have one mark.

module _ (rules : List RuleInst) (facts : List Fact) (closed : (f : Fact) → FollowsByOne rules facts f → Contains facts f) (rule : RuleInst) (there : Contains rules rule) (a b : Span) (form : rule.form ≡ forms.Alike a b) where
  onward : (k : ℕ) (label : Label) → k < a.length → Contains facts (fact_in a k label) → Contains facts (fact_in b k label)
  onward k label l at =
      let follows : Follows (forms.Alike a b) facts (fact_in b k label) = inl (k, label, l, at, refl) in
      closed (fact_in b k label) (rule, there, subst (λ (r : RuleForm). Follows r facts (fact_in b k label)) (sym form) follows)

  back : (k : ℕ) (label : Label) → k < b.length → Contains facts (fact_in b k label) → Contains facts (fact_in a k label)
  back k label l at =
      let follows : Follows (forms.Alike a b) facts (fact_in a k label) = inr (k, label, l, at, refl) in
      closed (fact_in a k label) (rule, there, subst (λ (r : RuleForm). Follows r facts (fact_in a k label)) (sym form) follows)

one_mark : (rules : List RuleInst) (links : List RuleForm) (groups : List WindowGroup) (facts : List Fact) (years : List Year) (modes : List YearMode) (a b : Span) (k : ℕ) (x y : Mark)
    → ((f : Fact) → FollowsByOne rules facts f → Contains facts f) → IsClean facts → AreModesOf years links groups modes → AreTied rules links a b → k < a.length
    → IsLabelled facts modes (place_in a k) x → IsLabelled facts modes (place_in b k) y → x ≡ y
one_mark rules links groups facts years modes a b k x y closed clean h t l (inl f) (inl g) =
    let label = f.0 in
    let here : Contains facts (fact_in b k label) = onward rules facts closed t.rule t.is_rule a b t.form k label l f.1 in
    let same : label ≡ g.0 = clean (fact_in b k label) (fact_in b k g.0) here g.1 refl in
    let pivot : f.3.pivot ≡ g.3.pivot = tied_pivot years links groups modes a b k f.3 g.3 h t.is_link l f.4 g.4 f.5 g.5 in
    f.6 ∙ ap (λ (n : Label). mark_of n f.3.pivot) same ∙ ap (λ (q : Option ℕ). mark_of g.0 q) pivot ∙ sym g.6
one_mark rules links groups facts years modes a b k x y closed clean h t l (inl f) (inr g) =
    absurd (f.2 (g.0 f.0 (onward rules facts closed t.rule t.is_rule a b t.form k f.0 l f.1)))
one_mark rules links groups facts years modes a b k x y closed clean h t l (inr f) (inl g) =
    absurd (g.2 (f.0 g.0 (back rules facts closed t.rule t.is_rule a b t.form k g.0 (omega (arith, l, t.same_length)) g.1)))
one_mark rules links groups facts years modes a b k x y closed clean h t l (inr f) (inr g) = f.1 ∙ sym g.1

-- The marks of a span.

mark_in : (facts : List Fact) (modes : List YearMode) (table : Cuts) (area n : ℕ) (span moved : Span) (k : ℕ) (p : IsMoved (pieces table) span moved) → area ≡ span.area.0 → size (pieces table) ≡ n → k < span.length
    → ((offset : ℕ) → offset < n → IsLabelled facts modes (byte_at area offset) (get_or (marks (pieces table)) offset Still)) → IsLabelled facts modes (place_in span k) (get_or (marks p.inside) k Still)
mark_in facts modes table area n span moved k p e total l all =
    let at : ℕ = span.offset + k in
    let in_front : at ≡ size p.before + k = omega (arith, p.offset) in
    let whole : size (pieces table) ≡ size p.before + (size p.inside + size p.after) =
    ap size p.splits ∙ size-append p.before (p.inside ++ p.after) ∙ ap (λ (m : ℕ). size p.before + m) (size-append p.inside p.after) in
    let within : at < n = omega (arith, whole, total, p.offset, p.long, l) in
    let mark : get_or (marks (pieces table)) at Still ≡ get_or (marks p.inside) k Still =
    ap (λ (ps : List Piece). get_or (marks ps) at Still) p.splits
    ∙ past_mark p.before (p.inside ++ p.after) at k in_front
    ∙ ap (λ (ms : List Mark). get_or ms k Still) (marks-append p.inside p.after)
    ∙ get_or_append_left (marks p.inside) (marks p.after) Still k (omega (arith, length-marks p.inside, p.long, l)) in
    subst (λ (m : Mark). IsLabelled facts modes (place_in span k) m) mark
    (subst (λ (q : BytePlace). IsLabelled facts modes q (get_or (marks (pieces table)) at Still)) (sym (same_place area at (place_in span k) (sym e) refl)) (all at within))

pub alike_spans : (rules : List RuleInst) (links : List RuleForm) (groups : List WindowGroup) (facts : List Fact) (lengths : List ℕ) (tables : List Cuts) → ArePlanned rules links groups facts lengths tables
    → (a b a' b' : Span) → AreTied rules links a b → a.area.0 < length tables → b.area.0 < length tables
    → (p : IsMoved (pieces (cuts_at tables a.area)) a a') (q : IsMoved (pieces (cuts_at tables b.area)) b b') → p.inside ≡ q.inside
alike_spans rules links groups facts lengths tables h a b a' b' t in_a in_b p q =
    let modes = h.modes in
    let found : AreYearsOf facts (years_of modes) = subst (λ (ys : List Year). AreYearsOf facts ys) (sym (years_of-modes h.years links groups modes h.modes_of)) h.found in
    let said : AreLabelled modes tables = labelled lengths modes tables h.images in
    let table_a = h.images.each a.area (omega (arith, in_a, h.images.long)) in
    let table_b = h.images.each b.area (omega (arith, in_b, h.images.long)) in
    let long_a : (cuts_at tables a.area).length ≡ get_or lengths a.area.0 0 = ap (λ (x : Cuts). x.length) table_a.cuts in
    let long_b : (cuts_at tables b.area).length ≡ get_or lengths b.area.0 0 = ap (λ (x : Cuts). x.length) table_b.cuts in
    let size_a : size (pieces (cuts_at tables a.area)) ≡ (cuts_at tables a.area).length = table_a.long ∙ sym long_a in
    let size_b : size (pieces (cuts_at tables b.area)) ≡ (cuts_at tables b.area).length = table_b.long ∙ sym long_b in
    let lengths_same : length (marks p.inside) ≡ length (marks q.inside) = length-marks p.inside ∙ p.long ∙ t.same_length ∙ sym q.long ∙ sym (length-marks q.inside) in
    marks-same p.inside q.inside (same_marks (marks p.inside) (marks q.inside) lengths_same (λ k l.
    let within : k < a.length = omega (arith, l, length-marks p.inside, p.long) in
    let x = mark_in facts modes (cuts_at tables a.area) a.area.0 (cuts_at tables a.area).length a a' k p refl size_a within (said facts found h.covered a.area in_a) in
    let y = mark_in facts modes (cuts_at tables b.area) b.area.0 (cuts_at tables b.area).length b b' k q refl size_b (omega (arith, within, t.same_length)) (said facts found h.covered b.area in_b) in
    one_mark rules links groups facts h.years modes a b k (get_or (marks p.inside) k Still) (get_or (marks q.inside) k Still) h.closed h.clean h.modes_of t within x y))
