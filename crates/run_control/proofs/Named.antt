-- What a name stands for among paragraphs.
use Rattle.std.proofs.Common.{◌≡◌, ◌≤◌, ◌<◌, ◌-◌, ◌==◌, ℕ, suc, Bool, true, false, cond, List, [], ◌∷◌, length, map, drop, get_or, Option, Some, None, refl, ap, ap₂, sym, ◌∙◌, subst, arith}
use Rattle.std.specs.Prelude.{if◌then◌else◌, ◌&&◌, bytes_eq}
use Rattle.std.proofs.Math.Seq.{drop-cons}
use Rattle.std.proofs.lemmas.List.{length-map, length-drop}
use Rattle.name_tables.specs.Table.{with_value}
use Rattle.cobol_syntax.specs.declared.program.Paragraph.{Paragraph}
use Rattle.tree_reading.specs.Reading.{read_paragraph}
use Rattle.program_meaning.specs.Tree as tree
use Rattle.program_meaning.specs.Layout.{same_name}
use Rattle.program_meaning.specs.State.{from_paragraph, after_range, after_section}
use Rattle.run_control.specs.declared.labels.Label.{Label}
use Rattle.run_control.specs.Labels.{label_of}

nat-eq-sym : (c d : ℕ) → (c == d) ≡ (d == c)
nat-eq-sym c d = grind arith

-- two names are the same where their bytes are equal
same-name : (a b : tree.Name) → bytes_eq a b ≡ same_name b a
same-name [] [] = refl
same-name [] (d ∷ ds) = refl
same-name (c ∷ cs) [] = refl
same-name (c ∷ cs) (d ∷ ds) = ap₂ (λ (x y : Bool). x && y) (nat-eq-sym c d) (same-name cs ds)

-- a label is that of the paragraphs from the one of its name on
pub record Stands (n : tree.Name) (ps : List tree.Paragraph) (l : Label) : Type 0 where
  pub rest : from_paragraph n ps ≡ drop (length ps - l.left) ps
  pub within : l.left ≤ length ps
  pub after : after_range (from_paragraph n ps) ≡ l.after

abbrev label_here : tree.Paragraph → List tree.Paragraph → Label
label_here p ps = record { left = length (p ∷ ps); after = after_range (p ∷ ps) }

here : (n : tree.Name) (p : tree.Paragraph) (ps : List tree.Paragraph) → same_name n p.name ≡ true → Stands n (p ∷ ps) (label_here p ps)
here n p ps same =
    let found : from_paragraph n (p ∷ ps) ≡ p ∷ ps = ap (λ (b : Bool). cond b (p ∷ ps) (from_paragraph n ps)) same in
    let none : length (p ∷ ps) - length (p ∷ ps) ≡ 0 = omega arith in
    record {
      rest = found ∙ ap (λ (k : ℕ). drop k (p ∷ ps)) (sym none);
      within = omega arith;
      after = ap after_range found;
    }

further : (n : tree.Name) (p : tree.Paragraph) (ps : List tree.Paragraph) (l : Label) → same_name n p.name ≡ false → Stands n ps l → Stands n (p ∷ ps) l
further n p ps l other stands =
    let found : from_paragraph n (p ∷ ps) ≡ from_paragraph n ps = ap (λ (b : Bool). cond b (p ∷ ps) (from_paragraph n ps)) other in
    let within : l.left ≤ length ps = stands.within in
    let more : length (p ∷ ps) - l.left ≡ suc (length ps - l.left) = omega arith in
    record {
      rest = found ∙ stands.rest ∙ ap (λ (k : ℕ). drop k (p ∷ ps)) (sym more);
      within = omega arith;
      after = ap after_range found ∙ stands.after;
    }

by_test : (n : tree.Name) (p : tree.Paragraph) (ps : List tree.Paragraph) (l : Label) (b : Bool) → same_name n p.name ≡ b →
    ((label_of n ps ≡ Some l) → Stands n ps l) → (if b then Some (label_here p ps) else label_of n ps) ≡ Some l → Stands n (p ∷ ps) l
by_test n p ps l true e rest h = let this : label_here p ps ≡ l = cc in subst (λ (x : Label). Stands n (p ∷ ps) x) this (here n p ps e)
by_test n p ps l false e rest h = further n p ps l e (rest h)

pub stands : (n : tree.Name) (ps : List tree.Paragraph) (l : Label) → label_of n ps ≡ Some l → Stands n ps l
stands n [] l h = absurd (let none : ⊥ = cc in none)
stands n (p ∷ ps) l h = by_test n p ps l (bytes_eq p.name n) (sym (same-name p.name n)) (stands n ps l) h

not_here : (n : tree.Name) (p : tree.Paragraph) (ps : List tree.Paragraph) (b : Bool) → same_name n p.name ≡ b →
    ((label_of n ps ≡ None) → from_paragraph n ps ≡ []) → (if b then Some (label_here p ps) else label_of n ps) ≡ None → from_paragraph n (p ∷ ps) ≡ []
not_here n p ps true e rest h = absurd (let none : ⊥ = cc in none)
not_here n p ps false e rest h = ap (λ (b : Bool). cond b (p ∷ ps) (from_paragraph n ps)) e ∙ rest h

pub absent : (n : tree.Name) (ps : List tree.Paragraph) → label_of n ps ≡ None → from_paragraph n ps ≡ []
absent n [] h = refl
absent n (p ∷ ps) h = not_here n p ps (bytes_eq p.name n) (sym (same-name p.name n)) (absent n ps) h

-- one paragraph more in front
module _ (ps : List Paragraph) (at : ℕ) (p : Paragraph) (some : 0 < at) (within : at ≤ length ps) (this : p ≡ get_or ps (at - 1) p) where
  suffix : drop (at - 1) ps ≡ p ∷ drop at ps
  suffix =
      let next : suc (at - 1) ≡ at = omega arith in
      let below : at - 1 < length ps = omega arith in
      drop-cons ps (at - 1) p below ∙ ap₂ (λ (x : Paragraph) (k : ℕ). x ∷ drop k ps) (sym this) next

  read_suffix : map read_paragraph (drop (at - 1) ps) ≡ read_paragraph p ∷ map read_paragraph (drop at ps)
  read_suffix = ap (map read_paragraph) suffix

  rest_length : length (map read_paragraph (drop at ps)) ≡ length ps - (at - 1) - 1
  rest_length = let e : length (drop at ps) ≡ length ps - at = length-drop at ps in length-map (drop at ps) read_paragraph ∙ omega arith

  pub more_ends : (left ends : ℕ) → left ≡ length ps - (at - 1) → ends ≡ after_section (map read_paragraph (drop at ps)) →
      cond p.section left ends ≡ after_section (map read_paragraph (drop (at - 1) ps))
  more_ends left ends l e =
      let whole : left ≡ suc (length (map read_paragraph (drop at ps))) = let r = rest_length in omega arith in
      ap₂ (λ (x y : ℕ). cond p.section x y) whole e ∙ sym (ap after_section read_suffix)

  pub more_found : (f : tree.Name → Option Label) (left ends after : ℕ) → left ≡ length ps - (at - 1) → ends ≡ after_section (map read_paragraph (drop at ps)) →
      after ≡ cond p.section ends (left - 1) → ((n : tree.Name) → f n ≡ label_of n (map read_paragraph (drop at ps))) →
      (n : tree.Name) → with_value f p.name (record { left = left; after = after }) n ≡ label_of n (map read_paragraph (drop (at - 1) ps))
  more_found f left ends after l e a before n =
      let whole : left ≡ suc (length (map read_paragraph (drop at ps))) = let r = rest_length in omega arith in
      let rest : left - 1 ≡ length (map read_paragraph (drop at ps)) = let r = rest_length in omega arith in
      let end : after ≡ after_range (read_paragraph p ∷ map read_paragraph (drop at ps)) = a ∙ ap₂ (λ (x y : ℕ). cond p.section x y) e rest in
      ap₂ (λ (x y : ℕ). if bytes_eq p.name n then Some (record { left = x; after = y }) else f n) whole end
      ∙ ap (λ (o : Option Label). if bytes_eq p.name n then Some (label_here (read_paragraph p) (map read_paragraph (drop at ps))) else o) (before n)
      ∙ sym (ap (label_of n) read_suffix)
