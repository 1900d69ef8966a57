-- A name means in a layout as it is read what it means in the layout: an item, a condition-name, or neither. That a
-- name means several things isn't spoken of, since an item and a condition-name may have it.
use Rattle.std.proofs.Common.{◌≡◌, ◌≢◌, ℕ, List, [], ◌∷◌, refl, sym, ap, ◌∙◌, arith, None, true, false, true≢false}
use Rattle.std.specs.Prelude.{slice_get}
use Rattle.cobol_syntax.specs.declared.program.Program.{Program}
use Rattle.data_layout.specs.declared.item.Layout.{Layout}
use Rattle.data_layout.specs.declared.found.Found.{Found}
use Rattle.data_layout.specs.declared.found.Found.TheVariants as found
use Rattle.data_layout.specs.Find.{with, meaning, among_items, among_conds, item_fits, cond_fits}
use Rattle.program_meaning.specs.Tree.{Name}
use Rattle.program_meaning.specs.Layout.{only_one, items_meant, conds_meant, item_of, cond_of}
use Rattle.layout_reading.specs.Names.{unnamed}
use Rattle.layout_reading.specs.Numbered.{AreNumbered}
use Rattle.layout_reading.specs.Reading.{read_layout}
use Rattle.layout_reading.specs.Told.{item_told, cond_told}
use Rattle.layout_reading.specs.Values.{values_of}
use Rattle.layout_reading.proofs.Meant.{Tells, Stands, items-tell, conds-tell}

-- the one thing that stands at its number
stands-alone : {A : Type 0} (all meant : List A) (k : ℕ) → Stands 0 all k meant → only_one meant ≡ slice_get all k
stands-alone all meant k s =
    let there : s.place ≡ k = omega (arith, s.counted) in
    ap only_one s.alone ∙ sym s.here ∙ ap (λ (n : ℕ). slice_get all n) there

several-none : {A : Type 0} (meant : List A) → meant ≡ [] → only_one meant ≡ None
several-none meant none = ap only_one none

items-told : {A B : Type 0} (items : List A) (conds : List B) (x y : Found) (mi : List A) (mc : List B) → Tells true 0 items x mi → Tells false 0 conds y mc
    → with x y ≢ found.Twice → only_one mi ≡ item_told items (with x y)
items-told items conds found.Unknown found.Unknown mi mc tx ty once = several-none mi tx
items-told items conds found.Unknown (found.Item j) mi mc tx ty once = absurd (true≢false (sym ty.0))
items-told items conds found.Unknown (found.Named j) mi mc tx ty once = several-none mi tx
items-told items conds found.Unknown found.Twice mi mc tx ty once = absurd (once refl)
items-told items conds (found.Item k) found.Unknown mi mc tx ty once = stands-alone items mi k tx.1
items-told items conds (found.Item k) (found.Item j) mi mc tx ty once = absurd (once refl)
items-told items conds (found.Item k) (found.Named j) mi mc tx ty once = absurd (once refl)
items-told items conds (found.Item k) found.Twice mi mc tx ty once = absurd (once refl)
items-told items conds (found.Named k) y mi mc tx ty once = absurd (true≢false tx.0)
items-told items conds found.Twice y mi mc tx ty once = absurd (once refl)

conds-told : {A B : Type 0} (items : List A) (conds : List B) (x y : Found) (mi : List A) (mc : List B) → Tells true 0 items x mi → Tells false 0 conds y mc
    → with x y ≢ found.Twice → only_one mc ≡ cond_told conds (with x y)
conds-told items conds found.Unknown found.Unknown mi mc tx ty once = several-none mc ty
conds-told items conds found.Unknown (found.Item j) mi mc tx ty once = absurd (true≢false (sym ty.0))
conds-told items conds found.Unknown (found.Named j) mi mc tx ty once = stands-alone conds mc j ty.1
conds-told items conds found.Unknown found.Twice mi mc tx ty once = absurd (once refl)
conds-told items conds (found.Item k) found.Unknown mi mc tx ty once = several-none mc ty
conds-told items conds (found.Item k) (found.Item j) mi mc tx ty once = absurd (once refl)
conds-told items conds (found.Item k) (found.Named j) mi mc tx ty once = absurd (once refl)
conds-told items conds (found.Item k) found.Twice mi mc tx ty once = absurd (once refl)
conds-told items conds (found.Named k) y mi mc tx ty once = absurd (true≢false tx.0)
conds-told items conds found.Twice y mi mc tx ty once = absurd (once refl)

module _ (program : Program) (l : Layout) (first : ℕ) (ids : AreNumbered first l.areas) (name : Name) (qs : List Name) (word : name ≢ unnamed) where
  told-items : Tells true 0 (read_layout program l).items (among_items (item_fits l name qs) 0 l.items) (items_meant (name ∷ qs) (read_layout program l).items)
  told-items = items-tell l first ids name qs word 0 l.items (values_of program)

  told-conds : Tells false 0 (read_layout program l).conds (among_conds (cond_fits l name qs) 0 l.conds) (conds_meant (name ∷ qs) (read_layout program l).conds)
  told-conds = conds-tell l first ids name qs (read_layout program l).items 0 l.conds

  pub item-found : meaning l (name ∷ qs) ≢ found.Twice → item_of (read_layout program l) (name ∷ qs) ≡ item_told (read_layout program l).items (meaning l (name ∷ qs))
  item-found once =
      items-told (read_layout program l).items (read_layout program l).conds (among_items (item_fits l name qs) 0 l.items) (among_conds (cond_fits l name qs) 0 l.conds)
      (items_meant (name ∷ qs) (read_layout program l).items) (conds_meant (name ∷ qs) (read_layout program l).conds) told-items told-conds once

  pub cond-found : meaning l (name ∷ qs) ≢ found.Twice → cond_of (read_layout program l) (name ∷ qs) ≡ cond_told (read_layout program l).conds (meaning l (name ∷ qs))
  cond-found once =
      conds-told (read_layout program l).items (read_layout program l).conds (among_items (item_fits l name qs) 0 l.items) (among_conds (cond_fits l name qs) 0 l.conds)
      (items_meant (name ∷ qs) (read_layout program l).items) (conds_meant (name ∷ qs) (read_layout program l).conds) told-items told-conds once
