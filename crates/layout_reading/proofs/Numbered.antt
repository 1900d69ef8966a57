-- The areas of a laid program are numbered from its first one on.
use Rattle.std.proofs.Common.{◌≡◌, ℕ, ◌+◌, List, [], ◌∷◌, ◌++◌, length, refl, sym, subst, arith, Bool, true, false}
use Rattle.std.specs.Prelude.{if◌then◌else◌, is_some}
use Rattle.y2k_base.specs.declared.place.AreaId.{AreaId}
use Rattle.cobol_syntax.specs.declared.program.FileEntry.{FileEntry}
use Rattle.cobol_syntax.specs.declared.program.Program.{Program}
use Rattle.data_layout.specs.declared.item.Area.{Area}
use Rattle.data_layout.specs.declared.item.Layout.{Layout}
use Rattle.data_layout.specs.Tree.{Forest, nothing, node}
use Rattle.data_layout.specs.Sizes.{is_named}
use Rattle.data_layout.specs.Sections.{files_areas, next_area, after_files, storage_areas, own_areas, storage_area, owners_from, owners_after, tops, areas_of, IsLayout}
use Rattle.layout_reading.specs.Numbered.{AreNumbered}
use Rattle.layout_reading.specs.Reading.{first_area}

pub append-numbered : (n : ℕ) (xs ys : List Area) → AreNumbered n xs → AreNumbered (n + length xs) ys → AreNumbered n (xs ++ ys)
append-numbered n [] ys front back = subst (λ (m : ℕ). AreNumbered m ys) (omega arith) back
append-numbered n (x ∷ xs) ys front back =
    (front.0, append-numbered (n + 1) xs ys front.1 (subst (λ (m : ℕ). AreNumbered m ys) (omega arith) back))

files-numbered : (id : AreaId) (files : List FileEntry) → AreNumbered id.0 (files_areas id files)
files-numbered id [] = tt
files-numbered id (file ∷ files) = (refl, files-numbered (next_area id) files)

after-files : (id : AreaId) (files : List FileEntry) → (after_files id files).0 ≡ id.0 + length (files_areas id files)
after-files id [] = omega arith
after-files id (file ∷ files) =
    let others : (after_files (next_area id) files).0 ≡ id.0 + 1 + length (files_areas (next_area id) files) = after-files (next_area id) files in
    omega (arith, others)

storage-numbered : (owners : _) (forest : Forest) → AreNumbered owners.next.0 (storage_areas owners forest)
storage-numbered owners nothing = tt
storage-numbered owners (node e parts others) =
    by_name (is_named e) (storage-numbered owners others) (storage-numbered (owners_after owners e) others) where
      by_redefinition : (r : Bool) → AreNumbered (if r then owners.next else next_area owners.next).0 (storage_areas (owners_after owners e) others)
          → AreNumbered owners.next.0 ((if r then [] else storage_area owners.next e parts ∷ []) ++ storage_areas (owners_after owners e) others)
      by_redefinition true more = more
      by_redefinition false more = (refl, more)

      by_name : (b : Bool) → AreNumbered owners.next.0 (storage_areas owners others)
          → AreNumbered (owners_after owners e).next.0 (storage_areas (owners_after owners e) others)
          → AreNumbered owners.next.0 (if b then storage_areas owners others else own_areas owners.next e parts ++ storage_areas (owners_after owners e) others)
      by_name true more after = more
      by_name false more after = by_redefinition (is_some e.redefines) after

areas-numbered : (first : AreaId) (program : Program) → AreNumbered first.0 (areas_of first program)
areas-numbered first program =
    append-numbered first.0 (files_areas first program.files) (storage_areas (owners_from (after_files first program.files)) (tops program.storage)) (files-numbered first program.files)
    (subst (λ (m : ℕ). AreNumbered m (storage_areas (owners_from (after_files first program.files)) (tops program.storage))) (after-files first program.files)
    (storage-numbered (owners_from (after_files first program.files)) (tops program.storage)))

pub numbered : (first : AreaId) (program : Program) (layout : Layout) → IsLayout first program layout → AreNumbered first.0 layout.areas
numbered first program layout is = subst (AreNumbered first.0) (sym is.areas) (areas-numbered first program)

own-first : (areas : List Area) (n : ℕ) → AreNumbered n areas → AreNumbered (first_area areas) areas
own-first [] n ids = tt
own-first (area ∷ areas) n ids = subst (λ (m : ℕ). AreNumbered m (area ∷ areas)) (sym ids.0) ids

-- from the number of its first area on
pub laid-numbered : (first : AreaId) (program : Program) (layout : Layout) → IsLayout first program layout → AreNumbered (first_area layout.areas) layout.areas
laid-numbered first program layout is = own-first layout.areas first.0 (numbered first program layout is)
