-- Steps over the entries of a section and over files.
use Rattle.std.proofs.Common.{◌≡◌, ◌≢◌, ℕ, ◌+◌, Bool, List, [], ◌∷◌, ◌++◌, length, refl, sym, ap, ◌∙◌, arith, append_assoc, length-append, None, if◌then◌else◌}
use Rattle.y2k_base.specs.declared.place.AreaId.{AreaId}
use Rattle.cobol_syntax.specs.declared.program.Entry.{Entry}
use Rattle.cobol_syntax.specs.declared.program.FileEntry.{FileEntry}
use Rattle.data_layout.specs.declared.item.Item.{Item}
use Rattle.data_layout.specs.declared.item.Area.{Area}
use Rattle.data_layout.specs.declared.item.CondItem.{CondItem}
use Rattle.data_layout.specs.declared.lay.Around.{Around}
use Rattle.data_layout.specs.declared.sections.Owners.{Owners}
use Rattle.data_layout.specs.Tree.{rank, Forest, node, within, forest, parts_of, beside, BeginsWithin, GoesOn}
use Rattle.data_layout.specs.Sizes.{is_named, size}
use Rattle.data_layout.specs.Items.{items, conds, item_of, inside, item_count}
use Rattle.data_layout.specs.Sections.{tops, next_area, record_area, own_area, area_for, owners_after, storage_items, storage_areas, own_areas, files_items, files_conds, files_areas, files_count, file_area, after_files}
use Rattle.data_layout.proofs.Laid.{named, not_named, beside-named, joined, joined-conds, item_count-items}

-- a function of entries side by side that passes over condition-names
pub passes : {X : Type 0} (of : Forest → X) (otherwise : X) (r : ℕ) (rest inner : List Entry) (e : Entry) → BeginsWithin r rest e inner → e.level ≡ 88
    → of (node e (parts_of e inner) (within r (beside e inner))) ≡ (if is_named e then of (within r (beside e inner)) else otherwise)
    → of (within r (forest rest)) ≡ of (within r (forest inner))
passes {X} of otherwise r rest inner e b h step =
    ap of b.parts ∙ step ∙ ap (λ (t : Bool). if t then of (within r (beside e inner)) else otherwise) (named e h)
    ∙ ap (λ (f : Forest). of (within r f)) (beside-named e inner h)

-- the same function at an item
pub takes : {X : Type 0} (of : Forest → X) (otherwise : Forest → X) (r : ℕ) (rest inner after : List Entry) (e : Entry) → BeginsWithin r rest e inner → e.level ≢ 88 → GoesOn (rank e.level) inner after
    → of (node e (parts_of e inner) (within r (beside e inner))) ≡ (if is_named e then of (within r (beside e inner)) else otherwise (within r (beside e inner)))
    → of (within r (forest rest)) ≡ otherwise (within r (forest after))
takes {X} of otherwise r rest inner after e b h goes step =
    ap of b.parts ∙ step ∙ ap (λ (t : Bool). if t then of (within r (beside e inner)) else otherwise (within r (beside e inner))) (not_named e.level h)
    ∙ ap (λ (f : Forest). otherwise (within r f)) (sym goes.others)

pub named-storage : (owners : Owners) (number : ℕ) (rest inner : List Entry) (e : Entry) → BeginsWithin 0 rest e inner → e.level ≡ 88
    → storage_items owners number (tops rest) ≡ storage_items owners number (tops inner)
named-storage owners number rest inner e b h =
    passes (storage_items owners number)
    (item_of (own_area (area_for owners e)) 0 e (size e (parts_of e inner)) ∷
    (items (inside (own_area (area_for owners e)) number e (size e (parts_of e inner))) (number + 1) 0 0 (parts_of e inner)
    ++ storage_items (owners_after owners e) (number + (1 + item_count (parts_of e inner))) (within 0 (beside e inner))))
    0 rest inner e b h refl

pub named-areas : (owners : Owners) (rest inner : List Entry) (e : Entry) → BeginsWithin 0 rest e inner → e.level ≡ 88
    → storage_areas owners (tops rest) ≡ storage_areas owners (tops inner)
named-areas owners rest inner e b h =
    passes (storage_areas owners) (own_areas owners.next e (parts_of e inner) ++ storage_areas (owners_after owners e) (within 0 (beside e inner))) 0 rest inner e b h refl

-- an item of working storage and its parts are laid
pub step-storage : (owners onward : Owners) (around : Around) (rest inner after : List Entry) (e : Entry) (xs zs : List Item) → BeginsWithin 0 rest e inner → e.level ≢ 88 → GoesOn (rank e.level) inner after
    → around ≡ own_area (area_for owners e) → onward ≡ owners_after owners e
    → zs ≡ xs ++ item_of around 0 e (size e (parts_of e inner)) ∷ items (inside around (length xs) e (size e (parts_of e inner))) (length xs + 1) 0 0 (parts_of e inner)
    → zs ++ storage_items onward (length zs) (tops after) ≡ xs ++ storage_items owners (length xs) (tops rest)
step-storage owners onward around rest inner after e xs zs b h goes own goes_on is =
    let k : ℕ = item_count (parts_of e inner) in
    let bytes : ℕ = size e (parts_of e inner) in
    let n : ℕ = length xs in
    let laid : Around → Owners → Forest → List Item = λ (a : Around) (o : Owners) (f : Forest). item_of a 0 e bytes ∷ (items (inside a n e bytes) (n + 1) 0 0 (parts_of e inner) ++ storage_items o (n + (1 + k)) f) in
    joined xs (items (inside around n e bytes) (n + 1) 0 0 (parts_of e inner)) zs (item_of around 0 e bytes) k (λ (m : ℕ). storage_items onward m (tops after)) (item_count-items (inside around n e bytes) (n + 1) 0 0 (parts_of e inner)) is
    ∙ ap (λ (l : List Item). xs ++ l) (ap (λ (a : Around). laid a onward (tops after)) own ∙ ap (λ (o : Owners). laid (own_area (area_for owners e)) o (tops after)) goes_on
    ∙ sym (takes (storage_items owners n) (laid (own_area (area_for owners e)) (owners_after owners e)) 0 rest inner after e b h goes refl))

pub step-areas : (owners onward : Owners) (rest inner after : List Entry) (e : Entry) (xs zs : List Area) → BeginsWithin 0 rest e inner → e.level ≢ 88 → GoesOn (rank e.level) inner after
    → onward ≡ owners_after owners e → zs ≡ xs ++ own_areas owners.next e (parts_of e inner)
    → zs ++ storage_areas onward (tops after) ≡ xs ++ storage_areas owners (tops rest)
step-areas owners onward rest inner after e xs zs b h goes goes_on is =
    ap (λ (l : List Area). l ++ storage_areas onward (tops after)) is ∙ append_assoc xs (own_areas owners.next e (parts_of e inner)) (storage_areas onward (tops after))
    ∙ ap (λ (o : Owners). xs ++ (own_areas owners.next e (parts_of e inner) ++ storage_areas o (tops after))) goes_on
    ∙ ap (λ (l : List Area). xs ++ l) (sym (takes (storage_areas owners) (λ (f : Forest). own_areas owners.next e (parts_of e inner) ++ storage_areas (owners_after owners e) f) 0 rest inner after e b h goes refl))

pub count-of : (around : Around) (f : Forest) (xs zs : List Item) → zs ≡ xs ++ items around (length xs) 0 0 f → length zs ≡ length xs + item_count f
count-of around f xs zs is =
    ap length is ∙ length-append xs (items around (length xs) 0 0 f) ∙ ap (λ (k : ℕ). length xs + k) (item_count-items around (length xs) 0 0 f)

-- a file is laid
pub step-files : (id next : AreaId) (file : FileEntry) (rest more : List FileEntry) (xs zs : List Item) → rest ≡ file ∷ more → next ≡ next_area id
    → zs ≡ xs ++ items (record_area id) (length xs) 0 0 (tops file.entries)
    → zs ++ files_items next (length zs) more ≡ xs ++ files_items id (length xs) rest
step-files id next file rest more xs zs splits goes_on is =
    let own : List Item = items (record_area id) (length xs) 0 0 (tops file.entries) in
    ap (λ (k : ℕ). zs ++ files_items next k more) (count-of (record_area id) (tops file.entries) xs zs is)
    ∙ ap (λ (l : List Item). l ++ files_items next (length xs + item_count (tops file.entries)) more) is
    ∙ append_assoc xs own (files_items next (length xs + item_count (tops file.entries)) more)
    ∙ ap (λ (i : AreaId). xs ++ (own ++ files_items i (length xs + item_count (tops file.entries)) more)) goes_on
    ∙ ap (λ (l : List FileEntry). xs ++ files_items id (length xs) l) (sym splits)

pub step-file_conds : (n m : ℕ) (file : FileEntry) (rest more : List FileEntry) (xs zs : List CondItem) → rest ≡ file ∷ more → m ≡ n + item_count (tops file.entries)
    → zs ≡ xs ++ conds None n (tops file.entries)
    → zs ++ files_conds m more ≡ xs ++ files_conds n rest
step-file_conds n m file rest more xs zs splits count is =
    joined-conds xs (conds None n (tops file.entries)) zs m (n + item_count (tops file.entries)) (λ (k : ℕ). files_conds k more) count is
    ∙ ap (λ (l : List FileEntry). xs ++ files_conds n l) (sym splits)

pub step-file_areas : (id next : AreaId) (area : Area) (file : FileEntry) (rest more : List FileEntry) (xs zs : List Area) → rest ≡ file ∷ more → next ≡ next_area id
    → area ≡ file_area id file → zs ≡ xs ++ area ∷ []
    → zs ++ files_areas next more ≡ xs ++ files_areas id rest
step-file_areas id next area file rest more xs zs splits goes_on own is =
    ap (λ (l : List Area). l ++ files_areas next more) is ∙ append_assoc xs (area ∷ []) (files_areas next more)
    ∙ ap (λ (a : Area). xs ++ a ∷ files_areas next more) own ∙ ap (λ (i : AreaId). xs ++ file_area id file ∷ files_areas i more) goes_on
    ∙ ap (λ (l : List FileEntry). xs ++ files_areas id l) (sym splits)

pub step-after : (id next : AreaId) (file : FileEntry) (rest more : List FileEntry) → rest ≡ file ∷ more → next ≡ next_area id → after_files next more ≡ after_files id rest
step-after id next file rest more splits goes_on =
    ap (λ (i : AreaId). after_files i more) goes_on ∙ ap (λ (l : List FileEntry). after_files id l) (sym splits)

pub step-count : (n m : ℕ) (file : FileEntry) (rest more : List FileEntry) → rest ≡ file ∷ more → m ≡ n + item_count (tops file.entries) → m + files_count more ≡ n + files_count rest
step-count n m file rest more splits count = omega (arith, count, ap files_count splits)
