-- Places that are seen in a storage.
use Rattle.std.proofs.Common.{◌≡◌, ℕ, List, Option, refl, sym, subst}
use Rattle.y2k_base.specs.declared.place.Span.{Span}
use Rattle.y2k_base.specs.declared.picture.Picture.{Picture}
use Rattle.data_layout.specs.declared.item.Layout.{Layout}
use Rattle.operand_kinds.specs.declared.kind.Kind as operand
use Rattle.operand_kinds.specs.declared.kind.Kind.TheVariants as kinds
use Rattle.layout_reading.specs.Reading.{first_area}
use Rattle.program_meaning.specs.Answer.{Answer, Gives, Fails, and_then}
use Rattle.storage_places.specs.declared.storage.Storage.{Storage}
use Rattle.storage_places.specs.Fits.{KindFits, area_lengths}
use Rattle.storage_places.specs.Held.{held, first, lengths, IsWithin}
use Rattle.place_table.specs.Tables.{IsStorageOf}
use Rattle.storage_tests.specs.Seen.{IsLong}

-- a span in the areas of a layout is one in its storage
pub within-storage : (layout : Layout) (storage : Storage) (span : Span) → IsStorageOf layout storage →
    IsWithin (first_area layout.areas) (area_lengths layout) span → IsWithin (first storage) (lengths (held storage)) span
within-storage layout storage span of within =
    subst (λ (n : ℕ). IsWithin n (lengths (held storage)) span) (sym of.first)
    (subst (λ (ns : List ℕ). IsWithin (first_area layout.areas) ns span) (sym of.lengths) within)

pub is-long : (k : operand.Kind) (picture : Option Picture) (n : ℕ) → KindFits k picture n → IsLong k n
is-long kinds.Group picture n fits = tt
is-long kinds.Text picture n fits = tt
is-long (kinds.Edited form) picture n fits = tt
is-long (kinds.Number usage form) picture n fits = fits

-- what is made of a value is made of the answer
pub mapped : {A B C : Type 0} (a : Answer A) (h : A → B) (g : B → Answer C) → and_then a (λ x. g (h x)) ≡ and_then (and_then a (λ x. Gives (h x))) g
mapped (Gives x) h g = refl
mapped (Fails e) h g = refl
