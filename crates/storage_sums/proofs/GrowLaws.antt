-- Tables of places that grow.
use Rattle.std.proofs.Common.{◌<◌, ◌≤◌, refl, sym, subst, ◌∙◌, arith}
use Rattle.data_layout.specs.declared.item.Layout.{Layout}
use Rattle.storage_places.specs.declared.storage.Storage.{Storage}
use Rattle.place_table.specs.declared.places.Places.{Places}
use Rattle.place_table.specs.Tables.{layout_of, IsStorageOf}
use Rattle.place_table.specs.Views.{HasGrown, count}

pub same_places : (places : Places) → HasGrown places places
same_places places = record { layout = refl; more = omega arith; kept = λ k here. refl }

pub grown_again : (a b c : Places) → HasGrown a b → HasGrown b c → HasGrown a c
grown_again a b c first then =
    let one : count a ≤ count b = first.more in
    let two : count b ≤ count c = then.more in
    record {
      layout = then.layout ∙ first.layout;
      more = omega arith;
      kept = λ k here.
          let below : k < count a = here in
          let there : k < count b = omega arith in
          then.kept k there ∙ first.kept k here;
    }

-- a storage of the program stays one
pub still_storage : (a b : Places) (storage : Storage) → HasGrown a b → IsStorageOf (layout_of a) storage → IsStorageOf (layout_of b) storage
still_storage a b storage grown is = subst (λ (l : Layout). IsStorageOf l storage) (sym grown.layout) is
