use Rattle.std.proofs.Common.{◌≡◌, ℕ, sym, ap, ◌∙◌}
use Rattle.data_layout.specs.declared.item.Layout.{Layout}
use Rattle.layout_reading.specs.Reading.{first_area, read_span}
use Rattle.program_meaning.specs.Answer.{Answer, Gives}
use Rattle.program_meaning.specs.Storage.{View}
use Rattle.storage_places.specs.Held.{first}
use Rattle.storage_places.specs.Reached.{kind_with}
use Rattle.place_table.specs.Tables.{layout_of}
use Rattle.place_table.specs.Views.{picture_at}
use Rattle.storage_tests.proofs.SeenLaws.{within-storage, is-long}
use Rattle.storage_tests.proofs.seen.see.Goals as goal

pub returns-clause-seen : goal.returns-clause-seen
returns-clause-seen c =
    let v = c.in_ok-view.view in
    let picture = picture_at c.view.new.self v.number in
    let here : first_area (layout_of c.view.new.self).areas ≡ first c.args.storage.now =
    ap (λ (l : Layout). first_area l.areas) c.view.ensures.grown.layout ∙ sym c.requires.storage.first in
    let at : ℕ → Answer View = λ (n : ℕ). Gives (record { kind = kind_with v.kind picture; span = read_span n v.span }) in
    record {
      picture = picture;
      gives = λ program. c.in_ok-view.ensures.ok program ∙ ap at here;
      there = record {
        within = within-storage (layout_of c.args.places.now) c.args.storage.now v.span c.requires.storage c.in_ok-view.ensures.within;
        long = is-long v.kind picture v.span.length c.in_ok-view.ensures.fits;
      };
    }
