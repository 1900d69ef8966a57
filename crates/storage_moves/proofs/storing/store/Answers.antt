use Rattle.std.proofs.Common.{◌≡◌, List, length, ap, sym, ◌∙◌, subst, arith}
use Rattle.program_meaning.specs.Kind.{Symbol, digits_after, digits_shown}
use Rattle.program_meaning.specs.Number as number
use Rattle.layout_reading.specs.Kinds as kinds
use Rattle.operand_kinds.specs.declared.kind.Kind.{Kind}
use Rattle.place_table.specs.Views.{picture_at}
use Rattle.storage_places.specs.Fits.{KindFits}
use Rattle.storage_moves.proofs.StoredLaws.{after-shown}
use Rattle.storage_moves.proofs.storing.store.Goals as goal

pub store_edited-requires : goal.store_edited-requires
store_edited-requires c =
    let picture = picture_at c.args.places.now c.args.view.number in
    let is = subst (λ (k : Kind). KindFits k picture c.args.view.span.length) c.in-Edited.is c.requires.fits in
    let same : kinds.symbols picture ≡ _ = sym c.picture-picture.ensures in
    let scale : c.in-Edited.form.scale ≡ digits_after (kinds.symbols picture) = ap (λ (f : number.NumForm). f.scale) is.same_form in
    let digits : c.in-Edited.form.digits ≡ digits_shown (kinds.symbols picture) = ap (λ (f : number.NumForm). f.digits) is.same_form in
    record {
      within = c.requires.within;
      scale = scale ∙ ap digits_after same;
      at_most_18 = omega (arith, scale, digits, after-shown (kinds.symbols picture), is.at_most_18);
      places = is.places ∙ ap (λ (ss : List Symbol). length ss) same;
    }
