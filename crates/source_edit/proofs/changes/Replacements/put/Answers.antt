use Rattle.std.proofs.Math.Path.{fun_ext}
use Rattle.std.specs.BTreeMap.{get}
use Rattle.y2k_base.specs.declared.edit.WordPlace.{WordPlace}
use Rattle.y2k_base.specs.Edits.{place_cmp}
use Rattle.source_edit.specs.Changes.{is_place}
use Rattle.source_edit.proofs.Putting.{put_now}
use Rattle.source_edit.proofs.changes.Replacements.put.Goals as goal

pub returns : goal.returns
returns c = fun_ext (λ (other : WordPlace).
    put_now (λ words. words.now) is_place (get place_cmp c.args.self.now.index) (get place_cmp c.insert.new.self) c.args.place c.args.words c.in_ok-insert.ensures.updates.0 other)
