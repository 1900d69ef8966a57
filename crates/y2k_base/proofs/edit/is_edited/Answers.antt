use Rattle.std.proofs.Common.{rules, ◌∙◌}
use Rattle.std.proofs.lemmas.List.Sorted.{answers_always}
use Rattle.y2k_base.specs.Edits.{word_of}
use Rattle.y2k_base.proofs.EditLaws.{searched}
use Rattle.y2k_base.proofs.edit.is_edited.Goals as goal

pub returns : goal.returns
returns c =
    c.is_ok.ensures.value
    ∙ searched c.args.edits.now c.args.word _ c.requires c.binary_search_by_key.ensures.bound
    (c.binary_search_by_key.ensures.position word_of (answers_always _ _ _ (λ f a r f' k. search rules)))
