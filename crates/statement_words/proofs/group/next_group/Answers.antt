use Rattle.std.proofs.Common.{◌≡◌, ◌∷◌, List, map, drop, suc, ◌+◌, sym, ap, ◌∙◌, arith}
use Rattle.statement_places.specs.declared.parts.Part.{Part}
use Rattle.statement_places.specs.Parts.{seen}
use Rattle.statement_words.specs.Groups.{groups}
use Rattle.statement_words.proofs.Grouped.{grouped, headed, behind_first}
use Rattle.statement_words.proofs.group.next_group.Goals as goal

pub returns-in-len1-up-clause-groups : goal.returns-in-len1-up-clause-groups
returns-in-len1-up-clause-groups c =
    let parts = c.args.parts.now in
    let count = c.count_more-count.result in
    let behind : 1 + count ≡ suc count = omega arith in
    grouped parts c.first-item.result (behind_first parts) count (1 + count) (headed parts c.first-item.result c.in-len1-up.len_at_least c.first-item.is) behind c.count_more-count.ensures.count
    ∙ ap (λ (l : List Part). map seen l ∷ groups (map seen (drop (1 + count) parts))) (sym c.split_at.ensures.front)
    ∙ ap (λ (l : List Part). map seen c.split_at.result.0.now ∷ groups (map seen l)) (sym c.split_at.ensures.back)
