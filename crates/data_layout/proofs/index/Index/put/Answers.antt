use Rattle.std.proofs.Common.{◌++◌, ◌∙◌, ap, ℕ, List}
use Rattle.std.specs.Ordering.{nat_cmp, is_eq}
use Rattle.std.specs.Cmp.Lexicographic.{slice_cmp}
use Rattle.std.specs.Map.{lookup}
use Rattle.data_layout.specs.Index.{list_or_none}
use Rattle.data_layout.proofs.InIndex.{put-one}
use Rattle.data_layout.proofs.index.Index.put.Goals as goal

pub returns : goal.returns
returns c = λ (other : List ℕ).
    ap (λ es. list_or_none (lookup (λ k. is_eq (slice_cmp nat_cmp other k.items)) es)) c.in_ok-insert.ensures.entries
    ∙ put-one c.args.self.now.lists.entries (λ k. k.items) c.extend_from_slice.new.self c.args.name.now other c.args.list
    (c.in_ok-extend_from_slice.ensures.items ∙ ap (λ (xs : List ℕ). xs ++ c.items.result.now) c.new-key.ensures.items ∙ c.items.ensures)
