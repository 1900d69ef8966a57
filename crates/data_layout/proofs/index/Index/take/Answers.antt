use Rattle.std.proofs.Common.{◌∙◌, ap, ℕ, List}
use Rattle.std.specs.Ordering.{nat_cmp, is_eq}
use Rattle.std.specs.Cmp.Lexicographic.{slice_cmp}
use Rattle.std.specs.Str.{bytes_eq}
use Rattle.std.specs.Map.{lookup}
use Rattle.data_layout.specs.Index.{list_or_none}
use Rattle.data_layout.proofs.InIndex.{others-stay}
use Rattle.data_layout.proofs.index.Index.take.Goals as goal

pub returns-in-Some-clause-others : goal.returns-in-Some-clause-others
returns-in-Some-clause-others c = λ other differ.
    ap list_or_none (ap (λ es. lookup (λ k. is_eq (slice_cmp nat_cmp other k.items)) es) c.remove.ensures.entries
    ∙ others-stay c.args.self.now.lists.entries (λ k. k.items) c.items.result.now other (ap (λ (xs : List ℕ). bytes_eq xs other) c.items.ensures ∙ differ))

pub returns-in-None-clause-others : goal.returns-in-None-clause-others
returns-in-None-clause-others c = λ other differ.
    ap list_or_none (ap (λ es. lookup (λ k. is_eq (slice_cmp nat_cmp other k.items)) es) c.remove.ensures.entries
    ∙ others-stay c.args.self.now.lists.entries (λ k. k.items) c.items.result.now other (ap (λ (xs : List ℕ). bytes_eq xs other) c.items.ensures ∙ differ))
