use Rattle.std.proofs.Common.{◌||◌, ◌++◌, ◌∙◌, ap, ℕ, List, Bool}
use Rattle.std.proofs.Math.Path.{fun_ext}
use Rattle.std.specs.Ordering.{nat_cmp, is_eq}
use Rattle.std.specs.Cmp.Lexicographic.{slice_cmp}
use Rattle.std.specs.List.{list_any}
use Rattle.std.proofs.lemmas.Map.Text.{is_eq-slice_cmp}
use Rattle.name_tables.proofs.InNames.{any-insert, is_alike}
use Rattle.name_tables.proofs.names.Names.add.Goals as goal

pub returns : goal.returns
returns c = fun_ext (λ (other : List ℕ).
    ap (list_any (λ k. is_eq (slice_cmp nat_cmp other k.items))) c.in_ok-insert.ensures.keys
    ∙ any-insert (λ a b. slice_cmp nat_cmp a.items b.items) (λ k. is_eq (slice_cmp nat_cmp other k.items)) (λ a b. is_alike other a.items b.items) c.args.self.now.index.keys c.extend_from_slice.new.self
    ∙ ap (λ (xs : List ℕ). is_eq (slice_cmp nat_cmp other xs) || list_any (λ k. is_eq (slice_cmp nat_cmp other k.items)) c.args.self.now.index.keys) (c.in_ok-extend_from_slice.ensures.items ∙ ap (λ (xs : List ℕ). xs ++ c.args.name.now) c.new-bytes.ensures.items)
    ∙ ap (λ (b : Bool). b || list_any (λ k. is_eq (slice_cmp nat_cmp other k.items)) c.args.self.now.index.keys) (is_eq-slice_cmp other c.args.name.now))
