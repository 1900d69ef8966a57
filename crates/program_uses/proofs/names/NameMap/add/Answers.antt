use Rattle.std.proofs.Common.{◌++◌, ◌∙◌, ap, ℕ, List}
use Rattle.std.proofs.Math.Path.{fun_ext}
use Rattle.std.specs.Option.{is_some}
use Rattle.std.specs.Ordering.{nat_cmp, is_eq}
use Rattle.std.specs.Cmp.Lexicographic.{slice_cmp}
use Rattle.std.specs.Map.{lookup}
use Rattle.program_uses.specs.Names.{wrong_of}
use Rattle.program_uses.proofs.InNames.{one-more}
use Rattle.program_uses.proofs.names.NameMap.add.Goals as goal

pub returns : goal.returns
returns c = fun_ext (λ (other : List ℕ).
    ap (λ es. wrong_of (lookup (λ k. is_eq (slice_cmp nat_cmp other k.items)) es)) c.in_ok-insert.ensures.entries
    ∙ one-more c.args.self.now.more.entries (λ k. k.items) c.extend_from_slice.new.self c.args.name.now other c.contains_key-again.result
    (c.in_ok-extend_from_slice.ensures.items ∙ ap (λ (xs : List ℕ). xs ++ c.items-2.result.now) c.new-key.ensures.items ∙ c.items-2.ensures)
    (c.contains_key-again.ensures ∙ ap (λ (xs : List ℕ). is_some (lookup (λ k. is_eq (slice_cmp nat_cmp xs k.items)) c.args.self.now.more.entries)) c.items.ensures))
