use Rattle.std.proofs.Common.{ℕ, List, Option, Bor, ap, ◌∙◌}
use Rattle.std.proofs.Math.Path.{fun_ext}
use Rattle.std.specs.Option.{option_map}
use Rattle.std.specs.Str.{bytes_eq}
use Rattle.name_tables.specs.Table.{held}
use Rattle.file_uses.proofs.Appended.{value_shown}
use Rattle.file_uses.proofs.known.put.Goals as goal

pub returns : goal.returns
returns c = fun_ext (λ (e : List ℕ).
    ap (λ (f : List ℕ → Option (Bor (List ℕ))). option_map (λ (name : Bor (List ℕ)). name.now) (f e)) c.in_ok-put.ensures
    ∙ value_shown (bytes_eq c.args.key.now e) c.args.name (held c.args.names.now e))
