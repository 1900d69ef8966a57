use Rattle.std.proofs.Common.{ℕ, List, Option, Bor, ap}
use Rattle.std.specs.Option.{option_map}
use Rattle.file_uses.specs.Names.{with_files}
use Rattle.file_uses.proofs.known.names_of.Goals as goal

pub loop-rest-init : goal.loop-rest-init
loop-rest-init c = ap (λ (f : List ℕ → Option (Bor (List ℕ))). with_files (λ (e : List ℕ). option_map (λ (name : Bor (List ℕ)). name.now) (f e)) c.args.files.now) c.new-names.ensures
