use Rattle.std.proofs.Common.{◌∙◌, ap, sym, Some, ℕ, Vec}
use Rattle.std.specs.Option.{option_map}
use Rattle.std.specs.declared.alloc.Global.{Global}
use Rattle.shelf.proofs.Held.{get-held}
use Rattle.shelf.proofs.memory_shelf.bytes_at.Goals as goal

pub returns-in-Some : goal.returns-in-Some
returns-in-Some c =
    ap Some c.as_slice.ensures.value
    ∙ ap (option_map (λ (w : Vec ℕ Global). w.items)) c.in-Some.ensures.value
    ∙ sym (get-held c.args.files.now c.args.name.now)

pub returns-in-None : goal.returns-in-None
returns-in-None c =
    ap (option_map (λ (w : Vec ℕ Global). w.items)) c.in-None.ensures.value
    ∙ sym (get-held c.args.files.now c.args.name.now)
