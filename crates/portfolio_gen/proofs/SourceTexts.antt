-- A text from its parts.
use Rattle.std.proofs.Common.{◌≡◌, ℕ, List, ap, ◌∙◌}
use Rattle.y2k_base.specs.declared.text.Text.{Text}
use Rattle.y2k_base.specs.declared.text.TextRole.{TextRole}

pub same_parts : (name name' key key' bytes bytes' : List ℕ) (role : TextRole) → name ≡ name' → key ≡ key' → bytes ≡ bytes'
    → ◌≡◌ {A = Text} (record { name = name; key = key; role = role; bytes = bytes }) (record { name = name'; key = key'; role = role; bytes = bytes' })
same_parts name name' key key' bytes bytes' role e f g =
    let named : (n : List ℕ) → Text = λ (n : List ℕ). record { name = n; key = key; role = role; bytes = bytes } in
    let keyed : (k : List ℕ) → Text = λ (k : List ℕ). record { name = name'; key = k; role = role; bytes = bytes } in
    let filled : (b : List ℕ) → Text = λ (b : List ℕ). record { name = name'; key = key'; role = role; bytes = b } in
    ap named e ∙ ap keyed f ∙ ap filled g
