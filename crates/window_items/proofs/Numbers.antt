-- The numbers of programs, from the last program on.
use Rattle.std.proofs.Common.{◌≡◌, ℕ, ◌+◌, ◌<◌, List, ◌∷◌, length, drop, get_or, Option, refl, ap, sym, ◌∙◌}
use Rattle.std.proofs.lemmas.List.{drop_more}
use Rattle.cobol_syntax.specs.declared.program.Program.{Program}
use Rattle.name_tables.specs.Table.{with_value}
use Rattle.window_items.specs.Items.{numbers_from}

pub one_earlier : (programs : List Program) (i : ℕ) (p : Program) → i < length programs → p ≡ get_or programs i p
    → with_value (numbers_from (i + 1) (drop (i + 1) programs)) p.id i ≡ numbers_from i (drop i programs)
one_earlier programs i p inside is =
    ap (λ (q : Program). with_value (numbers_from (i + 1) (drop (i + 1) programs)) q.id i) is
    ∙ ap (numbers_from i) (sym (drop_more programs i p inside))
