-- A walk along wishes that go by places, which keeps what it has seen for the place where it is.
use Rattle.std.specs.Prelude.{Bool, false, not, List, [], ◌∷◌, ◌++◌, if◌then◌else◌}
use Rattle.y2k_base.specs.declared.edit.Edit.{Edit}
use Rattle.y2k_base.specs.Edits.{word_of, is_of}
use Rattle.cobol_syntax.specs.declared.program.Program.{Program}
use Rattle.word_wishes.specs.Chosen.{with_wish, unless_kept}

-- what is seen is for another place
abbrev pub are_elsewhere : List Edit → Edit → Bool
are_elsewhere [] wish = false
are_elsewhere (first ∷ seen) wish = not (is_of (word_of first) wish)

abbrev pub edits_from : List Program → List Edit → List Edit → List Edit
edits_from programs seen [] = unless_kept programs seen
edits_from programs seen (wish ∷ wishes) =
    if are_elsewhere seen wish then unless_kept programs seen ++ edits_from programs (with_wish [] wish) wishes
    else edits_from programs (with_wish seen wish) wishes
