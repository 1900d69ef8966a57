-- One item more is tied.
use Rattle.std.proofs.Common.{◌≡◌, List, [], ◌∷◌, ◌++◌, Option, sym, ap, ◌∙◌, append_assoc}
use Rattle.y2k_base.specs.declared.word.Origin.{Origin}
use Rattle.year_labels.specs.declared.rule.RuleInst.{RuleInst}
use Rattle.date_types.specs.declared.pictures.Pictured.{Pictured}
use Rattle.date_types.specs.Pictures.{tie, ties, after}

pub one_more : (old mid all : List RuleInst) (before next : Origin → Option Pictured) (found : Option Pictured) (one : Pictured) (more rest : List Pictured) → rest ≡ one ∷ more → found ≡ before one.origin → mid ≡ old ++ tie found one → next ≡ after before one
    → old ++ ties before rest ≡ all → mid ++ ties next more ≡ all
one_more old mid all before next found one more rest splits found_is pushed kept h =
    ap (λ (xs : List RuleInst). xs ++ ties next more) pushed
    ∙ append_assoc old (tie found one) (ties next more)
    ∙ ap (λ (x : Option Pictured). old ++ (tie x one ++ ties next more)) found_is
    ∙ ap (λ (t : Origin → Option Pictured). old ++ (tie (before one.origin) one ++ ties t more)) kept
    ∙ ap (λ (r : List Pictured). old ++ ties before r) (sym splits)
    ∙ h
