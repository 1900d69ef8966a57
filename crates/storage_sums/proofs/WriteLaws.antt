-- What is written to the receivers of a statement.
use Rattle.std.proofs.Common.{◌≡◌, ◌&&◌, Bool, cond, Option, Some}
use Rattle.program_meaning.specs.Answer.{Gives, and_then}
use Rattle.program_meaning.specs.Arithmetic.{Outcome, written, written_rest, result_bytes}
use Rattle.program_meaning.specs.Layout.{Layout}
use Rattle.program_meaning.specs.Storage.{Storage, view, write}
use Rattle.program_meaning.specs.Tree as tree
use Rattle.storage_sums.proofs.FailLaws.{then_made}

-- the first receiver is written as that of a remainder is
pub written_as : (layout : Layout) (store : Storage) (phrase : Bool) (to : tree.Place) (rest : Option tree.Place) (o : Outcome) → written layout store phrase to rest o ≡ and_then (written_rest layout store (Some to) o.result store)
    (λ s. and_then (written_rest layout store rest o.rest s) (λ t. Gives (o.is_error, cond (o.is_error && phrase) store t)))
written_as layout store phrase to rest o =
    then_made (view layout store to) (λ v. write store v.span (result_bytes v.kind o.result))
    (λ s. and_then (written_rest layout store rest o.rest s) (λ t. Gives (o.is_error, cond (o.is_error && phrase) store t)))
