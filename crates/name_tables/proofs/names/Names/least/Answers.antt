use Rattle.std.proofs.Common.{ℕ, List, sym, subst}
use Rattle.name_tables.specs.Names.{named, IsLeast}
use Rattle.name_tables.proofs.Least.{least_of}
use Rattle.name_tables.proofs.names.Names.least.Goals as goal

pub returns-in-Some-clause-some : goal.returns-in-Some-clause-some
returns-in-Some-clause-some c =
    subst (λ (name : List ℕ). IsLeast (named c.args.self.now) name) (sym c.as_slice.ensures.value)
    (c.in-Some.ensures.member, λ other there. least_of (λ k. k.items) c.args.self.now.index.keys c.in-Some.name.now other c.in-Some.ensures.all_from there)
