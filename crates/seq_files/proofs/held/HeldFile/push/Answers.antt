use Rattle.std.proofs.Common.{◌≡◌, ◌%◌, ◌++◌, List, ℕ, length, ap, ap₂, sym, subst, ◌∙◌}
use Rattle.seq_files.specs.Bytes.{bytes_in}
use Rattle.seq_files.proofs.HeldLaws.{whole-after, disk-pushed}
use Rattle.seq_files.proofs.held.HeldFile.push.Goals as goal

pub invariant_of-self-clause-whole : goal.invariant_of-self-clause-whole
invariant_of-self-clause-whole c =
    whole-after c.append.result c.args.self.now.size c.in-Some.bytes c.append.new.self c.items.result.now c.append.ensures.ok c.append.ensures.err
    (subst (λ b. length (bytes_in b) % c.args.self.now.size ≡ 0) c.in-Some.is c.args.self.now.whole) (ap length c.items.ensures ∙ c.requires.size)

pub returns-in_ok-append-in-Some-clause-ok : goal.returns-in_ok-append-in-Some-clause-ok
returns-in_ok-append-in-Some-clause-ok c =
    disk-pushed c.args.self.now.size c.args.self.now.bytes c.args.self.now.state c.append.new.self c.args.row c.args.self.now.positive c.requires.state c.args.self.now.whole c.requires.size
    (c.in_ok-append-in-Some.ensures.ok ∙ ap₂ (λ (a b : List ℕ). a ++ b) (sym (ap bytes_in c.in-Some.is)) c.items.ensures)

pub returns-in-None-clause-ok : goal.returns-in-None-clause-ok
returns-in-None-clause-ok c =
    disk-pushed c.args.self.now.size c.args.self.now.bytes c.args.self.now.state c.args.row c.args.row c.args.self.now.positive c.requires.state c.args.self.now.whole c.requires.size
    (sym (ap (λ b. bytes_in b ++ c.args.row) c.in-None.is))
