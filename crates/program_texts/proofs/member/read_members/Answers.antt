use Rattle.std.proofs.Common.{ap, arith}
use Rattle.program_texts.specs.Programs.{Before, before_of, HasRefusal}
use Rattle.program_texts.proofs.Rest.{err_carried, goes_on, goes_to_end, refused_here}
use Rattle.program_texts.proofs.member.read_members.Goals as goal

pub loop-source-preserved : goal.loop-source-preserved
loop-source-preserved c = (
  omega (arith, ap (λ (b : Before). b.bytes) c.in_ok-add.ensures, c.in_ok-member.ensures.bytes, c.in_ok-member.ensures.most),
  goes_on c.args.books.now.list c.args.sources.now (before_of c.loop-source.progress) (before_of c.add.new.self) c.loop-source.rest.now c.in-Some.source.now c.in-Some.more.now
      c.in_ok-member.member.program c.in_ok-member.member.layout c.loop-source.members.programs c.add-in-Some.new.self.programs c.loop-source.members.layouts c.add-in-Some.new.self.layouts
      c.in-Some.ensures.some c.in_ok-add.ensures c.in_ok-add-2.ensures.programs c.in_ok-add-2.ensures.layouts c.in_ok-member.ensures.member c.loop-source.invariant.1,
)

pub returns-in_err-member-clause-fault : goal.returns-in_err-member-clause-fault
returns-in_err-member-clause-fault c =
    err_carried (HasRefusal c.args.books.now.list c.args.sources.now) c.from_residual.result c.in_err-member.field-0.0 c.from_residual.ensures.1
    (refused_here c.args.books.now.list c.args.sources.now (before_of c.loop-source.progress) c.loop-source.rest.now c.in-Some.source.now c.in-Some.more.now
    c.loop-source.members.programs c.loop-source.members.layouts c.in-Some.ensures.some c.loop-source.invariant.1 c.in_err-member.field-0.0 c.in_err-member.ensures.fault)

pub returns-clause-members : goal.returns-clause-members
returns-clause-members c =
    goes_to_end c.args.books.now.list c.args.sources.now (before_of c.loop-source.progress) c.loop-source.rest.now c.loop-source.members.programs c.loop-source.members.layouts
    c.in_default.ensures.none c.loop-source.invariant.1
